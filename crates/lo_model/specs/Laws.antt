-- What the laws of this crate say. Each is a clause of a function of src/law.rt.
use Rattle.std.specs.Prelude.{◌≡◌, ◌==◌, true, ℕ, ℤ, List}
use Rattle.std.specs.List.{list_any, IsDistinct}
use Rattle.std.specs.List.Sorted.{IsStrictlyIncreasing, IsStrictlySortedBy}
use Rattle.std.specs.Ordering.{int_cmp, int_eq}
use Rattle.lo_model.specs.Edit.{Deed, Edit}
use Rattle.lo_model.specs.Held.{BlockVersion, is_same_version, held_versions, is_read_in_a_view}
use Rattle.lo_model.specs.Listing.{has_object, has_row, oids_in, ids_in}
use Rattle.lo_model.specs.Session.{Session}
use Rattle.lo_model.specs.Touch.{Touched, Part, covers, meets, SharesPart}

-- what meets shares a part, and what shares a part meets
abbrev pub MeetsAtAPart : Type 0
MeetsAtAPart = (a b : Touched) → meets a b ≡ true → SharesPart a b

abbrev pub MeetsWhereShared : Type 0
MeetsWhereShared =
    (a b : Touched) (part : Part) → covers a part ≡ true → covers b part ≡ true → meets a b ≡ true

-- a number is listed of a view exactly where the view has the object, and an id exactly where it has the row
abbrev pub ListsObjects : Type 0
ListsObjects = (v : List (Edit Deed)) (o : ℕ) → list_any (λ k. k == o) (oids_in v) ≡ has_object v o

abbrev pub ListsRows : Type 0
ListsRows =
    (t : List ℕ) (v : List (Edit Deed)) (i : ℤ) → list_any (λ k. int_eq i k) (ids_in t v) ≡ has_row v t i

-- each once and ascending
abbrev pub ObjectsAscend : Type 0
ObjectsAscend = (v : List (Edit Deed)) → IsStrictlyIncreasing (oids_in v)

abbrev pub RowsAscend : Type 0
RowsAscend = (t : List ℕ) (v : List (Edit Deed)) → IsStrictlySortedBy int_cmp (ids_in t v)

-- a version is held exactly where some kept view reads it, and once
abbrev pub HoldsWhatIsRead : Type 0
HoldsWhatIsRead =
    (now : ℕ) (sessions : ℕ → Session) (edits : List (Edit Deed)) (v : BlockVersion) →
    list_any (is_same_version v) (held_versions now sessions edits) ≡ is_read_in_a_view now sessions edits v

abbrev pub HoldsOnce : Type 0
HoldsOnce =
    (now : ℕ) (sessions : ℕ → Session) (edits : List (Edit Deed)) →
    IsDistinct is_same_version (held_versions now sessions edits)
