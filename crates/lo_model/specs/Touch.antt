-- What edits touch, and who is in the way of whom. The unit of conflict between transactions is a page, which is 2048 bytes
-- of one object, or a row.
use Rattle.std.specs.Prelude.{◌≡◌, true, ℕ, ℤ, ◌+◌, ◌/◌, zero, suc, min, max, Bool, false, ◌==◌, ◌&&◌, nat_le, List, [], ◌∷◌, length, Option, Some, None, bytes_eq, if◌then◌else◌}
use Rattle.lo_model.specs.declared.owner.Owner.{Owner}
use Rattle.lo_model.specs.declared.owner.Owner.TheVariants.{Running, Committed}
use Rattle.lo_model.specs.Edit.{Deed, Create, Write, Cut, Unlink, Put, Delete, Edit}
use Rattle.lo_model.specs.Row.{is_row}

-- A write touches the pages of its bytes; a cut touches the page that the new end falls into and all above; a creation and
-- an unlink touch the whole object; a put and a deletion touch their row; a rewrite of a table touches all its rows.

-- the bytes of a page. A page begins at its number times this
abbrev pub page_bytes : ℕ
page_bytes = 2048

pub data Touched : Type 0 where
  Nothing : Touched
  Pages : (oid first last : ℕ) → Touched
  PagesFrom : (oid first : ℕ) → Touched
  WholeObject : (oid : ℕ) → Touched
  RowOf : (table : List ℕ) (id : ℤ) → Touched
  RowsOf : (table : List ℕ) → Touched

-- the pages of so many bytes from an offset on: none of no bytes
abbrev pub pages_of : (oid at count : ℕ) → Touched
pages_of o at zero = Nothing
pages_of o at (suc more) = Pages o (at / page_bytes) ((at + more) / page_bytes)

abbrev pub touched : Deed → Touched
touched (Create o) = WholeObject o
touched (Write o at bytes) = pages_of o at (length bytes)
touched (Cut o size) = PagesFrom o (size / page_bytes)
touched (Unlink o) = WholeObject o
touched (Put table id values stored) = RowOf table id
touched (Delete table id) = RowOf table id

-- what can be touched by itself: one page, what an object has beside its pages, or one row
pub data Part : Type 0 where
  Page : (oid number : ℕ) → Part
  Object : (oid : ℕ) → Part
  RowAt : (table : List ℕ) (id : ℤ) → Part

abbrev pub covers : Touched → Part → Bool
covers (Pages o first last) (Page p n) = (o == p) && (nat_le first n && nat_le n last)
covers (PagesFrom o first) (Page p n) = (o == p) && nat_le first n
covers (WholeObject o) (Page p n) = o == p
covers (WholeObject o) (Object p) = o == p
covers (RowOf t i) (RowAt u j) = is_row t i u j
covers (RowsOf t) (RowAt u j) = bytes_eq t u
covers _ _ = false

-- some part is covered by both
pub record SharesPart (a b : Touched) : Type 0 where
  pub part : Part
  pub first : covers a part ≡ true
  pub second : covers b part ≡ true

-- the test for it
abbrev pub meets : Touched → Touched → Bool
meets (Pages o f l) (Pages p g m) = (o == p) && nat_le (max f g) (min l m)
meets (Pages o f l) (PagesFrom p g) = (o == p) && nat_le (max f g) l
meets (Pages o f l) (WholeObject p) = (o == p) && nat_le f l
meets (PagesFrom o f) (Pages p g m) = (o == p) && nat_le (max f g) m
meets (PagesFrom o f) (PagesFrom p g) = o == p
meets (PagesFrom o f) (WholeObject p) = o == p
meets (WholeObject o) (Pages p g m) = (o == p) && nat_le g m
meets (WholeObject o) (PagesFrom p g) = o == p
meets (WholeObject o) (WholeObject p) = o == p
meets (RowOf t i) (RowOf u j) = is_row t i u j
meets (RowOf t i) (RowsOf u) = bytes_eq t u
meets (RowsOf t) (RowOf u j) = bytes_eq t u
meets (RowsOf t) (RowsOf u) = bytes_eq t u
meets _ _ = false

-- the session whose open transaction an edit belongs to, unless it is this one
abbrev pub other_session : (session : ℕ) → Owner → Option ℕ
other_session s (Running t l) = if t == s then None else Some t
other_session s (Committed c) = None

-- the lower of two sessions, if any
abbrev pub lower_of : Option ℕ → Option ℕ → Option ℕ
lower_of None second = second
lower_of (Some a) None = Some a
lower_of (Some a) (Some b) = Some (min a b)

-- the other session, if any, whose open edit touches what a session would touch
abbrev pub holder_of : (session : ℕ) → Touched → Edit Deed → Option ℕ
holder_of s wanted e = if meets wanted (touched e.deed) then other_session s e.owner else None

-- A request is busy with the lowest other session that has an open edit touching what the request would touch.
abbrev pub busy_with : (session : ℕ) → Touched → List (Edit Deed) → Option ℕ
busy_with s wanted [] = None
busy_with s wanted (e ∷ es) = lower_of (holder_of s wanted e) (busy_with s wanted es)

-- A request that would make several edits is busy with the lowest session that holds something of any of them.
abbrev pub busy_with_any : (session : ℕ) → List Touched → List (Edit Deed) → Option ℕ
busy_with_any s [] edits = None
busy_with_any s (wanted ∷ more) edits = lower_of (busy_with s wanted edits) (busy_with_any s more edits)
