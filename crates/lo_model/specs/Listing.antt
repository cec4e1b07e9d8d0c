-- The objects and the rows of a view, listed in order.
use Rattle.std.specs.Prelude.{ℕ, ℤ, Bool, List, [], ◌∷◌, ◌++◌, filter, is_some, bytes_eq, if◌then◌else◌}
use Rattle.std.specs.declared.cmp.Ordering.{Ordering}
use Rattle.std.specs.Ordering.{nat_cmp, int_cmp}
use Rattle.std.specs.BTreeSet.{insert_key}
use Rattle.std.specs.Cmp.Lexicographic.{slice_cmp}
use Rattle.lo_model.specs.Database.{Table}
use Rattle.lo_model.specs.Edit.{Deed, Create, Put, Edit, deeds}
use Rattle.lo_model.specs.Object.{object_in}
use Rattle.lo_model.specs.Row.{row_in}

-- all items once, ascending
abbrev pub in_order : {K : Type 0} → (K → K → Ordering) → List K → List K
in_order cmp [] = []
in_order cmp (k ∷ ks) = insert_key cmp (in_order cmp ks) k

-- the number that a deed creates an object under, and the id that it puts a row of a table under
abbrev pub created_oid : Deed → List ℕ
created_oid (Create o) = o ∷ []
created_oid _ = []

abbrev pub put_id : (table : List ℕ) → Deed → List ℤ
put_id table (Put other id values stored) = if bytes_eq table other then id ∷ [] else []
put_id table _ = []

abbrev pub created_oids : List Deed → List ℕ
created_oids [] = []
created_oids (d ∷ ds) = created_oid d ++ created_oids ds

abbrev pub put_ids : (table : List ℕ) → List Deed → List ℤ
put_ids table [] = []
put_ids table (d ∷ ds) = put_id table d ++ put_ids table ds

abbrev pub has_object : List (Edit Deed) → (oid : ℕ) → Bool
has_object view o = is_some (object_in o view)

abbrev pub has_row : List (Edit Deed) → (table : List ℕ) → (id : ℤ) → Bool
has_row view table i = is_some (row_in table i view)

-- the numbers of all objects of a view, ascending
abbrev pub oids_in : List (Edit Deed) → List ℕ
oids_in view = filter (has_object view) (in_order nat_cmp (created_oids (deeds view)))

-- the ids of all rows of a table in a view, ascending
abbrev pub ids_in : (table : List ℕ) → List (Edit Deed) → List ℤ
ids_in table view = filter (has_row view table) (in_order int_cmp (put_ids table (deeds view)))

-- tables ascending by name, byte by byte
abbrev pub by_name : Table → Table → Ordering
by_name a b = slice_cmp nat_cmp a.name b.name

abbrev pub tables_in_order : List Table → List Table
tables_in_order tables = in_order by_name tables
