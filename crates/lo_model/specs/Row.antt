use Rattle.std.specs.Prelude.{ℕ, ℤ, Bool, ◌&&◌, List, [], ◌∷◌, Option, Some, None, bytes_eq, if◌then◌else◌}
use Rattle.std.specs.Ordering.{int_eq}
use Rattle.lo_base.specs.declared.value.Value.{Value}
use Rattle.lo_model.specs.Edit.{Deed, Create, Write, Cut, Unlink, Put, Delete, Edit, deeds}

-- A row of a view is what the view's last put of that row gave it, if no deletion follows that put.
pub record Row : Type 0 where
  pub values : List Value
  pub stored : List (Option ℕ)

-- whether two tables and ids name one row
abbrev pub is_row : (table : List ℕ) (id : ℤ) (table' : List ℕ) (id' : ℤ) → Bool
is_row t i u j = bytes_eq t u && int_eq i j

-- a row after a deed
abbrev pub row_after : (table : List ℕ) (id : ℤ) → Option Row → Deed → Option Row
row_after t i old (Create o) = old
row_after t i old (Write o at bytes) = old
row_after t i old (Cut o size) = old
row_after t i old (Unlink o) = old
row_after t i old (Put u j values stored) = if is_row t i u j then Some (record { values = values; stored = stored }) else old
row_after t i old (Delete u j) = if is_row t i u j then None else old

-- a row after deeds, in order
abbrev pub row_after_all : (table : List ℕ) (id : ℤ) → Option Row → List Deed → Option Row
row_after_all t i old [] = old
row_after_all t i old (d ∷ ds) = row_after_all t i (row_after t i old d) ds

-- the row that a view's edits fold to
abbrev pub row_in : (table : List ℕ) (id : ℤ) → List (Edit Deed) → Option Row
row_in t i edits = row_after_all t i None (deeds edits)
