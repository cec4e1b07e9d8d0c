-- What the reading calls look for: a column's place, a part of a value, and the ids of a table.
use Rattle.std.specs.Prelude.{◌≡◌, ℕ, ℤ, true, List, [], ◌∷◌, Some, None, is_some, slice_get}
use Rattle.std.specs.Int.{w64}
use Rattle.std.specs.Int.RustNames.{FitsSigned}
use Rattle.std.specs.List.{list_any}
use Rattle.std.specs.List.Sorted.{IsStrictlySortedBy}
use Rattle.std.specs.Ordering.{int_cmp, int_eq}
use Rattle.lo_base.specs.declared.column.Column.{Column}
use Rattle.lo_base.specs.declared.refusal.Refusal.{Refusal}
use Rattle.lo_base.specs.declared.value.Value.{Value}
use Rattle.xact_core.specs.declared.snapshot.Snapshot.{Snapshot}
use Rattle.xact_core.specs.Transactions.{Transactions}
use Rattle.row_tables.specs.declared.reading.Part.{Part}
use Rattle.row_tables.specs.declared.tables.Tables.{Tables}
use Rattle.row_tables.specs.Keys.{row_key}
use Rattle.row_tables.specs.RowRules.{column_in, is_bytea, slice_refusals, value_under}
use Rattle.row_tables.specs.Standing.{cells_at}
use Rattle.row_tables.specs.Terms.{bad_length, count_of, first_of}

-- A bytea column of the name stands at a place, and its values stand there in rows.
pub record IsPlace (columns : List Column) (name : List ℕ) (place : ℕ) : Type 0 where
  pub column : Column
  pub found : column_in name columns ≡ Some column
  pub bytea : is_bytea column.kind ≡ true
  pub there : slice_get columns place ≡ Some column
  pub value : (row : List Value) (v : Value) → slice_get row place ≡ Some v → value_under name columns row ≡ v

-- a column that cannot be sliced, whatever part of it
abbrev pub IsNoPlace : List Column → (name : List ℕ) → Refusal → Type 0
IsNoPlace columns name r = (from length : ℤ) → first_of (slice_refusals columns name from length) ≡ Some r

-- the numbers of a part are not negative, and one of them is
pub record IsPart (from length : ℤ) (part : Part) : Type 0 where
  pub first : bad_length from ≡ None
  pub second : bad_length length ≡ None
  pub from_is : part.from ≡ count_of from
  pub count_is : part.count ≡ count_of length

abbrev pub IsNoPart : (from length : ℤ) → Refusal → Type 0
IsNoPart from length r = first_of (bad_length from ∷ bad_length length ∷ []) ≡ Some r

-- the ids of the rows that a view has of a table, ascending
pub record ListsIds (x : Transactions) (v : Snapshot) (tables : Tables) (number : ℕ) (ids : List ℤ) : Type 0 where
  pub order : IsStrictlySortedBy int_cmp ids
  pub each : (id : ℤ) → FitsSigned w64 id → list_any (int_eq id) ids ≡ is_some (cells_at x v tables (row_key number id))
  pub only : (id : ℤ) → list_any (int_eq id) ids ≡ true → FitsSigned w64 id
