-- Tables as they are saved: the rows that a view has of them, by ascending id, and what is asked of them.
use Rattle.std.specs.Prelude.{◌≡◌, ◌<◌, ◌≤◌, ◌^◌, ℕ, ℤ, true, List, length, map, All, Some}
use Rattle.std.specs.Cmp.Lexicographic.{slice_cmp}
use Rattle.std.specs.List.{AllByRecursion}
use Rattle.std.specs.List.Sorted.{IsStrictlySortedBy}
use Rattle.std.specs.Ordering.{nat_cmp, int_cmp}
use Rattle.lo_base.specs.Name.{IsName}
use Rattle.lo_base.specs.declared.column.Column.{Column}
use Rattle.lo_base.specs.declared.value.Cell.{Cell}
use Rattle.lo_base.specs.declared.value.Cell.TheVariants as cells
use Rattle.lo_base.specs.declared.value.Value.{Value}
use Rattle.lo_model.specs.Database.{Table}
use Rattle.lo_model.specs.Edit.{Deed, Edit}
use Rattle.lo_model.specs.Listing.{has_row, ids_in, tables_in_order}
use Rattle.lo_model.specs.Opening.{TableRows}
use Rattle.lo_model.specs.Row.{Row, row_in}
use Rattle.lo_model.specs.View.{view}
use Rattle.toast_plan.specs.Layout.{up_to_8}
use Rattle.toast_plan.specs.Choice.{planned_length}
use Rattle.toast_plan.specs.Columns.{IsTableColumns}
use Rattle.toast_plan.specs.Row.{AreRowValues, value_lengths}
use Rattle.toast_plan.specs.Writing.{HasRange}
use Rattle.xact_core.specs.declared.snapshot.Snapshot.{Snapshot}
use Rattle.xact_core.specs.Transactions.{Transactions}
use Rattle.row_tables.specs.declared.tables.Tables.{Tables}
use Rattle.row_tables.specs.Catalog.{AreTables, table_in}
use Rattle.row_tables.specs.RowRules.{values_in}
use Rattle.row_tables.specs.Standing.{StandFor, tables_in}
use Rattle.lo_opening.specs.declared.opening.TableData.{TableData}
use Rattle.lo_opening.specs.Opening.{HoldArrays, id_of, tables_chunks}
use Rattle.lo_restore.specs.Tables.{tables_outside}

-- ---- what a view has of tables

abbrev pub row_values : List (Edit Deed) → (table : List ℕ) → (id : ℤ) → List Value
row_values edits t i = values_in (row_in t i edits)

abbrev pub rows_in : List (Edit Deed) → (table : List ℕ) → List (List Value)
rows_in edits t = map (row_values edits t) (ids_in t edits)

abbrev pub table_with_rows : List (Edit Deed) → Table → TableRows
table_with_rows edits t = record { name = t.name; columns = t.columns; rows = rows_in edits t.name }

-- all tables in the order of their names
abbrev pub tables_with_rows : List (Edit Deed) → List Table → List TableRows
tables_with_rows edits tables = map (table_with_rows edits) (tables_in_order tables)

-- ---- what is asked of them

-- A row is no longer than a row can be under the storages that its table has now, and its arrays are flat.
pub record IsRowFit (columns : List Column) (values : List Value) : Type 0 where
  pub fits : up_to_8 (planned_length columns (value_lengths values)) ≤ 8160
  pub arrays : HoldArrays columns values

-- each row of a view is so
abbrev pub AreRowsFit : List Table → List (Edit Deed) → Type 0
AreRowsFit tables edits =
    (t : Table) (id : ℤ) (row : Row) → table_in t.name tables ≡ Some t → row_in t.name id edits ≡ Some row → IsRowFit t.columns row.values

abbrev pub IsNamed : Table → Type 0
IsNamed t = IsName t.name

-- Tables that can be saved in a view: they are those of a database, under names that can be spelled, and stand for edits of which
-- each row that the view has is fit.
pub record CanBeSaved (x : Transactions) (tables : Tables) (v : Snapshot) : Type 0 where
  pub tables_are : AreTables (tables_in tables)
  pub named : AllByRecursion IsNamed (tables_in tables)
  pub edits : List (Edit Deed)
  pub stand : StandFor x tables edits
  pub rows : AreRowsFit (tables_in tables) (view v.clock v.viewer edits)

-- a table is there
pub record HasTable (tables : Tables) (name : List ℕ) : Type 0 where
  pub table : Table
  pub there : table_in name (tables_in tables) ≡ Some table

-- a view has a row
pub record HasRowThere (x : Transactions) (tables : Tables) (v : Snapshot) (name : List ℕ) (id : ℤ) : Type 0 where
  pub table : HasTable tables name
  pub edits : List (Edit Deed)
  pub stand : StandFor x tables edits
  pub there : has_row (view v.clock v.viewer edits) name id ≡ true

-- ---- what is saved

-- a row of a table, wherever its values outside are numbered
pub record IsRowOf (columns : List Column) (values : List Value) : Type 0 where
  pub values_are : AreRowValues columns values
  pub range : All HasRange values
  pub fits : up_to_8 (planned_length columns (value_lengths values)) ≤ 8160
  pub arrays : HoldArrays columns values

-- a table with rows by ascending id
pub record IsTable (t : TableData) : Type 0 where
  pub name : IsName t.name
  pub columns : IsTableColumns t.columns
  pub rows : AllByRecursion (IsRowOf t.columns) t.rows
  pub order : IsStrictlySortedBy int_cmp (map id_of t.rows)
  pub few_rows : length t.rows < 2 ^ 64

abbrev pub name_in : TableData → List ℕ
name_in t = t.name

-- tables by ascending name
pub record AreInOrder (list : List TableData) : Type 0 where
  pub each : AllByRecursion IsTable list
  pub order : IsStrictlySortedBy (slice_cmp nat_cmp) (map name_in list)

-- The values outside can be numbered from 1 on, and their chunks counted, in 32 bits.
pub record AreCountable (list : List TableData) : Type 0 where
  pub values : tables_outside list < 2 ^ 32
  pub chunks : tables_chunks list < 2 ^ 32

-- ---- cells as values

-- a cell with its value in it, that no reply has changed
abbrev pub HasValueIn : Cell → Type 0
HasValueIn cells.Null = Unit {0}
HasValueIn (cells.Int n) = Unit {0}
HasValueIn (cells.Oid n) = Unit {0}
HasValueIn (cells.Inline bytes) = Unit {0}
HasValueIn (cells.Text bytes) = ⊥
HasValueIn (cells.Outside l n) = ⊥
