-- Tables that keep the rules of an opening can be counted: each row has a plan, and their values outside are numbered in 32 bits.
use Rattle.std.proofs.Common.{◌≤◌, ℕ, ℤ, ◌+◌, ◌^◌, List, [], ◌∷◌, Option, Some, None, arith}
use Rattle.std.specs.List.{AllByRecursion}
use Rattle.lo_base.specs.declared.column.Column.{Column}
use Rattle.lo_base.specs.declared.value.Value.{Value}
use Rattle.lo_opening.specs.declared.opening.TableData.{TableData}
use Rattle.lo_opening.specs.Opening.{AreRows, AreTables, id_of, row_outside, rows_outside}
use Rattle.lo_restore.specs.Tables.{tables_outside}
use Rattle.lo_restore.specs.TablesCounted.{HasPlans}
use Rattle.lo_restore.specs.TablesSaved.{IsRowOf}

-- rows

rows_of_opening : (columns : List Column) (table : ℕ) (last : Option ℤ) (value : ℕ) (rows : List (List Value)) → AreRows columns table last value rows → AllByRecursion (IsRowOf columns) rows
rows_of_opening columns table last value [] are = tt
rows_of_opening columns table last value (vs ∷ rows) are = (
  record { values_are = are.0.row.values_are; range = are.0.row.range; fits = are.0.row.fits; arrays = are.0.arrays },
  rows_of_opening columns table (Some (id_of vs)) (value + row_outside columns vs) rows are.2,
)

rows_numbered : (columns : List Column) (table : ℕ) (last : Option ℤ) (value : ℕ) (rows : List (List Value)) → AreRows columns table last value rows → value ≤ 2 ^ 32 → value + rows_outside columns rows ≤ 2 ^ 32
rows_numbered columns table last value [] are few = omega (arith, few)
rows_numbered columns table last value (vs ∷ rows) are few =
    let more = rows_numbered columns table (Some (id_of vs)) (value + row_outside columns vs) rows are.2 are.0.row.numbers in
    omega (arith, more)

-- tables

pub opening_plans : (last : Option (List ℕ)) (table value : ℕ) (list : List TableData) → AreTables last table value list → AllByRecursion HasPlans list
opening_plans last table value [] are = tt
opening_plans last table value (t ∷ ts) are = (
  record { columns = are.0.columns; rows = rows_of_opening t.columns table None value t.rows are.0.rows },
  opening_plans (Some t.name) (table + 1) (value + rows_outside t.columns t.rows) ts are.2,
)

pub opening_numbered : (last : Option (List ℕ)) (table value : ℕ) (list : List TableData) → AreTables last table value list → value ≤ 2 ^ 32 → value + tables_outside list ≤ 2 ^ 32
opening_numbered last table value [] are few = omega (arith, few)
opening_numbered last table value (t ∷ ts) are few =
    let rows = rows_numbered t.columns table None value t.rows are.0.rows few in
    let more = opening_numbered (Some t.name) (table + 1) (value + rows_outside t.columns t.rows) ts are.2 rows in
    omega (arith, more)
