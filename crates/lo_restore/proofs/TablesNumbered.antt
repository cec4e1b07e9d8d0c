-- Tables in order, whose values outside can all be numbered, keep the rules of an opening.
use Rattle.std.proofs.Common.{◌≡◌, ◌<◌, ◌≤◌, ℕ, ℤ, ◌+◌, ◌^◌, true, List, [], ◌∷◌, length, map, Option, Some, None, refl, arith}
use Rattle.std.specs.Cmp.Lexicographic.{slice_cmp}
use Rattle.std.specs.List.{AllByRecursion}
use Rattle.std.specs.List.Sorted.{IsStrictlySortedBy}
use Rattle.std.specs.Ordering.{nat_cmp, int_cmp}
use Rattle.std.specs.declared.cmp.Ordering.TheVariants.{Less}
use Rattle.lo_base.specs.declared.column.Column.{Column}
use Rattle.lo_base.specs.declared.value.Value.{Value}
use Rattle.toast_plan.specs.Columns.{IsTableColumns}
use Rattle.lo_opening.specs.declared.opening.TableData.{TableData}
use Rattle.lo_opening.specs.Opening.{AreRows, AreTables, NameFollows, id_follows, id_of, row_outside, rows_outside}
use Rattle.lo_restore.specs.Tables.{tables_outside}
use Rattle.lo_restore.specs.TablesSaved.{AreCountable, AreInOrder, IsRowOf, IsTable, name_in}
use Rattle.lo_restore.proofs.TableDeeds.{of_less}

-- rows

abbrev FirstRowFollows : Option ℤ → List (List Value) → Type 0
FirstRowFollows last [] = Unit {0}
FirstRowFollows last (vs ∷ rows) = id_follows last (id_of vs) ≡ true

first_row : (id : ℤ) (rows : List (List Value)) → AllByRecursion (λ y. int_cmp id y ≡ Less) (map id_of rows) → FirstRowFollows (Some id) rows
first_row id [] all = tt
first_row id (vs ∷ rows) all = of_less id (id_of vs) all.0

are_rows : (columns : List Column) (table : ℕ) (last : Option ℤ) (value : ℕ) (rows : List (List Value)) → IsTableColumns columns → table < 2 ^ 32 → AllByRecursion (IsRowOf columns) rows → IsStrictlySortedBy int_cmp (map id_of rows) → FirstRowFollows last rows → value + rows_outside columns rows ≤ 2 ^ 32 → AreRows columns table last value rows
unfolding IsStrictlySortedBy
are_rows columns table last value [] can few each order first numbers = tt
are_rows columns table last value (vs ∷ rows) can few each order first numbers = (
  record {
    row = record {
      columns_are = can;
      values_are = each.0.values_are;
      range = each.0.range;
      fits = each.0.fits;
      numbers = omega (arith, numbers);
      table_is = few;
    };
    arrays = each.0.arrays;
  },
  first,
  are_rows columns table (Some (id_of vs)) (value + row_outside columns vs) rows can few each.1 order.1 (first_row (id_of vs) rows order.0) (omega (arith, numbers)),
)

-- tables

abbrev FirstTableFollows : Option (List ℕ) → List TableData → Type 0
FirstTableFollows last [] = Unit {0}
FirstTableFollows last (t ∷ ts) = NameFollows last t.name

first_table : (name : List ℕ) (ts : List TableData) → AllByRecursion (λ y. slice_cmp nat_cmp name y ≡ Less) (map name_in ts) → FirstTableFollows (Some name) ts
first_table name [] all = tt
first_table name (t ∷ ts) all = all.0

are_tables : (last : Option (List ℕ)) (table value : ℕ) (list : List TableData) → AllByRecursion IsTable list → IsStrictlySortedBy (slice_cmp nat_cmp) (map name_in list) → FirstTableFollows last list → table + length list ≤ 2 ^ 32 → value + tables_outside list ≤ 2 ^ 32 → AreTables last table value list
unfolding IsStrictlySortedBy
are_tables last table value [] each order first few numbers = tt
are_tables last table value (t ∷ ts) each order first few numbers = (
  record {
    name = each.0.name;
    columns = each.0.columns;
    rows = are_rows t.columns table None value t.rows each.0.columns (omega (arith, few)) each.0.rows each.0.order (any_first t.rows) (omega (arith, numbers));
    few_rows = each.0.few_rows;
  },
  first,
  are_tables (Some t.name) (table + 1) (value + rows_outside t.columns t.rows) ts each.1 order.1 (first_table t.name ts order.0) (omega (arith, few)) (omega (arith, numbers)),
)
  where
    any_first : (rows : List (List Value)) → FirstRowFollows None rows
    any_first [] = tt
    any_first (vs ∷ rows) = refl

pub all_rules : (list : List TableData) → AreInOrder list → AreCountable list → length list ≤ 1000 → AreTables None 1 1 list
all_rules list order countable few = are_tables None 1 1 list order.each order.order (any_first list) (omega (arith, few)) (omega (arith, countable.values))
  where
    any_first : (ts : List TableData) → FirstTableFollows None ts
    any_first [] = tt
    any_first (t ∷ ts) = tt
