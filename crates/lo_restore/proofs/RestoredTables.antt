-- Tables that were restored can be saved: they are those of a database, and each row that they have fits.
use Rattle.std.proofs.Common.{◌≡◌, ◌≢◌, ◌≤◌, ◌+◌, ℕ, List, [], ◌∷◌, length, map, Option, Some, None, refl, sym, subst, arith}
use Rattle.std.specs.List.{AllByRecursion}
use Rattle.std.specs.Cmp.Lexicographic.{slice_cmp}
use Rattle.std.specs.Ordering.{nat_cmp}
use Rattle.std.specs.declared.cmp.Ordering.TheVariants.{Less}
use Rattle.lo_model.specs.declared.owner.Owner.TheVariants.{Running}
use Rattle.lo_model.specs.Database.{Table}
use Rattle.lo_model.specs.declared.viewer.Viewer.TheVariants.{Whole}
use Rattle.lo_model.specs.Edit.{Deed, Edit, edits_by}
use Rattle.lo_model.specs.View.{view}
use Rattle.toast_plan.specs.Columns.{AreDistinct, IsTableColumns}
use Rattle.xact_core.specs.Kept.{current}
use Rattle.xact_core.specs.Transactions.{Transactions, levels_of}
use Rattle.row_tables.specs.declared.tables.Tables.{Tables}
use Rattle.row_tables.specs.Catalog as catalog
use Rattle.row_tables.specs.Catalog.{name_of}
use Rattle.lo_opening.specs.declared.opening.TableData.{TableData}
use Rattle.lo_opening.specs.Opening.{AreTables}
use Rattle.lo_restore.specs.Tables.{deeds_in, named_of}
use Rattle.lo_restore.specs.TablesRestored.{HaveDone}
use Rattle.lo_restore.specs.TablesSaved.{AreRowsFit, CanBeSaved, IsNamed}
use Rattle.lo_restore.proofs.RestoredRows.{AreNamedAbove, names_above, tables_fit}
use Rattle.lo_restore.proofs.TableDeeds.{deeds_seen}
use Rattle.lo_restore.proofs.TablesLeft.{not_itself_named}

all_columns : (last : Option (List ℕ)) (table value : ℕ) (list : List TableData) → AreTables last table value list → AllByRecursion (λ (t : Table). IsTableColumns t.columns) (map named_of list)
all_columns last table value [] are = tt
all_columns last table value (t ∷ ts) are = (are.0.columns, all_columns (Some t.name) _ _ ts are.2)

all_named : (last : Option (List ℕ)) (table value : ℕ) (list : List TableData) → AreTables last table value list → AllByRecursion IsNamed (map named_of list)
all_named last table value [] are = tt
all_named last table value (t ∷ ts) are = (are.0.name, all_named (Some t.name) _ _ ts are.2)

names_apart : (name : List ℕ) (ts : List TableData) → AreNamedAbove name ts → AllByRecursion (λ other. other ≢ name) (map name_of (map named_of ts))
names_apart name [] all = tt
names_apart name (t ∷ ts) all = (λ same. not_itself_named name (subst (λ (n : List ℕ). slice_cmp nat_cmp name n ≡ Less) same all.0), names_apart name ts all.1)

all_distinct : (last : Option (List ℕ)) (table value : ℕ) (list : List TableData) → AreTables last table value list → AreDistinct (map name_of (map named_of list))
all_distinct last table value [] are = tt
all_distinct last table value (t ∷ ts) are = (names_apart t.name ts (names_above t.name (Some t.name) _ _ ts (λ other less. less) are.2), all_distinct (Some t.name) _ _ ts are.2)

as_many : (list : List TableData) → length (map named_of list) ≡ length list
as_many [] = refl
as_many (t ∷ ts) = let more = as_many ts in omega (arith, more)

-- what a session's view has of its own deeds
abbrev seen_by : Transactions → (s : ℕ) → List TableData → List (Edit Deed)
seen_by x s list = view (x.clock + 1) (Whole s) (edits_by x.clock (Running s (length (levels_of x s))) (deeds_in list))

pub can_save : (x : Transactions) (s : ℕ) (tables : Tables) (list : List TableData) → AreTables None 1 1 list → length list ≤ 1000 → HaveDone x s tables (map named_of list) (deeds_in list) → CanBeSaved x tables (current x s)
can_save x s tables list are few done = record {
  tables_are = subst catalog.AreTables (sym done.catalog) (record {
    few = omega (arith, few, as_many list);
    distinct = all_distinct None 1 1 list are;
    columns = all_columns None 1 1 list are;
  });
  named = subst (AllByRecursion IsNamed) (sym done.catalog) (all_named None 1 1 list are);
  edits = edits_by x.clock (Running s (length (levels_of x s))) (deeds_in list);
  stand = done.stand;
  rows = subst (λ (ts : List Table). AreRowsFit ts (seen_by x s list)) (sym done.catalog) (tables_fit list (seen_by x s list) are (deeds_seen x.clock s (length (levels_of x s)) (deeds_in list)));
}
