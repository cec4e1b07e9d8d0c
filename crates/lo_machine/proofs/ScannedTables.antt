-- The columns that may name objects, table by table in the order of the names.
use Rattle.std.proofs.Common.{◌≡◌, ℕ, ◌+◌, Bool, true, false, cond, List, [], ◌∷◌, ◌++◌, map, drop, Option, Some, None, refl, ap, ap₂, sym, ◌∙◌, append-nil, append_assoc}
use Rattle.std.specs.Prelude.{bytes_eq, is_some, option_map, slice_get}
use Rattle.std.specs.List.{AllByRecursion, flat_map}
use Rattle.std.specs.Option.{unwrap_or}
use Rattle.std.proofs.lemmas.Bool.{false≢true}
use Rattle.std.proofs.lemmas.Option.{none-some}
use Rattle.std.proofs.lemmas.Slice.Eq.{bytes_eq-Decides}
use Rattle.lo_base.specs.declared.column.Column.{Column}
use Rattle.lo_model.specs.Database.{Table}
use Rattle.lo_model.specs.Listing.{by_name, tables_in_order}
use Rattle.lo_restore.proofs.NamesSaved.{IsAt, all_found, all_in_order, at_name, finds}
use Rattle.orphan_sweep.specs.declared.act.Scan.{Scan}
use Rattle.row_tables.specs.Catalog.{AreTables, columns_of, name_of, table_in}
use Rattle.lo_machine.specs.SweepRows.{scans_of, scans_of_table}

-- ---- a table of each name is there

abbrev IsNamed : List Table → Table → Type 0
IsNamed ts t = is_some (table_in t.name ts) ≡ true

still_named : (t : Table) (ts us : List Table) → AllByRecursion (IsNamed ts) us → AllByRecursion (IsNamed (t ∷ ts)) us
still_named t ts [] all = tt
still_named t ts (u ∷ us) all = (by (bytes_eq t.name u.name) all.0, still_named t ts us all.1)
  where
    by : (b : Bool) → is_some (table_in u.name ts) ≡ true → is_some (cond b (Some t) (table_in u.name ts)) ≡ true
    by true is = refl
    by false is = is

all_named : (ts : List Table) → AllByRecursion (IsNamed ts) ts
all_named [] = tt
all_named (t ∷ ts) = (ap (λ (b : Bool). is_some (cond b (Some t) (table_in t.name ts))) ((bytes_eq-Decides t.name t.name).1 refl), still_named t ts ts (all_named ts))

pub name_there : (ts : List Table) (k : ℕ) (name : List ℕ) → Some name ≡ slice_get (map name_of (tables_in_order ts)) k → None ≡ option_map columns_of (table_in name ts) → ⊥
name_there ts k name is none =
    let at = at_name (IsNamed ts) (tables_in_order ts) k name (all_in_order by_name (IsNamed ts) ts (all_named ts)) (sym is) in
    by (table_in name ts) none (ap (λ (n : List ℕ). is_some (table_in n ts)) (sym at.named) ∙ at.holds)
  where
    by : (o : Option Table) → None ≡ option_map columns_of o → is_some o ≡ true → ⊥
    by None none some = false≢true some
    by (Some t) none some = none-some t.columns none

-- ---- the loop over names

-- the columns so far are those of the tables before a place
pub record Scanned (ts : List Table) (k : ℕ) (scans : List Scan) : Type 0 where
  pub all : AreTables ts → scans ++ flat_map scans_of_table (drop k (tables_in_order ts)) ≡ scans_of ts

pub scanned_first : (ts : List Table) → Scanned ts 0 []
scanned_first ts = record { all = λ are. refl }

abbrev table_by : List ℕ → List Column → Table
table_by name columns = record { name = name; columns = columns }

module _ (ts : List Table) (k : ℕ) (scans : List Scan) (scanned : Scanned ts k scans) where
  pub scanned_next : (name : List ℕ) (columns : List Column) (more : List Scan) → Some name ≡ slice_get (map name_of (tables_in_order ts)) k → Some columns ≡ option_map columns_of (table_in name ts) → more ≡ scans ++ scans_of_table (record { name = name; columns = columns }) → Scanned ts (k + 1) more
  scanned_next name columns more is there adds = record {
    all = λ are.
        let at : IsAt (tables_in_order ts) (finds ts) k name = at_name (finds ts) (tables_in_order ts) k name (all_in_order by_name (finds ts) ts (all_found ts are.distinct)) (sym is) in
        let found : Some columns ≡ Some at.table.columns = there ∙ ap (option_map columns_of) (ap (λ (n : List ℕ). table_in n ts) (sym at.named) ∙ at.holds) in
        let same : columns ≡ at.table.columns = ap (λ (o : Option (List Column)). unwrap_or o columns) found in
        let rest = flat_map scans_of_table (drop (k + 1) (tables_in_order ts)) in
        ap (λ (ss : List Scan). ss ++ rest) adds
        ∙ (append_assoc scans (scans_of_table (table_by name columns)) rest
        ∙ (ap₂ (λ (n : List ℕ) (cs : List Column). scans ++ (scans_of_table (table_by n cs) ++ rest)) (sym at.named) same
        ∙ (ap (λ (us : List Table). scans ++ flat_map scans_of_table us) (sym at.next) ∙ scanned.all are)));
  }

  pub scanned_all : drop k (tables_in_order ts) ≡ [] → AreTables ts → scans ≡ scans_of ts
  scanned_all none are = sym (append-nil scans) ∙ (ap (λ (us : List Table). scans ++ flat_map scans_of_table us) (sym none) ∙ scanned.all are)
