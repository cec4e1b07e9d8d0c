-- Rows stay flat where edits change owners, where some go or are made, and where tables are made or get other storages. A row
-- of a view is flat.
use Rattle.std.proofs.Common.{◌≡◌, ℕ, zero, suc, ℤ, Bool, true, false, cond, List, [], ◌∷◌, ◌++◌, map, Option, Some, None, refl, ap, sym, subst, ◌∙◌}
use Rattle.std.specs.Prelude.{◌&&◌, bytes_eq, filter, is_some, slice_get, if◌then◌else◌}
use Rattle.std.specs.Option.{unwrap_or}
use Rattle.std.specs.Ordering.{int_eq}
use Rattle.std.proofs.lemmas.Bool.{false≢true}
use Rattle.std.proofs.lemmas.List.Elements.{All-nil, All-cons, All-filter, All-head, All-map, All-tail, All-weaker}
use Rattle.std.proofs.lemmas.Slice.Eq.{bytes_eq-Decides}
use Rattle.lo_base.specs.declared.column.Column.{Column}
use Rattle.lo_base.specs.declared.column.ColType.{ColType}
use Rattle.lo_base.specs.declared.value.Value.{Value}
use Rattle.lo_model.specs.declared.owner.Owner.{Owner}
use Rattle.lo_model.specs.Database.{Table}
use Rattle.lo_model.specs.Edit.{Deed, Create, Write, Cut, Unlink, Put, Delete, Edit, deeds, edits_by}
use Rattle.lo_model.specs.Levels.{owned_by}
use Rattle.lo_model.specs.Row.{Row, is_row, row_after, row_after_all, row_in}
use Rattle.row_tables.specs.Catalog.{columns_in, number_in, table_in, with_columns}
use Rattle.row_tables.specs.Laws.{is_of_objects}
use Rattle.row_tables.specs.RewriteRules.{stored_by, tables_rewritten, with_storages}
use Rattle.row_tables.specs.RowRules.{column_in}
use Rattle.row_tables.proofs.Naming.{stands_at}
use Rattle.row_versions.specs.Stack.{Each}
use Rattle.toast_plan.specs.Columns.{AreDistinct}
use Rattle.lo_machine.specs.FlatRows.{AreFlatRows, AreFlatValues, IsFlatDeed, IsFlatPut, IsFlatValue}
use Rattle.lo_machine.specs.Spelled.{names_of}
use Rattle.lo_machine.specs.Well.{AreNamed, HasNames}

abbrev pub IsFlatEdit : List Table → Edit Deed → Type 0
IsFlatEdit tables e = IsFlatDeed tables e.deed

-- edits under other owners, and new ones

pub flat_owned : (tables : List Table) (change : Owner → Owner) (es : List (Edit Deed)) → AreFlatRows tables es → AreFlatRows tables (map (owned_by change) es)
flat_owned tables change es all = All-map (IsFlatEdit tables) (owned_by change) es all

pub flat_left : (tables : List Table) (test : Edit Deed → Bool) (es : List (Edit Deed)) → AreFlatRows tables es → AreFlatRows tables (filter test es)
flat_left tables test es all = All-filter test (IsFlatEdit tables) es all

pub flat_made : (tables : List Table) (clock : ℕ) (owner : Owner) (ds : List Deed) → Each (IsFlatDeed tables) ds → AreFlatRows tables (edits_by clock owner ds)
flat_made tables clock owner [] all = All-nil (IsFlatEdit tables)
flat_made tables clock owner (d ∷ ds) all = All-cons (IsFlatEdit tables) (record { clock = clock; owner = owner; deed = d }) (edits_by clock owner ds) all.0 (flat_made tables clock owner ds all.1)

-- deeds of objects

object_flat : (tables : List Table) (d : Deed) → is_of_objects d ≡ true → IsFlatDeed tables d
object_flat tables (Create o) is = tt
object_flat tables (Write o at bytes) is = tt
object_flat tables (Cut o size) is = tt
object_flat tables (Unlink o) is = tt
object_flat tables (Put t i values stored) is = absurd (false≢true is)
object_flat tables (Delete t i) is = tt

pub objects_flat : (tables : List Table) (ds : List Deed) → Each (λ (d : Deed). is_of_objects d ≡ true) ds → Each (IsFlatDeed tables) ds
objects_flat tables [] are = tt
objects_flat tables (d ∷ ds) are = (object_flat tables d are.0, objects_flat tables ds are.1)

-- A table is there among others, and what is flat for it is flat for the one that is there.

pub record IsStill (tables : List Table) (name : List ℕ) (columns : List Column) : Type 0 where
  pub table : Table
  pub found : table_in name tables ≡ Some table
  pub flat : (row : List Value) → AreFlatValues columns row → AreFlatValues table.columns row

abbrev pub KeepTables : (old new : List Table) → Type 0
KeepTables old new = (name : List ℕ) (t : Table) → table_in name old ≡ Some t → IsStill new name t.columns

pub put_kept : (old new : List Table) → KeepTables old new → (name : List ℕ) (row : List Value) → IsFlatPut old name row → IsFlatPut new name row
put_kept old new keep name row is = by (table_in name old) refl
  where
    by : (found : Option Table) → table_in name old ≡ found → IsFlatPut new name row
    by None none = absurd (false≢true (ap is_some (sym none) ∙ is.there))
    by (Some t) some =
        let still : IsStill new name t.columns = keep name t some in
        record {
          there = ap is_some still.found;
          flat = λ u found.
              let same : still.table ≡ u = ap (λ o. unwrap_or o still.table) (sym still.found ∙ found) in
              subst (λ (v : Table). AreFlatValues v.columns row) same (still.flat row (is.flat t some));
        }

deed_kept : (old new : List Table) → KeepTables old new → (d : Deed) → IsFlatDeed old d → IsFlatDeed new d
deed_kept old new keep (Create o) is = tt
deed_kept old new keep (Write o at bytes) is = tt
deed_kept old new keep (Cut o size) is = tt
deed_kept old new keep (Unlink o) is = tt
deed_kept old new keep (Put t i values stored) is = put_kept old new keep t values is
deed_kept old new keep (Delete t i) is = tt

pub rows_kept : (old new : List Table) → KeepTables old new → (es : List (Edit Deed)) → AreFlatRows old es → AreFlatRows new es
rows_kept old new keep es all = All-weaker (IsFlatEdit old) (IsFlatEdit new) (λ e is. deed_kept old new keep e.deed is) es all

pub tables_same : (tables : List Table) → KeepTables tables tables
tables_same tables name t found = record { table = t; found = found; flat = λ row flat. flat }

-- the first table of a name

table_here : (u : Table) (us : List Table) (name : List ℕ) → bytes_eq u.name name ≡ true → table_in name (u ∷ us) ≡ Some u
table_here u us name is = ap (λ b. cond b (Some u) (table_in name us)) is

table_behind : (u : Table) (us : List Table) (name : List ℕ) → bytes_eq u.name name ≡ false → table_in name (u ∷ us) ≡ table_in name us
table_behind u us name is = ap (λ b. cond b (Some u) (table_in name us)) is

-- a table more

pub find_more : (name : List ℕ) (old more : List Table) (t : Table) → table_in name old ≡ Some t → table_in name (old ++ more) ≡ Some t
find_more name [] more t found = absurd (false≢true (ap is_some found))
find_more name (u ∷ us) more t found = by (bytes_eq u.name name) refl (find_more name us more t)
  where
    by : (b : Bool) → bytes_eq u.name name ≡ b → (table_in name us ≡ Some t → table_in name (us ++ more) ≡ Some t) → table_in name (u ∷ (us ++ more)) ≡ Some t
    by true is rest = table_here u (us ++ more) name is ∙ (sym (table_here u us name is) ∙ found)
    by false is rest = table_behind u (us ++ more) name is ∙ rest (sym (table_behind u us name is) ∙ found)

pub more_tables : (old more : List Table) → KeepTables old (old ++ more)
more_tables old more name t found = record { table = t; found = find_more name old more t found; flat = λ row flat. flat }

pub more_named : (old : List Table) (t : Table) → AreNamed old → HasNames t → AreNamed (old ++ t ∷ [])
more_named [] t named own = (own, tt)
more_named (u ∷ us) t named own = (named.0, more_named us t named.1 own)

-- other storages

kind_kept : (c : Column) (o : Option Column) → (stored_by c o).kind ≡ c.kind
kind_kept c None = refl
kind_kept c (Some s) = refl

name_kept : (c : Column) (o : Option Column) → (stored_by c o).name ≡ c.name
name_kept c None = refl
name_kept c (Some s) = refl

pub stored_flat : (storages columns : List Column) (row : List Value) → AreFlatValues columns row → AreFlatValues (with_storages storages columns) row
stored_flat storages [] [] flat = flat
stored_flat storages [] (v ∷ row) flat = flat
stored_flat storages (c ∷ cs) [] flat = flat
stored_flat storages (c ∷ cs) (v ∷ row) flat = (subst (λ (kind : ColType). IsFlatValue kind v) (sym (kind_kept c (column_in c.name storages))) flat.0, stored_flat storages cs row flat.1)

names_kept : (storages columns : List Column) → names_of (with_storages storages columns) ≡ names_of columns
names_kept storages [] = refl
names_kept storages (c ∷ cs) = ap (λ name. name ∷ names_of (with_storages storages cs)) (name_kept c (column_in c.name storages)) ∙ ap (λ names. c.name ∷ names) (names_kept storages cs)

pub stored_distinct : (storages columns : List Column) → AreDistinct (names_of columns) → AreDistinct (names_of (with_storages storages columns))
stored_distinct storages columns distinct = subst AreDistinct (sym (names_kept storages columns)) distinct

rewritten_keeps : (n : ℕ) (columns : List Column) (ts : List Table) (old : Table) → slice_get ts n ≡ Some old → ((row : List Value) → AreFlatValues old.columns row → AreFlatValues columns row) → KeepTables ts (with_columns n columns ts)
rewritten_keeps n columns [] old there flat name t found = absurd (false≢true (ap is_some found))
rewritten_keeps zero columns (u ∷ us) old there flat name t found = by (bytes_eq u.name name) refl
  where
    new : Table
    new = record { name = u.name; columns = columns }

    by : (b : Bool) → bytes_eq u.name name ≡ b → IsStill (new ∷ us) name t.columns
    by true is =
        let first : u ≡ old = ap (λ o. unwrap_or o u) there in
        let same : u ≡ t = ap (λ o. unwrap_or o u) (sym (table_here u us name is) ∙ found) in
        record { table = new; found = table_here new us name is; flat = λ row own. flat row (subst (λ (v : Table). AreFlatValues v.columns row) (sym same ∙ first) own) }
    by false is = record { table = t; found = table_behind new us name is ∙ (sym (table_behind u us name is) ∙ found); flat = λ row own. own }
rewritten_keeps (suc n) columns (u ∷ us) old there flat name t found = by (bytes_eq u.name name) refl (rewritten_keeps n columns us old there flat name t)
  where
    by : (b : Bool) → bytes_eq u.name name ≡ b → (table_in name us ≡ Some t → IsStill (with_columns n columns us) name t.columns) → IsStill (u ∷ with_columns n columns us) name t.columns
    by true is rest = record { table = t; found = table_here u (with_columns n columns us) name is ∙ (sym (table_here u us name is) ∙ found); flat = λ row own. own }
    by false is rest =
        let still : IsStill (with_columns n columns us) name t.columns = rest (sym (table_behind u us name is) ∙ found) in
        record { table = still.table; found = table_behind u (with_columns n columns us) name is ∙ still.found; flat = still.flat }

named_at : (ts : List Table) (n : ℕ) (t : Table) → AreNamed ts → slice_get ts n ≡ Some t → HasNames t
named_at [] n t named there = absurd (false≢true (ap is_some there))
named_at (u ∷ us) zero t named there = subst HasNames (ap (λ o. unwrap_or o u) there) named.0
named_at (u ∷ us) (suc n) t named there = named_at us n t named.1 there

pub named_in : (name : List ℕ) (ts : List Table) (t : Table) → AreNamed ts → table_in name ts ≡ Some t → HasNames t
named_in name [] t named found = absurd (false≢true (ap is_some found))
named_in name (u ∷ us) t named found = by (bytes_eq u.name name) refl (named_in name us t named.1)
  where
    by : (b : Bool) → bytes_eq u.name name ≡ b → (table_in name us ≡ Some t → HasNames t) → HasNames t
    by true is rest = subst HasNames (ap (λ o. unwrap_or o u) (sym (table_here u us name is) ∙ found)) named.0
    by false is rest = rest (sym (table_behind u us name is) ∙ found)

with_named : (n : ℕ) (columns : List Column) (ts : List Table) → AreNamed ts → AreDistinct (names_of columns) → AreNamed (with_columns n columns ts)
with_named n columns [] named distinct = tt
with_named zero columns (u ∷ us) named distinct = (distinct, named.1)
with_named (suc n) columns (u ∷ us) named distinct = (named.0, with_named n columns us named.1 distinct)

-- the tables where one is stored anew under other storages
pub record AreRewritten (old new : List Table) : Type 0 where
  pub keep : KeepTables old new
  pub named : AreNamed old → AreNamed new

pub rewritten : (name : List ℕ) (storages : List Column) (tables : List Table) → AreRewritten tables (tables_rewritten name (with_storages storages (columns_in (table_in name tables))) tables (number_in name tables))
rewritten name storages tables = by (number_in name tables) refl
  where
    by : (number : Option ℕ) → number_in name tables ≡ number → AreRewritten tables (tables_rewritten name (with_storages storages (columns_in (table_in name tables))) tables number)
    by None none = record { keep = tables_same tables; named = λ named. named }
    by (Some n) some =
        let at = stands_at name tables n some in
        rw at.found (record {
          keep = rewritten_keeps n (with_storages storages at.table.columns) tables at.table at.there (λ row flat. stored_flat storages at.table.columns row flat);
          named = λ named. with_named n (with_storages storages at.table.columns) tables named (stored_distinct storages at.table.columns (named_in name tables at.table named at.found));
        })

-- A row of a view is what one of its edits put.

both_so : (a b : Bool) → (a && b) ≡ true → a ≡ true
both_so true b is = refl
both_so false b is = absurd (false≢true is)

module _ (tables : List Table) (t : List ℕ) (i : ℤ) where
  abbrev pub IsFlatIfThere : Option Row → Type 0
  IsFlatIfThere None = Unit {0}
  IsFlatIfThere (Some row) = IsFlatPut tables t row.values

  after_flat : (old : Option Row) (d : Deed) → IsFlatIfThere old → IsFlatDeed tables d → IsFlatIfThere (row_after t i old d)
  after_flat old (Create o) before is = before
  after_flat old (Write o at bytes) before is = before
  after_flat old (Cut o size) before is = before
  after_flat old (Unlink o) before is = before
  after_flat old (Put u j values stored) before is = by (is_row t i u j) refl
    where
      by : (b : Bool) → is_row t i u j ≡ b → IsFlatIfThere (if b then Some (record { values = values; stored = stored }) else old)
      by true same = subst (λ (name : List ℕ). IsFlatPut tables name values) (sym ((bytes_eq-Decides t u).0 (both_so (bytes_eq t u) (int_eq i j) same))) is
      by false other = before
  after_flat old (Delete u j) before is = by (is_row t i u j)
    where
      by : (b : Bool) → IsFlatIfThere (if b then None else old)
      by true = tt
      by false = before

  all_after_flat : (old : Option Row) (es : List (Edit Deed)) → IsFlatIfThere old → AreFlatRows tables es → IsFlatIfThere (row_after_all t i old (deeds es))
  all_after_flat old [] before all = before
  all_after_flat old (e ∷ es) before all = all_after_flat (row_after t i old e.deed) es (after_flat old e.deed before (All-head (IsFlatEdit tables) e es all)) (All-tail (IsFlatEdit tables) e es all)

  pub row_flat : (es : List (Edit Deed)) → AreFlatRows tables es → IsFlatIfThere (row_in t i es)
  row_flat es all = all_after_flat None es tt all
