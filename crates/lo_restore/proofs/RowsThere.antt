-- The rows that a view has of a table: their values fit its columns, and each stands under its own id.
use Rattle.std.proofs.Common.{◌≡◌, ℕ, ℤ, Bool, true, false, cond, List, [], ◌∷◌, Option, Some, None, refl, ap, sym, subst, ◌∙◌}
use Rattle.std.specs.Prelude.{filter, is_some, option_map, slice_get}
use Rattle.std.specs.List.{AllByRecursion}
use Rattle.std.specs.Ordering.{int_cmp}
use Rattle.std.proofs.lemmas.Bool.{false≢true}
use Rattle.std.proofs.lemmas.Option.{none-some}
use Rattle.lo_base.specs.declared.column.Column.{Column}
use Rattle.lo_base.specs.declared.refusal.Refusal.{Refusal}
use Rattle.lo_base.specs.declared.reply.Reply.TheVariants as replies
use Rattle.lo_base.specs.declared.value.Cell.{Cell}
use Rattle.lo_base.specs.declared.value.Value.{Value}
use Rattle.lo_base.specs.declared.value.Value.TheVariants as values
use Rattle.lo_model.specs.Database.{Table}
use Rattle.lo_model.specs.Edit.{Deed, Edit, deeds}
use Rattle.lo_model.specs.Listing.{has_row, ids_in, in_order, put_ids}
use Rattle.lo_model.specs.Row.{Row, row_in}
use Rattle.lo_model.specs.View.{view}
use Rattle.toast_plan.specs.Row.{AreRowValues, FitColumns, StartsWithId}
use Rattle.xact_core.specs.declared.snapshot.Snapshot.{Snapshot}
use Rattle.xact_core.specs.Transactions.{Transactions}
use Rattle.row_versions.specs.Looks.{IsLook}
use Rattle.row_tables.specs.declared.tables.Tables.{Tables}
use Rattle.row_tables.specs.Catalog.{columns_in, number_in, table_in}
use Rattle.row_tables.specs.Cells.{values_told}
use Rattle.row_tables.specs.Keys.{row_key}
use Rattle.row_tables.specs.Laws.{row_told}
use Rattle.row_tables.specs.RowRules.{get_row, ids_row, values_in}
use Rattle.row_tables.specs.Standing.{HasCells, StandFor, cells_at, tables_in}
use Rattle.row_tables.specs.Terms.{first_of}
use Rattle.row_tables.specs.Values.{HasId, cells_of}
use Rattle.row_tables.specs.World.{Tells, here_in, world}
use Rattle.row_tables.proofs.Naming.{StandsAt, numbered, stands_at}
use Rattle.row_tables.proofs.ReadRows.{has_cells, reads_rows}
use Rattle.lo_opening.specs.Opening.{id_of}
use Rattle.lo_restore.specs.TablesSaved.{HasRowThere, HasTable, row_values}

-- values behind an id

with_id : (i : ℤ) (vs : List Value) → HasId i vs → StartsWithId vs
with_id i [] has = has
with_id i (values.Null ∷ vs) has = cc
with_id i (values.Int n ∷ vs) has = refl
with_id i (values.Oid n ∷ vs) has = cc
with_id i (values.Bytes b ∷ vs) has = cc

its_id : (i : ℤ) (vs : List Value) → HasId i vs → id_of vs ≡ i
its_id i [] has = absurd has
its_id i (values.Null ∷ vs) has = cc
its_id i (values.Int n ∷ vs) has = cc
its_id i (values.Oid n ∷ vs) has = cc
its_id i (values.Bytes b ∷ vs) has = cc

-- what is known of a row that a view has
pub record IsGoodRow (columns : List Column) (id : ℤ) (vs : List Value) : Type 0 where
  pub values_are : AreRowValues columns vs
  pub id_is : id_of vs ≡ id

module _ (x : Transactions) (tables : Tables) (v : Snapshot) (look : IsLook x v) (name : List ℕ) (table : Table) (there : table_in name (tables_in tables) ≡ Some table) where
  number_there : (o : Option ℕ) → is_some o ≡ true → (n : ℕ) × (o ≡ Some n)
  number_there None is = absurd (false≢true is)
  number_there (Some n) is = (n, refl)

  number : (n : ℕ) × (number_in name (tables_in tables) ≡ Some n)
  number = number_there (number_in name (tables_in tables)) (numbered 0 name (tables_in tables) ∙ ap is_some there)

  module _ (ys : List (Edit Deed)) (stand : StandFor x tables ys) (id : ℤ) (row : Row) (found : row_in name id (view v.clock v.viewer ys) ≡ Some row) where
    good_here : (n : ℕ) → number_in name (tables_in tables) ≡ Some n → IsGoodRow table.columns id row.values
    good_here n is = by (cells_at x v tables (row_key n id)) (has_cells x v tables stand.kept look (row_key n id)) cells_are
      where
        at : StandsAt (tables_in tables) name n
        at = stands_at name (tables_in tables) n is

        same : columns_in (slice_get (tables_in tables) n) ≡ table.columns
        same = ap columns_in at.there ∙ ap columns_in (sym at.found ∙ there)

        cells_are : Some row ≡ option_map (row_told stand.kept.told) (cells_at x v tables (row_key n id))
        cells_are = sym found ∙ (ap (λ (t : List ℕ). row_in t id (view v.clock v.viewer ys)) (sym at.named) ∙ (reads_rows x v tables ys stand look).rows (row_key n id) at.table at.there)

        by : (o : Option (List Cell)) → HasCells stand.kept.told (row_key n id) tables o → Some row ≡ option_map (row_told stand.kept.told) o → IsGoodRow table.columns id row.values
        by None has is_row = absurd (none-some row (sym is_row))
        by (Some cells) has is_row =
            let told : values_told stand.kept.told cells ≡ row.values = ap values_in (sym is_row) in
            record {
              values_are = record {
                id = with_id id row.values (subst (HasId id) told has.id);
                fit = subst (λ (vs : List Value). FitColumns table.columns vs) told (subst (λ (cs : List Column). FitColumns cs (values_told stand.kept.told cells)) same has.fit);
              };
              id_is = its_id id row.values (subst (HasId id) told has.id);
            }

    pub good_row : IsGoodRow table.columns id row.values
    good_row = good_here number.0 number.1

-- ids of a view are those of its rows

all_passed : {K : Type 0} (p : K → Bool) (ks : List K) → AllByRecursion (λ k. p k ≡ true) (filter p ks)
all_passed p [] = tt
all_passed {K} p (k ∷ ks) = by (p k) refl (all_passed p ks)
  where
    by : (b : Bool) → p k ≡ b → AllByRecursion (λ j. p j ≡ true) (filter p ks) → AllByRecursion (λ j. p j ≡ true) (cond b (k ∷ filter p ks) (filter p ks))
    by true is more = (is, more)
    by false is more = more

pub ids_there : (name : List ℕ) (edits : List (Edit Deed)) → AllByRecursion (λ i. has_row edits name i ≡ true) (ids_in name edits)
ids_there name edits = all_passed (has_row edits name) (in_order int_cmp (put_ids name (deeds edits)))

-- a call that gives a row of a view answers its values, and no refusal can come
module _ (x : Transactions) (tables : Tables) (v : Snapshot) (s : ℕ) (name : List ℕ) where
  pub cells_told : (id : ℤ) (cells : List Cell) → Tells (get_row name id) (world x tables s) v (replies.Row cells) → (ys : List (Edit Deed)) → StandFor x tables ys → cells ≡ cells_of (row_values (view v.clock v.viewer ys) name id)
  cells_told id cells tells ys stand = row_same cells (cells_of (row_values (view v.clock v.viewer ys) name id)) (tells.answer ys stand)
    where
      row_same : (a b : List Cell) → replies.Row a ≡ replies.Row b → a ≡ b
      row_same a b same = cc

  pub row_not_refused : (id : ℤ) → HasRowThere x tables v name id → (r : Refusal) → ((ys : List (Edit Deed)) → StandFor x tables ys → first_of (get_row name id (here_in (world x tables s) v ys)).refusals ≡ Some r) → ⊥
  row_not_refused id has r refuses = none-some r (sym none ∙ refuses has.edits has.stand)
    where
      none : first_of (get_row name id (here_in (world x tables s) v has.edits)).refusals ≡ None
      none = let table = has.table.there in let row = has.there in rw (table, row) refl

  pub ids_told : (ids : List ℤ) → Tells (ids_row name) (world x tables s) v (replies.Ids ids) → (ys : List (Edit Deed)) → StandFor x tables ys → ids ≡ ids_in name (view v.clock v.viewer ys)
  ids_told ids tells ys stand = ids_same ids (ids_in name (view v.clock v.viewer ys)) (tells.answer ys stand)
    where
      ids_same : (a b : List ℤ) → replies.Ids a ≡ replies.Ids b → a ≡ b
      ids_same a b same = cc

  pub ids_not_refused : HasTable tables name → (ys : List (Edit Deed)) → StandFor x tables ys → (r : Refusal) → ((zs : List (Edit Deed)) → StandFor x tables zs → first_of (ids_row name (here_in (world x tables s) v zs)).refusals ≡ Some r) → ⊥
  ids_not_refused has ys stand r refuses = none-some r (sym none ∙ refuses ys stand)
    where
      none : first_of (ids_row name (here_in (world x tables s) v ys)).refusals ≡ None
      none = let table = has.there in rw table refl
