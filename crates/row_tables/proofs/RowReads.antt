-- What the calls that read a row answer, and what refuses them, in the words of the edits that a view reads by.
use Rattle.std.proofs.Common.{◌≡◌, ℕ, ℤ, Bool, true, false, List, [], ◌∷◌, length, Option, Some, None, refl, ap, sym, subst, ◌∙◌, arith, w64, ◌⊎◌, inl, inr}
use Rattle.std.specs.Prelude.{FitsSigned, is_some, option_map, slice_get}
use Rattle.std.specs.List.{list_any}
use Rattle.std.specs.Ordering.{int_eq}
use Rattle.std.proofs.lemmas.Cmp.{int_cmp_total}
use Rattle.std.proofs.lemmas.Map.Lookups.{btree_set_from_contains, exact_signed}
use Rattle.lo_base.specs.declared.column.Column.{Column}
use Rattle.lo_base.specs.declared.refusal.Cause.TheVariants.{NoRow}
use Rattle.lo_base.specs.declared.refusal.Refusal.{Refusal}
use Rattle.lo_base.specs.declared.reply.Reply.TheVariants as replies
use Rattle.lo_base.specs.declared.value.Cell.{Cell}
use Rattle.lo_base.specs.declared.value.Value.{Value}
use Rattle.lo_model.specs.Edit.{Deed, Edit}
use Rattle.lo_model.specs.Listing.{has_row, ids_in}
use Rattle.lo_model.specs.Row.{row_in}
use Rattle.lo_model.specs.View.{view}
use Rattle.lo_model.proofs.ListingLaws.{ids_are, ids_ascend}
use Rattle.xact_core.specs.declared.snapshot.Snapshot.{Snapshot}
use Rattle.xact_core.specs.Transactions.{Transactions}
use Rattle.row_versions.specs.Found.{given}
use Rattle.row_versions.specs.Looks.{IsLook}
use Rattle.row_versions.specs.Stands.{after_all, replaces}
use Rattle.toast_plan.specs.Row.{FitColumns}
use Rattle.row_tables.specs.declared.reading.Part.{Part}
use Rattle.row_tables.specs.declared.row_key.RowKey.{RowKey}
use Rattle.row_tables.specs.declared.tables.Tables.{Tables}
use Rattle.row_tables.specs.Calls.{IsTable}
use Rattle.row_tables.specs.Catalog.{columns_in, table_in}
use Rattle.row_tables.specs.Cells.{Told, value_told, values_told, whole_row}
use Rattle.row_tables.specs.Keys.{row_key}
use Rattle.row_tables.specs.Laws.{HasOutsideIfThere, row_told}
use Rattle.row_tables.specs.Outside.{HasItsValue, HasOutside}
use Rattle.row_tables.specs.Reading.{IsNoPart, IsNoPlace, IsPart, IsPlace, ListsIds}
use Rattle.row_tables.specs.RowRules.{get_row, ids_row, slice_in, slice_refusals, slice_reply, slice_row, value_under, values_in}
use Rattle.row_tables.specs.Standing.{HasCells, Kept, StandFor, cells_at}
use Rattle.row_tables.specs.Terms.{bad_length, count_of, first_of, refusal}
use Rattle.row_tables.specs.Values.{cells_of}
use Rattle.row_tables.specs.World.{Tells, here_in, world}
use Rattle.row_tables.proofs.IdLists.{fits_or_not}
use Rattle.row_tables.proofs.ReadRows.{finds_left, has_cells, reads_rows}
use Rattle.row_tables.proofs.WholeCells.{each_at, value_there, whole_cells}

-- a row's length is that of the columns

fit_length : (columns : List Column) (vs : List Value) → FitColumns columns vs → length vs ≡ length columns
fit_length [] [] fit = refl
fit_length [] (v ∷ vs) fit = absurd fit
fit_length (c ∷ cs) [] fit = absurd fit
fit_length (c ∷ cs) (v ∷ vs) fit = let rest = fit_length cs vs fit.1 in omega arith

length_told : (told : ℕ → Told) (row : List Cell) → length (values_told told row) ≡ length row
length_told told [] = refl
length_told told (c ∷ cs) = let rest = length_told told cs in omega arith

pub row_length : (x : Transactions) (v : Snapshot) (tables : Tables) (kept : Kept x tables) → IsLook x v → (key : RowKey) (row : List Cell) → cells_at x v tables key ≡ Some row → length row ≡ length (columns_in (slice_get tables.catalog key.table))
row_length x v tables kept look key row found =
    let has = subst (HasCells kept.told key tables) found (has_cells x v tables kept look key) in
    sym (length_told kept.told row) ∙ fit_length (columns_in (slice_get tables.catalog key.table)) (values_told kept.told row) has.fit

module _ (x : Transactions) (v : Snapshot) (tables : Tables) (name : List ℕ) (number : ℕ) (table : IsTable tables name number) (look : IsLook x v) where
  -- the columns of the table
  pub columns_found : columns_in (slice_get tables.catalog number) ≡ columns_in (table_in name tables.catalog)
  columns_found = ap columns_in (table.there ∙ sym table.found)

  module _ (ys : List (Edit Deed)) (stand : StandFor x tables ys) where
    edits : List (Edit Deed)
    edits = view v.clock v.viewer ys

    row_found : (id : ℤ) → row_in name id (view v.clock v.viewer ys) ≡ option_map (row_told stand.kept.told) (cells_at x v tables (row_key number id))
    row_found id = subst (λ (n : List ℕ). row_in n id (view v.clock v.viewer ys) ≡ option_map (row_told stand.kept.told) (cells_at x v tables (row_key number id))) table.named ((reads_rows x v tables ys stand look).rows (row_key number id) table.table table.there)

    has_found : (id : ℤ) → has_row (view v.clock v.viewer ys) name id ≡ is_some (cells_at x v tables (row_key number id))
    has_found id = ap is_some (row_found id) ∙ by (cells_at x v tables (row_key number id))
      where
        by : (o : Option (List Cell)) → is_some (option_map (row_told stand.kept.told) o) ≡ is_some o
        by None = refl
        by (Some row) = refl

    -- an id that does not fit has no row
    unfit_none : (id : ℤ) → (FitsSigned w64 id → ⊥) → cells_at x v tables (row_key number id) ≡ None
    unfit_none id unfit = finds_left x v tables stand.kept look (row_key number id) ∙ ap (λ (es : List (Edit (Option (List Cell)))). after_all (replaces given) None (view v.clock v.viewer es)) (stand.kept.none (row_key number id) (inr unfit))

    module _ (ids : List ℤ) (lists : ListsIds x v tables number ids) where
      same_ids : (id : ℤ) → list_any (int_eq id) ids ≡ list_any (int_eq id) (ids_in name (view v.clock v.viewer ys))
      same_ids id = by (fits_or_not id) ∙ (sym (has_found id) ∙ sym (ids_are name (view v.clock v.viewer ys) id))
        where
          not_listed : (unfit : FitsSigned w64 id → ⊥) (b : Bool) → list_any (int_eq id) ids ≡ b → b ≡ false
          not_listed unfit true is = absurd (unfit (lists.only id is))
          not_listed unfit false is = refl

          by : (FitsSigned w64 id ⊎ (FitsSigned w64 id → ⊥)) → list_any (int_eq id) ids ≡ is_some (cells_at x v tables (row_key number id))
          by (inl fits) = lists.each id fits
          by (inr unfit) = not_listed unfit (list_any (int_eq id) ids) refl ∙ sym (ap is_some (unfit_none id unfit))

      pub ids_told : ids ≡ ids_in name (view v.clock v.viewer ys)
      ids_told = btree_set_from_contains int_cmp_total (record { keys = ids }) (record { keys = ids_in name (view v.clock v.viewer ys) }) lists.order (ids_ascend name (view v.clock v.viewer ys)) same_ids exact_signed

  pub ids_tell : (s : ℕ) (ids : List ℤ) → ListsIds x v tables number ids → Tells (ids_row name) (world x tables s) v (replies.Ids ids)
  ids_tell s ids lists = record {
    unrefused = λ ys stand. rw (table.found) refl;
    answer = λ ys stand. ap replies.Ids (ids_told ys stand ids lists);
  }

  module _ (s : ℕ) (id : ℤ) where
    pub get_none : cells_at x v tables (row_key number id) ≡ None → (ys : List (Edit Deed)) → StandFor x tables ys → first_of (get_row name id (here_in (world x tables s) v ys)).refusals ≡ Some (refusal NoRow id)
    get_none none ys stand = let absent : row_in name id (view v.clock v.viewer ys) ≡ None = row_found ys stand id ∙ ap (option_map (row_told stand.kept.told)) none in rw (table.found, absent) refl

    pub slice_none : (column : List ℕ) (from count : ℤ) → cells_at x v tables (row_key number id) ≡ None → (ys : List (Edit Deed)) → StandFor x tables ys → first_of (slice_row name id column from count (here_in (world x tables s) v ys)).refusals ≡ Some (refusal NoRow id)
    slice_none column from count none ys stand = let absent : row_in name id (view v.clock v.viewer ys) ≡ None = row_found ys stand id ∙ ap (option_map (row_told stand.kept.told)) none in rw (table.found, absent) refl

    module _ (row : List Cell) (found : cells_at x v tables (row_key number id) ≡ Some row) where
      row_there : (ys : List (Edit Deed)) (stand : StandFor x tables ys) → row_in name id (view v.clock v.viewer ys) ≡ Some (row_told stand.kept.told row)
      row_there ys stand = row_found ys stand id ∙ ap (option_map (row_told stand.kept.told)) found

      has_own : (ys : List (Edit Deed)) (stand : StandFor x tables ys) → HasOutside stand.kept.told x v tables.chunks row
      has_own ys stand = subst (HasOutsideIfThere stand.kept.told x v tables.chunks) found ((reads_rows x v tables ys stand look).outside (row_key number id))

      pub get_tells : (whole : List Cell) → ((told : ℕ → Told) → HasOutside told x v tables.chunks row → whole ≡ whole_row told row) → Tells (get_row name id) (world x tables s) v (replies.Row whole)
      get_tells whole is = record {
        unrefused = λ ys stand. let there = row_there ys stand in rw (table.found, there) refl;
        answer = λ ys stand.
            let there = row_there ys stand in
            let has = has_own ys stand in
            ap replies.Row (is stand.kept.told has ∙ (whole_cells stand.kept.told x v tables.chunks row has ∙ ap (λ o. cells_of (values_in o)) (sym there)));
      }

      module _ (column : List ℕ) (from count : ℤ) where
        -- with the row there the part and the column decide
        left_terms : (ys : List (Edit Deed)) → StandFor x tables ys → first_of (slice_row name id column from count (here_in (world x tables s) v ys)).refusals ≡ first_of (slice_refusals (columns_in (slice_get tables.catalog number)) column from count)
        left_terms ys stand =
            let there = row_there ys stand in
            let terms : first_of (slice_row name id column from count (here_in (world x tables s) v ys)).refusals ≡ first_of (slice_refusals (columns_in (table_in name tables.catalog)) column from count) = rw (table.found, there) refl in
            terms ∙ ap (λ (cs : List Column). first_of (slice_refusals cs column from count)) (sym columns_found)

        pub slice_no_place : (r : Refusal) → IsNoPlace (columns_in (slice_get tables.catalog number)) column r → (ys : List (Edit Deed)) → StandFor x tables ys → first_of (slice_row name id column from count (here_in (world x tables s) v ys)).refusals ≡ Some r
        slice_no_place r none ys stand = left_terms ys stand ∙ none from count

        module _ (place : ℕ) (is_place : IsPlace (columns_in (slice_get tables.catalog number)) column place) where
          after_column : first_of (slice_refusals (columns_in (slice_get tables.catalog number)) column from count) ≡ first_of (bad_length from ∷ bad_length count ∷ [])
          after_column = let found_one = is_place.found in let bytes = is_place.bytea in rw (found_one, bytes) refl

          pub slice_no_part : (r : Refusal) → IsNoPart from count r → (ys : List (Edit Deed)) → StandFor x tables ys → first_of (slice_row name id column from count (here_in (world x tables s) v ys)).refusals ≡ Some r
          slice_no_part r none ys stand = left_terms ys stand ∙ (after_column ∙ none)

          pub slice_tells : (part : Part) → IsPart from count part → (cell : Cell) → slice_get row place ≡ Some cell → (value : Value) → ((told : ℕ → Told) → HasItsValue told x v tables.chunks cell → value ≡ slice_in part.from part.count (value_told told cell)) → Tells (slice_row name id column from count) (world x tables s) v (slice_reply value)
          slice_tells part is_part cell at value is = record {
            unrefused = λ ys stand. left_terms ys stand ∙ (after_column ∙ part_allowed);
            answer = λ ys stand.
                let there = row_there ys stand in
                let has = each_at (HasItsValue stand.kept.told x v tables.chunks) row place cell at (has_own ys stand) in
                let own : value_under column (columns_in (table_in name tables.catalog)) (values_in (row_in name id (view v.clock v.viewer ys))) ≡ value_told stand.kept.told cell = ap (λ o. value_under column (columns_in (table_in name tables.catalog)) (values_in o)) there ∙ (ap (λ (cs : List Column). value_under column cs (values_told stand.kept.told row)) (sym columns_found) ∙ is_place.value (values_told stand.kept.told row) (value_told stand.kept.told cell) (value_there stand.kept.told row place cell at)) in
                ap slice_reply (is stand.kept.told has ∙ (ap (λ (n : ℕ). slice_in n part.count (value_told stand.kept.told cell)) is_part.from_is ∙ (ap (λ (n : ℕ). slice_in (count_of from) n (value_told stand.kept.told cell)) is_part.count_is ∙ ap (slice_in (count_of from) (count_of count)) (sym own))));
          }
            where
              part_allowed : first_of (bad_length from ∷ bad_length count ∷ []) ≡ None
              part_allowed = let first = is_part.first in let second = is_part.second in rw (first, second) refl
