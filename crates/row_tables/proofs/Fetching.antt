-- Bytes of a cursor's row are fetched, in the view that the cursor holds: what refuses it, and what it grants.
use Rattle.std.proofs.Common.{Bor, ◌≡◌, ◌<◌, ◌⊎◌, inl, inr, ℕ, zero, suc, ℤ, pos, true, List, [], ◌∷◌, ◌++◌, length, map, Option, Some, None, refl, ap, sym, subst, ◌∙◌, arith, append-nil}
use Rattle.std.specs.Option.{option_copied}
use Rattle.std.specs.Prelude.{not, is_none, is_some, option_map, Contains, slice_get}
use Rattle.std.proofs.lemmas.Bool.{false≢true}
use Rattle.std.proofs.lemmas.List.{length-map}
use Rattle.std.proofs.lemmas.List.Elements.{All-contains, Contains-append_left}
use Rattle.std.proofs.lemmas.List.Sorted.{Contains-permutation, IsPermutation-sym}
use Rattle.std.proofs.lemmas.Option.{slice_get-map, slice_get_within}
use Rattle.lo_base.specs.declared.column.Column.{Column}
use Rattle.lo_base.specs.declared.refusal.Cause.TheVariants.{NoColumn, WrongType}
use Rattle.lo_base.specs.declared.refusal.Denied.TheVariants.{By}
use Rattle.lo_base.specs.declared.refusal.Refusal.{Refusal}
use Rattle.lo_base.specs.declared.value.Cell.{Cell}
use Rattle.lo_base.specs.declared.value.Value.{Value}
use Rattle.lo_base.specs.declared.value.Value.TheVariants as values
use Rattle.lo_model.specs.declared.viewer.Viewer.{Viewer}
use Rattle.lo_model.specs.declared.viewer.Viewer.TheVariants.{Whole}
use Rattle.lo_model.specs.Descriptor as model
use Rattle.lo_model.specs.Edit.{Deed, Edit}
use Rattle.lo_model.specs.Row.{row_in}
use Rattle.lo_model.specs.View.{view}
use Rattle.xact_core.specs.declared.snapshot.Snapshot.{Snapshot}
use Rattle.xact_core.specs.Transactions.{Transactions}
use Rattle.row_versions.proofs.Keeping.{cons_cases, cons_first, cons_rest, held_kept, nil_none}
use Rattle.row_versions.specs.Looks.{IsLook}
use Rattle.row_versions.specs.Stack.{Each}
use Rattle.toast_plan.specs.Row.{FitColumns}
use Rattle.row_tables.specs.declared.cursors.Cursor.{Cursor}
use Rattle.row_tables.specs.declared.cursors.Cursors.{Cursors}
use Rattle.row_tables.specs.declared.reading.Part.{Part}
use Rattle.row_tables.specs.declared.tables.Tables.{Tables}
use Rattle.row_tables.specs.Calls.{IsNoTable, IsTable}
use Rattle.row_tables.specs.Catalog.{columns_in, table_in}
use Rattle.row_tables.specs.Cells.{Told, value_told, values_told}
use Rattle.row_tables.specs.CursorRules.{fetch_row}
use Rattle.row_tables.specs.Cursors.{AreHeld, FindsCursor, HoldsOwn, cursor_by, cursors_of, hold_of, holds_of}
use Rattle.row_tables.specs.Keys.{row_key}
use Rattle.row_tables.specs.Laws.{HasOutsideIfThere, row_told}
use Rattle.row_tables.specs.Outside.{HasItsValue, HasOutside}
use Rattle.row_tables.specs.Reading.{IsNoPart, IsNoPlace, IsPart, IsPlace}
use Rattle.row_tables.specs.RowRules.{column_in, is_no_bytea, slice_in, slice_refusals, slice_reply, sliced, value_under, values_in}
use Rattle.row_tables.specs.Standing.{HasCells, StandFor, cells_at}
use Rattle.row_tables.specs.Terms.{bad_length, first_of}
use Rattle.row_tables.specs.World.{Denies, Grants, HasTable, IsGranted, IsReady, World, here_of}
use Rattle.row_tables.proofs.Declaring.{row_read}
use Rattle.row_tables.proofs.Keeping.{fails, skip}
use Rattle.row_tables.proofs.ReadRows.{has_cells, reads_rows}

-- a cursor's hold is a kept view

contains_map : {X Y : Type 0} (f : X → Y) (xs : List X) (x : X) → Contains xs x → Contains (map f xs) (f x)
contains_map f [] x here = absurd (nil_none x here)
contains_map {X} {Y} f (y ∷ xs) x here = by_place (cons_cases y x xs here) (contains_map f xs x)
  where
    by_place : (y ≡ x) ⊎ Contains xs x → (Contains xs x → Contains (map f xs) (f x)) → Contains (f y ∷ map f xs) (f x)
    by_place (inl first) rest = subst (λ (z : X). Contains (f y ∷ map f xs) (f z)) first (cons_first (f y) (map f xs))
    by_place (inr later) rest = cons_rest (f y) (f x) (map f xs) (rest later)

hold_looks : (x : Transactions) (cursors : Cursors) (c : Cursor) → AreHeld x cursors → Contains cursors.entries.items c → IsLook x c.hold
hold_looks x cursors c held here = held_kept x c.hold (Contains-permutation (holds_of cursors ++ held.rest) x.held c.hold (IsPermutation-sym x.held (holds_of cursors ++ held.rest) held.all) (Contains-append_left (holds_of cursors) held.rest c.hold (contains_map hold_of cursors.entries.items c here)))

-- values of a row, column by column

fit_long : (columns : List Column) (row : List Value) → FitColumns columns row → length columns ≡ length row
fit_long [] [] fit = refl
fit_long [] (v ∷ vs) fit = absurd fit
fit_long (c ∷ cs) [] fit = absurd fit
fit_long (c ∷ cs) (v ∷ vs) fit = ap suc (fit_long cs vs fit.1)

none_under : (name : List ℕ) (columns : List Column) → value_under name columns [] ≡ values.Null
none_under name [] = refl
none_under name (c ∷ cs) = refl

each_there : {X : Type 0} (P : X → Type 0) (xs : List X) (i : ℕ) (x : X) → Each P xs → slice_get xs i ≡ Some x → P x
each_there P [] i x all there = absurd (cc)
each_there P (y ∷ xs) zero x all there = let first : y ≡ x = cc in subst P first all.0
each_there P (y ∷ xs) (suc i) x all there = each_there P xs i x all.1 there

-- A cursor of the name was found.
module _ (w : World) (ready : IsReady w) (name : List ℕ) (c : Cursor) (found : FindsCursor w.session name w.tables.cursors (Some c)) where
  named : model.cursor_in name (cursors_of w.session w.tables.cursors) ≡ Some (cursor_by c)
  named = sym found.is

  pub cursor_looks : IsLook w.xacts c.hold
  cursor_looks = hold_looks w.xacts w.tables.cursors c ready.cursors.held found.stands.0

  viewer_is : c.hold.viewer ≡ Whole w.session
  viewer_is = All-contains HoldsOwn w.tables.cursors.entries.items c ready.cursors.own found.stands.0 ∙ ap Whole found.stands.1

  table_there : is_some (table_in c.table w.tables.catalog) ≡ true
  table_there = All-contains (HasTable w.tables) w.tables.cursors.entries.items c ready.named found.stands.0

  -- its table is there
  pub no_table_never : {P : Type 0} (r : Refusal) → IsNoTable w.tables c.table r → P
  no_table_never r no-table = absurd (false≢true (ap is_some (sym no-table.none) ∙ table_there))

  module _ (column : List ℕ) (from length' : ℤ) where
    terms_past : (columns : List Column) → columns_in (table_in c.table w.tables.catalog) ≡ columns → (ys : List (Edit Deed)) → first_of (fetch_row name column from length' (here_of w ys)).refusals ≡ first_of (slice_refusals columns column from length')
    terms_past columns is ys = rw (named, is)

    module _ (number : ℕ) (is : IsTable w.tables c.table number) (columns : List Column) (at : columns ≡ columns_in (slice_get w.tables.catalog number)) where
      columns_is : columns_in (table_in c.table w.tables.catalog) ≡ columns
      columns_is = ap columns_in is.found ∙ (ap columns_in (sym is.there) ∙ sym at)

      pub no_place_denies : (r : Refusal) → IsNoPlace columns column r → Denies (fetch_row name column from length') w w (By r)
      no_place_denies r none = record { first = λ ys stand. terms_past columns columns_is ys ∙ none from length'; same = refl }

      module _ (place : ℕ) (stands : IsPlace columns column place) where
        past_column : first_of (slice_refusals columns column from length') ≡ first_of (bad_length from ∷ bad_length length' ∷ [])
        past_column = skip _ _ (fails (is_none (column_in column columns)) NoColumn (pos 2) (rw stands.found)) ∙ skip _ _ (fails (is_no_bytea (column_in column columns)) WrongType (pos 2) (ap is_no_bytea stands.found ∙ ap not stands.bytea))

        pub no_part_denies : (r : Refusal) → IsNoPart from length' r → Denies (fetch_row name column from length') w w (By r)
        no_part_denies r none = record { first = λ ys stand. terms_past columns columns_is ys ∙ (past_column ∙ none); same = refl }

        -- the place is one of each row's
        pub place_within : (row : List Cell) → cells_at w.xacts c.hold w.tables (row_key number c.id) ≡ Some row → place < length row
        place_within row finds =
            let has : HasCells ready.goes.kept.told (row_key number c.id) w.tables (Some row) = subst (HasCells ready.goes.kept.told (row_key number c.id) w.tables) finds (has_cells w.xacts c.hold w.tables ready.goes.kept cursor_looks (row_key number c.id)) in
            let long = fit_long columns (values_told ready.goes.kept.told row) (rw (← at) at has.fit) in
            let below = slice_get_within columns place stands.column stands.there in
            omega (arith, long, below, length-map row (value_told ready.goes.kept.told))

        module _ (part : Part) (parts : IsPart from length' part) where
          unrefused : (ys : List (Edit Deed)) → first_of (fetch_row name column from length' (here_of w ys)).refusals ≡ None
          unrefused ys = terms_past columns columns_is ys ∙ (past_column ∙ (skip _ _ parts.first ∙ skip _ _ parts.second))

          -- the row that the cursor reads
          row_is : (ys : List (Edit Deed)) (stand : StandFor w.xacts w.tables ys) → model.cursor_row w.session ys (cursor_by c) ≡ option_map (row_told stand.kept.told) (cells_at w.xacts c.hold w.tables (row_key number c.id))
          row_is ys stand = ap (λ (viewer : Viewer). row_in c.table c.id (view c.hold.clock viewer ys)) (sym viewer_is) ∙ row_read w c.hold cursor_looks c.table number is c.id ys stand

          fetches : (value : Value) → ((ys : List (Edit Deed)) (stand : StandFor w.xacts w.tables ys) → slice_reply value ≡ sliced from length' (value_under column columns (values_in (option_map (row_told stand.kept.told) (cells_at w.xacts c.hold w.tables (row_key number c.id)))))) → Grants (fetch_row name column from length') w w (slice_reply value)
          fetches value answers = record { granted = by }
            where
              by : (ys : List (Edit Deed)) → StandFor w.xacts w.tables ys → IsGranted (fetch_row name column from length' (here_of w ys)) w w (slice_reply value) ys
              by ys stand = record {
                unrefused = unrefused ys;
                answer = answers ys stand ∙ rw (named, columns_is, row_is ys stand);
                edits = subst (StandFor w.xacts w.tables) (sym (append-nil ys)) stand;
                tables = refl;
                cursors = refl;
              }

          pub none_fetched : cells_at w.xacts c.hold w.tables (row_key number c.id) ≡ None → Grants (fetch_row name column from length') w w (slice_reply values.Null)
          none_fetched none = fetches values.Null (λ ys stand. rw (none, none_under column columns))

          pub some_fetched : (row : List Cell) (cell : Cell) → cells_at w.xacts c.hold w.tables (row_key number c.id) ≡ Some row → slice_get row place ≡ Some cell → (value : Value) → ((told : ℕ → Told) → HasItsValue told w.xacts c.hold w.tables.chunks cell → value ≡ slice_in part.from part.count (value_told told cell)) → Grants (fetch_row name column from length') w w (slice_reply value)
          some_fetched row cell finds there value gives = fetches value answers
            where
              answers : (ys : List (Edit Deed)) (stand : StandFor w.xacts w.tables ys) → slice_reply value ≡ sliced from length' (value_under column columns (values_in (option_map (row_told stand.kept.told) (cells_at w.xacts c.hold w.tables (row_key number c.id)))))
              answers ys stand =
                  let has : HasOutside stand.kept.told w.xacts c.hold w.tables.chunks row = subst (HasOutsideIfThere stand.kept.told w.xacts c.hold w.tables.chunks) finds ((reads_rows w.xacts c.hold w.tables ys stand cursor_looks).outside (row_key number c.id)) in
                  let is-value = gives stand.kept.told (each_there (HasItsValue stand.kept.told w.xacts c.hold w.tables.chunks) row place cell has there) in
                  let under = stands.value (values_told stand.kept.told row) (value_told stand.kept.told cell) (slice_get-map (value_told stand.kept.told) row place ∙ ap (option_map (value_told stand.kept.told)) there) in
                  rw (finds, under, is-value, parts.from_is, parts.count_is)

-- what a body's steps tell of these

pub cells_found : (x : Transactions) (tables : Tables) (found : Option (Bor (List Cell))) (o : Option (List Cell)) (v w : Snapshot) (n : ℕ) (i j : ℤ) → option_copied found ≡ cells_at x v tables (row_key n j) → v ≡ w → j ≡ i → option_copied found ≡ o → cells_at x w tables (row_key n i) ≡ o
cells_found x tables found o v w n i j finds look same is = subst (λ (u : Snapshot). cells_at x u tables (row_key n i) ≡ o) look (subst (λ (k : ℤ). cells_at x v tables (row_key n k) ≡ o) same (sym finds ∙ is))
