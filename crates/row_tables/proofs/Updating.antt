-- Why an update is refused, and that one that put the new row, moved long values out and erased those that went is granted.
use Rattle.std.proofs.Common.{◌≡◌, ℕ, ℤ, ◌+◌, ◌<◌, Bool, true, false, List, length, map, take, Option, Some, None, refl, ap, sym, subst, ◌∙◌}
use Rattle.std.specs.Prelude.{◌||◌, ◌&&◌, not, slice_get}
use Rattle.std.specs.Int.{w64}
use Rattle.std.specs.Int.RustNames.{FitsSigned}
use Rattle.std.proofs.lemmas.Bool.{false≢true}
use Rattle.lo_base.specs.declared.column.Column.{Column}
use Rattle.lo_base.specs.declared.refusal.Cause.TheVariants.{NoRow}
use Rattle.lo_base.specs.declared.refusal.Denied.{Denied}
use Rattle.lo_base.specs.declared.refusal.Denied.TheVariants.{By, NoMemory}
use Rattle.lo_base.specs.declared.refusal.Refusal.{Refusal}
use Rattle.lo_base.specs.declared.reply.Reply.TheVariants.{Word}
use Rattle.lo_base.specs.declared.reply.Word.TheVariants as words
use Rattle.lo_base.specs.declared.value.Cell.{Cell}
use Rattle.lo_model.specs.Edit.{Deed, Edit}
use Rattle.lo_model.specs.Stored.{stored_after_update}
use Rattle.toast_plan.specs.Choice.{IsPlanFor, outside_of}
use Rattle.toast_plan.specs.Columns.{IsTableColumns}
use Rattle.toast_plan.specs.Row.{value_lengths}
use Rattle.toast_plan.specs.declared.layout.Plan.{Plan}
use Rattle.xact_core.specs.Kept.{current}
use Rattle.xact_core.specs.Transactions.{Transactions, levels_of}
use Rattle.xact_core.proofs.KeptViews.{whole_kept}
use Rattle.row_versions.specs.Count.{Different}
use Rattle.row_versions.specs.Looks.{IsLook}
use Rattle.row_versions.specs.Search.{busy_at}
use Rattle.row_versions.specs.Stack.{Each}
use Rattle.toast_chunks.specs.Values.{next_number}
use Rattle.toast_chunks.specs.Calls.{IsFree}
use Rattle.toast_chunks.proofs.Steps.{left_none, own_same}
use Rattle.row_tables.specs.declared.change.Change.{Change}
use Rattle.row_tables.specs.declared.change.Draft.{Draft}
use Rattle.row_tables.specs.declared.row_key.RowKey.{RowKey}
use Rattle.row_tables.specs.declared.tables.Tables.{Tables}
use Rattle.row_tables.specs.Calls.{FitRows, IsHeld, IsTable}
use Rattle.row_tables.specs.Catalog.{AreTables, columns_in}
use Rattle.row_tables.specs.Cells.{AreCells, Moved, all_brought, all_moved, all_settled, cell_lengths, changed_cells, dropped, has_moved, has_number, is_among, stored_told, told_with, values_told}
use Rattle.row_tables.specs.Drafts.{DeniesBy, DeniesDraft, Held, IsDraft, IsTooBig, Missing, TooBig, row_columns}
use Rattle.row_tables.specs.Keys.{key_cmp, row_key}
use Rattle.row_tables.specs.Outside.{ChangesRow, FitsLength}
use Rattle.row_tables.specs.Row.{Here}
use Rattle.row_tables.specs.RowRules.{columns_here, is_named_by, row_here, stored_in, stored_updated, update_row, updated, values_in}
use Rattle.row_tables.specs.Standing.{Go, HasCells, Kept, StandFor, cells_at, versions_of}
use Rattle.row_tables.specs.Terms.{refusal, row_too_big}
use Rattle.row_tables.specs.Values.{changed_values}
use Rattle.row_tables.specs.World.{Denies, Grants, IsReady, Keeps, Refuses, here_of, world}
use Rattle.row_tables.proofs.Changed.{brought_cells, brought_has, brought_values, changed_has, changed_is_cells, changed_lengths, changed_marks, cells_same, changed_told, plan_same, stored_changed}
use Rattle.row_tables.proofs.Changing.{IsChange, moved_below, own_has}
use Rattle.row_tables.proofs.Deleting.{can_erase, dropped_apart, row_has_cells}
use Rattle.row_tables.proofs.Dropped.{dropped_below, dropped_is}
use Rattle.row_tables.proofs.Granting.{IsGood, grants, keeps}
use Rattle.row_tables.proofs.Inserting.{put_same}
use Rattle.row_tables.proofs.Judging.{columns_are, row_absent, row_found, row_free, row_held, short_enough, stored_are, table_known, values_are}
use Rattle.row_tables.proofs.Owning.{can_be_there, columns_can, first_session, has_own_name}
use Rattle.row_tables.proofs.Planned.{MarksBytes, fits_length}
use Rattle.row_tables.proofs.Settling.{cells_below, moved_from, settled_cells, settled_has, settled_values, told_moved}

-- what `not` and `and` say of their parts

first_of_both : (a b : Bool) → (a && b) ≡ true → a ≡ true
first_of_both true b both = refl
first_of_both false b both = both

second_not : (a b : Bool) → (a && not b) ≡ true → b ≡ false
second_not true true both = sym both
second_not true false both = refl
second_not false b both = absurd (false≢true both)

-- a part that implies the whole is the whole where nothing is left of it
as_before : (old new : Bool) → (old && not new) ≡ false → (new ≡ true → old ≡ true) → new ≡ old
as_before true true none implies = refl
as_before true false none implies = absurd (false≢true (sym none))
as_before false true none implies = absurd (false≢true (implies refl))
as_before false false none implies = refl

module _ (x : Transactions) (tables : Tables) (s : ℕ) (some : 0 < length (levels_of x s)) (name : List ℕ) (number : ℕ) (is : IsTable tables name number) (id : ℤ) (changes : List Change) where
  look : IsLook x (current x s)
  look = whole_kept x s some

  abbrev pub key : RowKey
  key = row_key number id

  pub refused_missing : cells_at x (current x s) tables key ≡ None → Refuses (update_row name id changes) (world x tables s) (world x tables s) (refusal NoRow id)
  refused_missing found = record {
    first = λ ys stand. rw (table_known x tables s (current x s) look name number is ys, row_absent x tables s (current x s) look name number is ys id stand found) refl;
    same = refl;
  }

  module _ (can : IsTableColumns is.table.columns) (fit : FitRows changes is.table.columns) (old : List Cell) (found : cells_at x (current x s) tables key ≡ Some old) where
    abbrev pub changed : List Cell
    changed = changed_cells changes is.table.columns old

    pub old_cells : (kept : Kept x tables) → AreCells kept.told key (next_number tables.chunks) is.table.columns old
    old_cells kept = subst (λ columns. AreCells kept.told key (next_number tables.chunks) columns old) (ap columns_in is.there) (row_has_cells x tables s some name number is id kept old found)

    pub new_cells : (kept : Kept x tables) → AreCells kept.told key (next_number tables.chunks) is.table.columns changed
    new_cells kept = changed_is_cells kept.told key (next_number tables.chunks) is.table.columns changes old can fit (old_cells kept)

    -- the values that the update would make, where tables stood for some edits

    module _ (ys : List (Edit Deed)) (stand : StandFor x tables ys) where
      abbrev pub here : Here
      here = here_of (world x tables s) ys

      updated_is : updated here name id changes ≡ changed_values changes is.table.columns (values_told stand.kept.told old)
      updated_is = ap (λ (columns : List Column). changed_values changes columns (values_in (row_here here name id))) (columns_are x tables s (current x s) look name number is ys) ∙ ap (changed_values changes is.table.columns) (values_are x tables s (current x s) look name number is ys id stand old found)

      lengths_are : value_lengths (updated here name id changes) ≡ cell_lengths changed
      lengths_are = ap value_lengths updated_is ∙ sym (changed_lengths stand.kept.told key (next_number tables.chunks) is.table.columns changes old can fit (old_cells stand.kept))

      too_big_is : row_too_big (columns_here here name) (value_lengths (updated here name id changes)) ≡ row_too_big is.table.columns (cell_lengths changed)
      too_big_is = ap (λ (columns : List Column). row_too_big columns (value_lengths (updated here name id changes))) (columns_are x tables s (current x s) look name number is ys) ∙ ap (row_too_big is.table.columns) lengths_are

    pub refused_big : (r : Refusal) → IsTooBig is.table.columns changed r → Refuses (update_row name id changes) (world x tables s) (world x tables s) r
    refused_big r big = record {
      first = λ ys stand. rw (table_known x tables s (current x s) look name number is ys, row_found x tables s (current x s) look name number is ys id stand old found, too_big_is ys stand, big) refl;
      same = refl;
    }

    module _ (short : row_too_big is.table.columns (cell_lengths changed) ≡ None) where
      pub refused_held : (r : Refusal) → IsHeld x s tables key r → Refuses (update_row name id changes) (world x tables s) (world x tables s) r
      refused_held r held = record {
        first = λ ys stand. rw (table_known x tables s (current x s) look name number is ys, row_found x tables s (current x s) look name number is ys id stand old found, too_big_is ys stand, short, row_held x tables s (current x s) look name number is ys id stand r held) refl;
        same = refl;
      }

    module _ (plan : Plan) (planned : IsPlanFor is.table.columns (cell_lengths changed) plan) (ready : IsReady (world x tables s)) (are : AreTables tables.catalog) (fits : FitsSigned w64 id) (free : busy_at key_cmp x s tables.rows key ≡ None) (os : List Bool) (os_is : os ≡ take (length is.table.columns) plan.outside) (row : List Cell) (row_is : (kept : Kept x tables) → row ≡ all_brought kept.told os changed) (new : Tables) (change : ChangesRow x s key (all_moved os row (next_number tables.chunks)) (dropped old row) (Some (all_settled os row (next_number tables.chunks))) tables new) where
      abbrev pub moved : List Moved
      moved = all_moved os row (next_number tables.chunks)

      abbrev pub put : List Cell
      put = all_settled os row (next_number tables.chunks)

      outside_is : os ≡ outside_of is.table.columns (cell_lengths changed)
      outside_is = os_is ∙ planned.outside

      as_long : (kept : Kept x tables) → length os ≡ length changed
      as_long kept = ap (λ (bs : List Bool). length bs) outside_is ∙ plan_same kept.told key (next_number tables.chunks) is.table.columns changed (cell_lengths changed) (new_cells kept)

      row_cells : (kept : Kept x tables) → AreCells kept.told key (next_number tables.chunks) is.table.columns row
      row_cells kept = subst (λ (cells : List Cell). AreCells kept.told key (next_number tables.chunks) is.table.columns cells) (sym (row_is kept)) (brought_cells kept.told key (next_number tables.chunks) is.table.columns os changed (as_long kept) (new_cells kept))

      -- the new cells have no number that the old ones had not

      row_had : (kept : Kept x tables) (n : ℕ) → has_number row n ≡ true → has_number old n ≡ true
      row_had kept n had = changed_has changes is.table.columns old n (brought_has kept.told os changed n (subst (λ (cells : List Cell). has_number cells n ≡ true) (row_is kept) had))

      gone_had : (n : ℕ) → is_among (dropped old row) n ≡ true → has_number old n ≡ true
      gone_had n gone = first_of_both (has_number old n) (not (has_number row n)) (sym (dropped_is old row n) ∙ gone)

      gone_lost : (n : ℕ) → is_among (dropped old row) n ≡ true → has_number row n ≡ false
      gone_lost n gone = second_not (has_number old n) (has_number row n) (sym (dropped_is old row n) ∙ gone)

      gone_stays : (kept : Kept x tables) (n : ℕ) → has_number old n ≡ true → has_moved moved n ≡ false
      gone_stays kept n had = moved_below (next_number tables.chunks) n moved (moved_from os row (next_number tables.chunks)) (own_has kept.told key tables (Some old) n (row_has_cells x tables s some name number is id kept old found) had).below

      is_change : (kept : Kept x tables) → IsChange x.clock key kept.told (next_number tables.chunks) moved (dropped old row) (cells_at x (current x s) tables key) (Some put)
      is_change kept = subst (λ (was : Option (List Cell)). IsChange x.clock key kept.told (next_number tables.chunks) moved (dropped old row) was (Some put)) (sym found) (record {
        new = moved_from os row (next_number tables.chunks);
        said = told_moved x.clock key os row (next_number tables.chunks) kept.told;
        here = λ n now. settled_has os row (next_number tables.chunks) n ∙ ap (λ (b : Bool). b || has_number row n) now;
        had = gone_had;
        lost = λ n gone. settled_has os row (next_number tables.chunks) n ∙ (ap (λ (b : Bool). b || has_number row n) (gone_stays kept n (gone_had n gone)) ∙ gone_lost n gone);
        others = λ n stays left. settled_has os row (next_number tables.chunks) n ∙ (ap (λ (b : Bool). b || has_number row n) stays ∙ as_before (has_number old n) (has_number row n) (sym (dropped_is old row n) ∙ left) (row_had kept n));
      })

      next_is : next_number new.chunks ≡ next_number tables.chunks + length moved
      next_is = change.erases.next ∙ change.moves.next

      columns_new : columns_in (slice_get new.catalog number) ≡ is.table.columns
      columns_new = ap (λ catalog. columns_in (slice_get catalog number)) change.catalog ∙ ap columns_in is.there

      good_cells : (kept : Kept x tables) → HasCells (λ n. told_with x.clock key moved kept.told n) key new (Some put)
      good_cells kept = rw (next_is, columns_new) (settled_cells x.clock key os row (next_number tables.chunks) kept.told is.table.columns (row_cells kept))

      good : (kept : Kept x tables) → IsGood x s tables new key moved (dropped old row) (Some put) kept
      good kept = record { change = is_change kept; cells = good_cells kept }

      -- the edit that the row says

      values_put : (kept : Kept x tables) → values_told (told_with x.clock key moved kept.told) put ≡ changed_values changes is.table.columns (values_told kept.told old)
      values_put kept = settled_values x.clock key os row (next_number tables.chunks) kept.told (cells_below kept.told key (next_number tables.chunks) row (row_cells kept).each)
          ∙ (ap (values_told kept.told) (row_is kept) ∙ (brought_values kept.told os changed ∙ changed_told kept.told changes is.table.columns old))

      marks : (kept : Kept x tables) → MarksBytes os (changed_values changes is.table.columns (values_told kept.told old))
      marks kept = subst (λ (bs : List Bool). MarksBytes bs (changed_values changes is.table.columns (values_told kept.told old))) (sym outside_is) (changed_marks kept.told key (next_number tables.chunks) is.table.columns changes old can fit (old_cells kept))

      stored_put : (kept : Kept x tables) → stored_told (told_with x.clock key moved kept.told) put ≡ stored_after_update x.clock os (map (is_named_by changes) is.table.columns) (stored_told kept.told old)
      stored_put kept = subst (λ (cells : List Cell). stored_told (told_with x.clock key (all_moved os cells (next_number tables.chunks)) kept.told) (all_settled os cells (next_number tables.chunks)) ≡ stored_after_update x.clock os (map (is_named_by changes) is.table.columns) (stored_told kept.told old)) (sym (row_is kept)) (stored_changed x.clock key kept.told (next_number tables.chunks) is.table.columns changes os old (old_cells kept) (marks kept))

      stored_is : (ys : List (Edit Deed)) (stand : StandFor x tables ys) → stored_updated x.clock (columns_here (here ys stand) name) changes (updated (here ys stand) name id changes) (stored_in (row_here (here ys stand) name id)) ≡ stored_after_update x.clock os (map (is_named_by changes) is.table.columns) (stored_told stand.kept.told old)
      stored_is ys stand =
          ap (λ (columns : List Column). stored_updated x.clock columns changes (updated (here ys stand) name id changes) (stored_in (row_here (here ys stand) name id))) (columns_are x tables s (current x s) look name number is ys)
          ∙ (ap (λ (lengths : List (Option ℕ)). stored_after_update x.clock (outside_of is.table.columns lengths) (map (is_named_by changes) is.table.columns) (stored_in (row_here (here ys stand) name id))) (lengths_are ys stand)
          ∙ (ap (λ (bs : List Bool). stored_after_update x.clock bs (map (is_named_by changes) is.table.columns) (stored_in (row_here (here ys stand) name id))) (sym outside_is)
          ∙ ap (stored_after_update x.clock os (map (is_named_by changes) is.table.columns)) (stored_are x tables s (current x s) look name number is ys id stand old found)))

      pub updates : Grants (update_row name id changes) (world x tables s) (world x new s) (Word words.Update)
      updates = grants x s (first_session x s some) some ready.whole tables new key free moved (dropped old row) (Some put) change (can_be_there tables name number id is fits) good (update_row name id changes) (Word words.Update) (has_own_name tables name number id is are) (λ ys stand. record {
        unrefused = rw (table_known x tables s (current x s) look name number is ys, row_found x tables s (current x s) look name number is ys id stand old found, too_big_is ys stand, short_enough is.table.columns (cell_lengths changed) planned.fits, row_free x tables s (current x s) look name number is ys id stand free) refl;
        answer = refl;
        deeds = put_same id (sym is.named) (updated_is ys stand ∙ sym (values_put stand.kept)) (stored_is ys stand ∙ sym (stored_put stand.kept));
        tables = refl;
        cursors = refl;
      })

      pub update_keeps : Go x new → Keeps (world x tables s) (world x new s)
      update_keeps go = keeps x s (first_session x s some) some ready.whole tables new key free moved (dropped old row) (Some put) change (can_be_there tables name number id is fits) good ready go

  -- what a draft says, in the words of the table

  module _ (are : AreTables tables.catalog) (fit : FitRows changes is.table.columns) (d : Draft) (draft : IsDraft x s tables key changes d) where
    columns_same : row_columns tables key ≡ is.table.columns
    columns_same = ap columns_in is.there

    pub draft_can : IsTableColumns is.table.columns
    draft_can = columns_can tables.catalog number is.table are.columns is.there

    pub draft_planned : IsPlanFor is.table.columns (cell_lengths (changed_cells changes is.table.columns draft.old)) d.plan
    draft_planned = subst (λ (cs : List Column). IsPlanFor cs (cell_lengths (changed_cells changes cs draft.old)) d.plan) columns_same draft.planned

    pub draft_row : (kept : Kept x tables) → d.row.items ≡ all_brought kept.told (take (length is.table.columns) d.plan.outside) (changed_cells changes is.table.columns draft.old)
    draft_row kept = subst (λ (cs : List Column). d.row.items ≡ all_brought kept.told (take (length cs) d.plan.outside) (changed_cells changes cs draft.old)) columns_same (draft.row kept)

    pub draft_cells : (kept : Kept x tables) → AreCells kept.told key (next_number tables.chunks) is.table.columns d.row.items
    draft_cells kept = subst (λ (cells : List Cell). AreCells kept.told key (next_number tables.chunks) is.table.columns cells) (sym (draft_row kept)) (brought_cells kept.told key (next_number tables.chunks) is.table.columns (take (length is.table.columns) d.plan.outside) (changed_cells changes is.table.columns draft.old) as_long changed_are)
      where
        changed_are : AreCells kept.told key (next_number tables.chunks) is.table.columns (changed_cells changes is.table.columns draft.old)
        changed_are = new_cells draft_can fit draft.old draft.found kept

        as_long : length (take (length is.table.columns) d.plan.outside) ≡ length (changed_cells changes is.table.columns draft.old)
        as_long = ap (λ (bs : List Bool). length bs) draft_planned.outside ∙ plan_same kept.told key (next_number tables.chunks) is.table.columns (changed_cells changes is.table.columns draft.old) (cell_lengths (changed_cells changes is.table.columns draft.old)) changed_are

    pub draft_length : (kept : Kept x tables) → length d.row.items ≡ length is.table.columns
    draft_length kept = cells_same kept.told key (next_number tables.chunks) is.table.columns d.row.items (draft_cells kept)

    pub draft_short : (kept : Kept x tables) → Each FitsLength d.row.items
    draft_short kept = fits_length kept.told key (next_number tables.chunks) is.table.columns d.row.items (draft_cells kept)

    pub draft_free : (kept : Kept x tables) → Each (IsFree x s tables.chunks) d.gone.items
    draft_free kept = subst (Each (IsFree x s tables.chunks)) (sym draft.gone) (can_erase x tables s some name number is id kept draft.old d.row.items draft.found draft.free)

    pub draft_given : (kept : Kept x tables) → Each (λ (n : ℕ). n < next_number tables.chunks) d.gone.items
    draft_given kept = subst (Each (λ (n : ℕ). n < next_number tables.chunks)) (sym draft.gone) (dropped_below (next_number tables.chunks) draft.old d.row.items (cells_below kept.told key (next_number tables.chunks) draft.old (old_cells draft_can fit draft.old draft.found kept).each))

    pub draft_once : (kept : Kept x tables) → Different d.gone.items
    draft_once kept = subst Different (sym draft.gone) (dropped_apart x tables s some name number is id kept draft.old d.row.items draft.found)

    -- the put of a draft, and what comes of it

    module _ (ready : IsReady (world x tables s)) (fits : FitsSigned w64 id) (count : ℕ) (count_is : count ≡ length is.table.columns) (new : Tables) (change : ChangesRow x s key (all_moved (take count d.plan.outside) d.row.items (next_number tables.chunks)) d.gone.items (Some (all_settled (take count d.plan.outside) d.row.items (next_number tables.chunks))) tables new) where
      changed_row : ChangesRow x s key (all_moved (take count d.plan.outside) d.row.items (next_number tables.chunks)) (dropped draft.old d.row.items) (Some (all_settled (take count d.plan.outside) d.row.items (next_number tables.chunks))) tables new
      changed_row = subst (λ (ns : List ℕ). ChangesRow x s key (all_moved (take count d.plan.outside) d.row.items (next_number tables.chunks)) ns (Some (all_settled (take count d.plan.outside) d.row.items (next_number tables.chunks))) tables new) draft.gone change

      row_is : (kept : Kept x tables) → d.row.items ≡ all_brought kept.told (take count d.plan.outside) (changed_cells changes is.table.columns draft.old)
      row_is kept = draft_row kept ∙ ap (λ (k : ℕ). all_brought kept.told (take k d.plan.outside) (changed_cells changes is.table.columns draft.old)) (sym count_is)

      pub draft_updates : Grants (update_row name id changes) (world x tables s) (world x new s) (Word words.Update)
      draft_updates = updates draft_can fit draft.old draft.found d.plan draft_planned ready are fits draft.free (take count d.plan.outside) (ap (λ (k : ℕ). take k d.plan.outside) count_is) d.row.items row_is new changed_row

      pub draft_keeps : Go x new → Keeps (world x tables s) (world x new s)
      draft_keeps go = update_keeps draft_can fit draft.old draft.found d.plan draft_planned ready are fits draft.free (take count d.plan.outside) (ap (λ (k : ℕ). take k d.plan.outside) count_is) d.row.items row_is new changed_row go

  -- why there is no draft

  pub draft_denied : AreTables tables.catalog → FitRows changes is.table.columns → (r : Refusal) → DeniesBy x s tables key changes r → Refuses (update_row name id changes) (world x tables s) (world x tables s) r
  draft_denied are fit r (Missing found refused) = subst (Refuses (update_row name id changes) (world x tables s) (world x tables s)) (sym refused) (refused_missing found)
  draft_denied are fit r (TooBig long) = refused_big (columns_can tables.catalog number is.table are.columns is.there) fit long.old long.found r (subst (λ (cs : List Column). IsTooBig cs (changed_cells changes cs long.old) r) (ap columns_in is.there) long.big)
  draft_denied are fit r (Held short held) = refused_held (columns_can tables.catalog number is.table are.columns is.there) fit short.old short.found (subst (λ (cs : List Column). row_too_big cs (cell_lengths (changed_cells changes cs short.old)) ≡ None) (ap columns_in is.there) short.short) r held

  pub denied_alike : AreTables tables.catalog → FitRows changes is.table.columns → IsReady (world x tables s) → (d : Denied) → DeniesDraft x s tables key changes d → Denies (update_row name id changes) (world x tables s) (world x tables s) d
  denied_alike are fit ready (By r) denies = draft_denied are fit r denies
  denied_alike are fit ready NoMemory denies = record { left = record { rows = λ k. own_same x s (versions_of tables k) (versions_of tables k) refl; chunks = left_none x s tables.chunks; catalog = refl; cursors = refl }; stores = ready.goes.stores; xacts = refl }
