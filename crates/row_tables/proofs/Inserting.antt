-- Why an insertion is refused, and that one that put the row and moved its long values out is granted.
use Rattle.std.proofs.Common.{◌≡◌, ℕ, ℤ, ◌+◌, ◌<◌, Bool, List, [], ◌∷◌, length, take, Option, Some, None, refl, ap, sym, subst, ◌∙◌}
use Rattle.std.specs.Prelude.{◌||◌, slice_get}
use Rattle.std.specs.Int.{w64}
use Rattle.std.specs.Int.RustNames.{FitsSigned}
use Rattle.std.proofs.lemmas.Bool.{false≢true}
use Rattle.lo_base.specs.declared.column.Column.{Column}
use Rattle.lo_base.specs.declared.refusal.Cause.TheVariants.{RowExists}
use Rattle.lo_base.specs.declared.refusal.Refusal.{Refusal}
use Rattle.lo_base.specs.declared.reply.Reply.TheVariants.{Word}
use Rattle.lo_base.specs.declared.reply.Word.TheVariants as words
use Rattle.lo_base.specs.declared.value.Cell.{Cell}
use Rattle.lo_base.specs.declared.value.Value.{Value}
use Rattle.lo_model.specs.Edit.{Put}
use Rattle.lo_model.specs.Stored.{stored_anew}
use Rattle.toast_plan.specs.Choice.{IsPlanFor, outside_of}
use Rattle.toast_plan.specs.Columns.{AreLengths, IsTableColumns}
use Rattle.toast_plan.specs.Row.{AreRowValues, value_lengths}
use Rattle.toast_plan.specs.declared.layout.Plan.{Plan}
use Rattle.xact_core.specs.Kept.{current}
use Rattle.xact_core.specs.Transactions.{Transactions, levels_of}
use Rattle.xact_core.proofs.KeptViews.{whole_kept}
use Rattle.row_versions.specs.Looks.{IsLook}
use Rattle.row_versions.specs.Search.{busy_at}
use Rattle.row_versions.specs.Stack.{Each}
use Rattle.toast_chunks.specs.Values.{next_number}
use Rattle.row_tables.specs.declared.row_key.RowKey.{RowKey}
use Rattle.row_tables.specs.declared.tables.Tables.{Tables}
use Rattle.row_tables.specs.Calls.{IsHeld, IsTable}
use Rattle.row_tables.specs.Catalog.{AreTables, columns_in}
use Rattle.row_tables.specs.Cells.{AreCells, Moved, Told, all_moved, all_settled, cell_lengths, has_moved, has_number, is_among, stored_told, told_with, values_told}
use Rattle.row_tables.specs.Drafts.{IsTooBig}
use Rattle.row_tables.specs.Keys.{key_cmp, row_key}
use Rattle.row_tables.specs.Outside.{ChangesRow, FitsLength}
use Rattle.row_tables.specs.RowRules.{insert_row, put_anew}
use Rattle.row_tables.specs.Standing.{Go, HasCells, Kept, cells_at}
use Rattle.row_tables.specs.Terms.{refusal, row_too_big}
use Rattle.row_tables.specs.Values.{cells_of, id_of}
use Rattle.row_tables.specs.World.{Grants, IsReady, Keeps, Refuses, world}
use Rattle.row_tables.proofs.Changed.{plan_same}
use Rattle.row_tables.proofs.Changing.{IsChange}
use Rattle.row_tables.proofs.EachOf.{or_false}
use Rattle.row_tables.proofs.Granting.{IsGood, grants, keeps}
use Rattle.row_tables.proofs.Judging.{columns_are, row_free, row_held, row_new, row_taken, short_enough, table_known}
use Rattle.row_tables.proofs.Owning.{can_be_there, first_session, has_own_name}
use Rattle.row_tables.proofs.Planned.{fits_length, lengths_fit, new_cells, new_lengths, new_numbers, new_values, plan_marks, stored_new}
use Rattle.row_tables.proofs.Settling.{moved_from, settled_cells, settled_has, settled_values, told_moved}

pub put_same : (id : ℤ) {t u : List ℕ} {vs ws : List Value} {ks ls : List (Option ℕ)} → t ≡ u → vs ≡ ws → ks ≡ ls → Put t id vs ks ∷ [] ≡ Put u id ws ls ∷ []
put_same id {t} {u} {vs} {ws} {ks} {ls} names values stored = ap (λ (n : List ℕ). Put n id vs ks ∷ []) names ∙ (ap (λ (xs : List Value). Put u id xs ks ∷ []) values ∙ ap (λ (xs : List (Option ℕ)). Put u id ws xs ∷ []) stored)

-- a number among those of new cells is one that moved
pub new_has : (os : List Bool) (row : List Value) (first n : ℕ) → has_number (all_settled os (cells_of row) first) n ≡ has_moved (all_moved os (cells_of row) first) n
new_has os row first n = settled_has os (cells_of row) first n ∙ (ap (λ (ns : List ℕ). has_moved (all_moved os (cells_of row) first) n || is_among ns n) (new_numbers row) ∙ or_false (has_moved (all_moved os (cells_of row) first) n))

-- what the plan of new cells wants and gives
module _ (columns : List Column) (row : List Value) (can : IsTableColumns columns) (good : AreRowValues columns row) where
  any_told : ℕ → Told
  any_told n = record { bytes = []; moved = 0; home = row_key 0 (id_of row) }

  are : AreCells any_told (row_key 0 (id_of row)) 0 columns (cells_of row)
  are = new_cells any_told 0 0 columns row can good

  pub new_fit : AreLengths columns (cell_lengths (cells_of row))
  new_fit = lengths_fit any_told (row_key 0 (id_of row)) 0 columns (cells_of row) are

  pub new_short : Each FitsLength (cells_of row)
  new_short = fits_length any_told (row_key 0 (id_of row)) 0 columns (cells_of row) are

  pub planned_same : (plan : Plan) → IsPlanFor columns (cell_lengths (cells_of row)) plan → length (take (length columns) plan.outside) ≡ length (cells_of row)
  planned_same plan planned = ap (λ (bs : List Bool). length bs) planned.outside ∙ plan_same any_told (row_key 0 (id_of row)) 0 columns (cells_of row) (cell_lengths (cells_of row)) are

module _ (x : Transactions) (tables : Tables) (s : ℕ) (some : 0 < length (levels_of x s)) (name : List ℕ) (number : ℕ) (is : IsTable tables name number) (row : List Value) where
  look : IsLook x (current x s)
  look = whole_kept x s some

  abbrev pub key : RowKey
  key = row_key number (id_of row)

  pub refused_taken : (old : List Cell) → cells_at x (current x s) tables key ≡ Some old → Refuses (insert_row name row) (world x tables s) (world x tables s) (refusal RowExists (id_of row))
  refused_taken old found = record {
    first = λ ys stand. rw (table_known x tables s (current x s) look name number is ys, row_taken x tables s (current x s) look name number is ys (id_of row) stand old found) refl;
    same = refl;
  }

  -- what the plan of the cells says of the values

  big_here : (r : Refusal) → IsTooBig is.table.columns (cells_of row) r → row_too_big is.table.columns (value_lengths row) ≡ Some r
  big_here r big = ap (row_too_big is.table.columns) (sym (new_lengths row)) ∙ big

  pub refused_big : cells_at x (current x s) tables key ≡ None → (r : Refusal) → IsTooBig is.table.columns (cells_of row) r → Refuses (insert_row name row) (world x tables s) (world x tables s) r
  refused_big found r big = record {
    first = λ ys stand. rw (table_known x tables s (current x s) look name number is ys, row_new x tables s (current x s) look name number is ys (id_of row) stand found, columns_are x tables s (current x s) look name number is ys, big_here r big) refl;
    same = refl;
  }

  module _ (plan : Plan) (planned : IsPlanFor is.table.columns (cell_lengths (cells_of row)) plan) (found : cells_at x (current x s) tables key ≡ None) where
    short : row_too_big is.table.columns (value_lengths row) ≡ None
    short = ap (row_too_big is.table.columns) (sym (new_lengths row)) ∙ short_enough is.table.columns (cell_lengths (cells_of row)) planned.fits

    pub refused_held : (r : Refusal) → IsHeld x s tables key r → Refuses (insert_row name row) (world x tables s) (world x tables s) r
    refused_held r held = record {
      first = λ ys stand. rw (table_known x tables s (current x s) look name number is ys, row_new x tables s (current x s) look name number is ys (id_of row) stand found, columns_are x tables s (current x s) look name number is ys, short, row_held x tables s (current x s) look name number is ys (id_of row) stand r held) refl;
      same = refl;
    }

    module _ (ready : IsReady (world x tables s)) (are : AreTables tables.catalog) (can : IsTableColumns is.table.columns) (fits : FitsSigned w64 (id_of row)) (good_row : AreRowValues is.table.columns row) (free : busy_at key_cmp x s tables.rows key ≡ None) (os : List Bool) (os_is : os ≡ take (length is.table.columns) plan.outside) (new : Tables) (changes : ChangesRow x s key (all_moved os (cells_of row) (next_number tables.chunks)) [] (Some (all_settled os (cells_of row) (next_number tables.chunks))) tables new) where
      abbrev pub moved : List Moved
      moved = all_moved os (cells_of row) (next_number tables.chunks)

      abbrev pub put : List Cell
      put = all_settled os (cells_of row) (next_number tables.chunks)

      outside_is : os ≡ outside_of is.table.columns (value_lengths row)
      outside_is = os_is ∙ (planned.outside ∙ ap (outside_of is.table.columns) (new_lengths row))

      is_change : (kept : Kept x tables) → IsChange x.clock key kept.told (next_number tables.chunks) moved [] (cells_at x (current x s) tables key) (Some put)
      is_change kept = subst (λ (was : Option (List Cell)). IsChange x.clock key kept.told (next_number tables.chunks) moved [] was (Some put)) (sym found) (record {
        new = moved_from os (cells_of row) (next_number tables.chunks);
        said = told_moved x.clock key os (cells_of row) (next_number tables.chunks) kept.told;
        here = λ n now. new_has os row (next_number tables.chunks) n ∙ now;
        had = λ n gone. absurd (false≢true gone);
        lost = λ n gone. absurd (false≢true gone);
        others = λ n stays left. new_has os row (next_number tables.chunks) n ∙ stays;
      })

      next_is : next_number new.chunks ≡ next_number tables.chunks + length moved
      next_is = changes.erases.next ∙ changes.moves.next

      columns_new : columns_in (slice_get new.catalog number) ≡ is.table.columns
      columns_new = ap (λ catalog. columns_in (slice_get catalog number)) changes.catalog ∙ ap columns_in is.there

      good_cells : (kept : Kept x tables) → HasCells (λ n. told_with x.clock key moved kept.told n) key new (Some put)
      good_cells kept = rw (next_is, columns_new) (settled_cells x.clock key os (cells_of row) (next_number tables.chunks) kept.told is.table.columns (new_cells kept.told number (next_number tables.chunks) is.table.columns row can good_row))

      good : (kept : Kept x tables) → IsGood x s tables new key moved [] (Some put) kept
      good kept = record { change = is_change kept; cells = good_cells kept }

      -- the edit that the row says

      values_put : (told : ℕ → Told) → values_told (told_with x.clock key moved told) put ≡ row
      values_put told = settled_values x.clock key os (cells_of row) (next_number tables.chunks) told (rw (new_numbers row) tt) ∙ new_values told row

      stored_put : (told : ℕ → Told) → stored_told (told_with x.clock key moved told) put ≡ stored_anew x.clock (outside_of is.table.columns (value_lengths row))
      stored_put told = stored_new x.clock key os (next_number tables.chunks) told row (rw outside_is (plan_marks is.table.columns row can good_row.fit)) ∙ ap (stored_anew x.clock) outside_is

      pub inserts : Grants (insert_row name row) (world x tables s) (world x new s) (Word words.Insert)
      inserts = grants x s (first_session x s some) some ready.whole tables new key free moved [] (Some put) changes (can_be_there tables name number (id_of row) is fits) good (insert_row name row) (Word words.Insert) (has_own_name tables name number (id_of row) is are) (λ ys stand. record {
        unrefused = rw (table_known x tables s (current x s) look name number is ys, row_new x tables s (current x s) look name number is ys (id_of row) stand found, columns_are x tables s (current x s) look name number is ys, short, row_free x tables s (current x s) look name number is ys (id_of row) stand free) refl;
        answer = refl;
        deeds = ap (λ (columns : List Column). put_anew x.clock name columns row ∷ []) (columns_are x tables s (current x s) look name number is ys) ∙ put_same (id_of row) (sym is.named) (sym (values_put stand.kept.told)) (sym (stored_put stand.kept.told));
        tables = refl;
        cursors = refl;
      })

      pub insertion_keeps : Go x new → Keeps (world x tables s) (world x new s)
      insertion_keeps go = keeps x s (first_session x s some) some ready.whole tables new key free moved [] (Some put) changes (can_be_there tables name number (id_of row) is fits) good ready go
