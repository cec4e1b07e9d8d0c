-- Why a deletion is refused, and that one that erased the row and its values outside is granted.
use Rattle.std.proofs.Common.{◌≡◌, ℕ, ℤ, ◌<◌, Bool, true, false, List, [], ◌∷◌, length, Option, Some, None, refl, ap, sym, subst, ◌∙◌}
use Rattle.std.specs.Prelude.{◌&&◌}
use Rattle.std.specs.Int.{w64}
use Rattle.std.specs.Int.RustNames.{FitsSigned}
use Rattle.std.proofs.lemmas.Bool.{false≢true}
use Rattle.lo_base.specs.declared.refusal.Cause.TheVariants.{NoRow}
use Rattle.lo_base.specs.declared.refusal.Refusal.{Refusal}
use Rattle.lo_base.specs.declared.reply.Reply.TheVariants.{Word}
use Rattle.lo_base.specs.declared.reply.Word.TheVariants as words
use Rattle.lo_base.specs.declared.value.Cell.{Cell}
use Rattle.lo_model.specs.Edit.{Delete}
use Rattle.xact_core.specs.Kept.{current}
use Rattle.xact_core.specs.Transactions.{Transactions, levels_of}
use Rattle.xact_core.proofs.KeptViews.{whole_kept}
use Rattle.row_versions.specs.Count.{Different}
use Rattle.row_versions.specs.Looks.{IsLook}
use Rattle.row_versions.specs.Search.{busy_at}
use Rattle.row_versions.specs.Stack.{Each}
use Rattle.toast_chunks.specs.Calls.{IsFree}
use Rattle.toast_chunks.specs.Values.{next_number}
use Rattle.row_tables.specs.declared.tables.Tables.{Tables}
use Rattle.row_tables.specs.Calls.{IsHeld, IsTable}
use Rattle.row_tables.specs.Catalog.{AreTables}
use Rattle.row_tables.specs.Cells.{dropped, has_number}
use Rattle.row_tables.specs.Keys.{key_cmp, row_key}
use Rattle.row_tables.specs.Outside.{ChangesRow}
use Rattle.row_tables.specs.RowRules.{delete_row}
use Rattle.row_tables.specs.Standing.{Go, HasCells, Kept, cells_at}
use Rattle.row_tables.specs.Terms.{refusal}
use Rattle.row_tables.specs.World.{Grants, IsReady, Keeps, Refuses, world}
use Rattle.row_tables.proofs.Changing.{IsChange, own_has}
use Rattle.row_tables.proofs.Dropped.{dropped_all, dropped_is, dropped_once}
use Rattle.row_tables.proofs.Granting.{IsGood, grants, keeps}
use Rattle.row_tables.proofs.Judging.{row_absent, row_found, row_free, row_held, table_known}
use Rattle.row_tables.proofs.Owning.{can_be_there, first_session, has_own_name}
use Rattle.row_tables.proofs.ReadRows.{has_cells}
use Rattle.row_tables.proofs.RowChanges.{erasable}

module _ (x : Transactions) (tables : Tables) (s : ℕ) (some : 0 < length (levels_of x s)) (name : List ℕ) (number : ℕ) (is : IsTable tables name number) (id : ℤ) where
  look : IsLook x (current x s)
  look = whole_kept x s some

  pub refused_missing : cells_at x (current x s) tables (row_key number id) ≡ None → Refuses (delete_row name id) (world x tables s) (world x tables s) (refusal NoRow id)
  refused_missing found = record {
    first = λ ys stand. rw (table_known x tables s (current x s) look name number is ys, row_absent x tables s (current x s) look name number is ys id stand found) refl;
    same = refl;
  }

  pub refused_held : (row : List Cell) → cells_at x (current x s) tables (row_key number id) ≡ Some row → (r : Refusal) → IsHeld x s tables (row_key number id) r → Refuses (delete_row name id) (world x tables s) (world x tables s) r
  refused_held row found r held = record {
    first = λ ys stand. rw (table_known x tables s (current x s) look name number is ys, row_found x tables s (current x s) look name number is ys id stand row found, row_held x tables s (current x s) look name number is ys id stand r held) refl;
    same = refl;
  }

  pub row_has_cells : (kept : Kept x tables) (row : List Cell) → cells_at x (current x s) tables (row_key number id) ≡ Some row → HasCells kept.told (row_key number id) tables (Some row)
  row_has_cells kept row found = subst (λ (content : Option (List Cell)). HasCells kept.told (row_key number id) tables content) found (has_cells x (current x s) tables kept look (row_key number id))

  -- the values of a row that no other session holds can be erased
  pub can_erase : (kept : Kept x tables) (row new : List Cell) → cells_at x (current x s) tables (row_key number id) ≡ Some row → busy_at key_cmp x s tables.rows (row_key number id) ≡ None → Each (IsFree x s tables.chunks) (dropped row new)
  can_erase kept row new found free = dropped_all row new (IsFree x s tables.chunks) (λ n had. erasable x s tables kept (row_key number id) free n (own_has kept.told (row_key number id) tables (Some row) n (row_has_cells kept row found) had).home)

  pub dropped_apart : (kept : Kept x tables) (row new : List Cell) → cells_at x (current x s) tables (row_key number id) ≡ Some row → Different (dropped row new)
  dropped_apart kept row new found = dropped_once row new (row_has_cells kept row found).once

  module _ (ready : IsReady (world x tables s)) (are : AreTables tables.catalog) (fits : FitsSigned w64 id) (row : List Cell) (found : cells_at x (current x s) tables (row_key number id) ≡ Some row) (free : busy_at key_cmp x s tables.rows (row_key number id) ≡ None) (new : Tables) (changes : ChangesRow x s (row_key number id) [] (dropped row []) None tables new) where
    and_true : (b : Bool) → (b && true) ≡ b
    and_true true = refl
    and_true false = refl

    is_change : (kept : Kept x tables) → IsChange x.clock (row_key number id) kept.told (next_number tables.chunks) [] (dropped row []) (cells_at x (current x s) tables (row_key number id)) None
    is_change kept = subst (λ (was : Option (List Cell)). IsChange x.clock (row_key number id) kept.told (next_number tables.chunks) [] (dropped row []) was None) (sym found) (record {
      new = tt;
      said = tt;
      here = λ n now. absurd (false≢true now);
      had = λ n gone. sym (dropped_is row [] n ∙ and_true (has_number row n)) ∙ gone;
      lost = λ n gone. refl;
      others = λ n stays left. sym left ∙ (dropped_is row [] n ∙ and_true (has_number row n));
    })

    good : (kept : Kept x tables) → IsGood x s tables new (row_key number id) [] (dropped row []) None kept
    good kept = record { change = is_change kept; cells = tt }

    pub deletes : Grants (delete_row name id) (world x tables s) (world x new s) (Word words.Delete)
    deletes = grants x s (first_session x s some) some ready.whole tables new (row_key number id) free [] (dropped row []) None changes (can_be_there tables name number id is fits) good (delete_row name id) (Word words.Delete) (has_own_name tables name number id is are) (λ ys stand. record {
      unrefused = rw (table_known x tables s (current x s) look name number is ys, row_found x tables s (current x s) look name number is ys id stand row found, row_free x tables s (current x s) look name number is ys id stand free) refl;
      answer = refl;
      deeds = ap (λ (t : List ℕ). Delete t id ∷ []) (sym is.named);
      tables = refl;
      cursors = refl;
    })

    pub deletion_keeps : Go x new → Keeps (world x tables s) (world x new s)
    deletion_keeps go = keeps x s (first_session x s some) some ready.whole tables new (row_key number id) free [] (dropped row []) None changes (can_be_there tables name number id is fits) good ready go
