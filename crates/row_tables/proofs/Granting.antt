-- A change of one row grants a call whose row it is, and leaves what every call leaves.
use Rattle.std.proofs.Common.{◌≡◌, ℕ, ◌<◌, ◌≤◌, true, List, [], ◌∷◌, ◌++◌, length, Option, None, refl, ap, sym, subst, ◌∙◌, arith}
use Rattle.std.specs.Prelude.{All, IsPermutation, is_some}
use Rattle.lo_base.specs.declared.reply.Reply.{Reply}
use Rattle.lo_base.specs.declared.value.Cell.{Cell}
use Rattle.lo_model.specs.declared.owner.Owner.TheVariants.{Running}
use Rattle.lo_model.specs.Edit.{Deed, Edit, edits_by}
use Rattle.xact_core.specs.Kept.{HoldsOthers, HoldsWholeViews, current}
use Rattle.xact_core.specs.Transactions.{Transactions, levels_of}
use Rattle.xact_core.proofs.KeptViews.{held_kept}
use Rattle.row_versions.specs.Search.{busy_at}
use Rattle.toast_chunks.specs.Values.{next_number}
use Rattle.row_tables.specs.declared.cursors.Cursor.{Cursor}
use Rattle.row_tables.specs.declared.cursors.Cursors.{Cursors}
use Rattle.row_tables.specs.declared.row_key.RowKey.{RowKey}
use Rattle.row_tables.specs.declared.tables.Tables.{Tables}
use Rattle.row_tables.specs.Catalog.{table_in}
use Rattle.row_tables.specs.Cells.{Moved, Told, told_with}
use Rattle.row_tables.specs.Cursors.{AreOpen, HoldsOwn, HoldsRest, cursors_of, holds_in, own_cursors}
use Rattle.row_tables.specs.Keys.{key_cmp}
use Rattle.row_tables.specs.Outside.{ChangesRow}
use Rattle.row_tables.specs.Row.{Here, Row}
use Rattle.row_tables.specs.Standing.{Go, HasCells, IsNoKey, Kept, StandFor, cells_at, deed_told}
use Rattle.row_tables.specs.Terms.{first_of}
use Rattle.row_tables.specs.World.{Grants, HasTable, IsGranted, IsReady, Keeps, here_of, world}
use Rattle.row_tables.proofs.Changing.{IsChange}
use Rattle.row_tables.proofs.RowChanges.{kept_changed}
use Rattle.row_tables.proofs.RowEdited.{HasOwnName, stand_changed}

-- the same cursors, whatever room for more was taken

pub same_cursors : (x : Transactions) (old new : Cursors) → new.entries.items ≡ old.entries.items → AreOpen x old → AreOpen x new
same_cursors x old new same are = record {
  own = subst (λ (entries : List Cursor). All HoldsOwn entries) (sym same) are.own;
  held = record { rest = are.held.rest; all = subst (λ (entries : List Cursor). IsPermutation x.held (holds_in entries ++ are.held.rest)) (sym same) are.held.all };
}

pub same_holds : (x : Transactions) → HoldsOthers x x
same_holds x = record { rest = refl; kept = held_kept x }

pub same_rest : (x : Transactions) (old new : Cursors) → new.entries.items ≡ old.entries.items → HoldsRest x.held x.held old new
same_rest x old new same = record { rest = λ others all. subst (λ (entries : List Cursor). IsPermutation x.held (holds_in entries ++ others)) (sym same) all }

pub same_named : (old new : Tables) → new.catalog ≡ old.catalog → new.cursors.entries.items ≡ old.cursors.entries.items → All (HasTable old) old.cursors.entries.items → All (HasTable new) new.cursors.entries.items
same_named old new tables cursors are = subst (λ (entries : List Cursor). All (HasTable new) entries) (sym cursors) (subst (λ catalog. All (λ (c : Cursor). is_some (table_in c.table catalog) ≡ true) old.cursors.entries.items) (sym tables) are)

-- what a history owes for a change
pub record IsGood (x : Transactions) (s : ℕ) (old new : Tables) (key : RowKey) (moved : List Moved) (gone : List ℕ) (content : Option (List Cell)) (kept : Kept x old) : Type 0 where
  pub change : IsChange x.clock key kept.told (next_number old.chunks) moved gone (cells_at x (current x s) old key) content
  pub cells : HasCells (λ n. told_with x.clock key moved kept.told n) key new content

-- what a row says of a change, where tables stood for some edits
pub record IsAnswer (rule : Here → Row) (reply : Reply) (x : Transactions) (s : ℕ) (old : Tables) (name : List ℕ) (key : RowKey) (moved : List Moved) (content : Option (List Cell)) (ys : List (Edit Deed)) (told : ℕ → Told) : Type 0 where
  pub unrefused : first_of (rule (here_of (world x old s) ys)).refusals ≡ None
  pub answer : reply ≡ (rule (here_of (world x old s) ys)).granted.reply
  pub deeds : (rule (here_of (world x old s) ys)).granted.deeds ≡ deed_told (λ n. told_with x.clock key moved told n) name key.id content ∷ []
  pub tables : old.catalog ≡ (rule (here_of (world x old s) ys)).granted.tables
  pub cursors : cursors_of s old.cursors ≡ (rule (here_of (world x old s) ys)).granted.cursors

module _ (x : Transactions) (s : ℕ) (one : 1 ≤ s) (some : 0 < length (levels_of x s)) (whole : HoldsWholeViews x) (old new : Tables) (key : RowKey) (free : busy_at key_cmp x s old.rows key ≡ None) (moved : List Moved) (gone : List ℕ) (content : Option (List Cell)) (changes : ChangesRow x s key moved gone content old new) (there : IsNoKey old key → ⊥) (good : (kept : Kept x old) → IsGood x s old new key moved gone content kept) where
  pub grants : (rule : Here → Row) (reply : Reply) (has_name : HasOwnName old key) → ((ys : List (Edit Deed)) (stand : StandFor x old ys) → IsAnswer rule reply x s old has_name.table.name key moved content ys stand.kept.told) → Grants rule (world x old s) (world x new s) reply
  grants rule reply has_name answers = record { granted = λ ys stand. by_answer ys stand (answers ys stand) }
    where
      by_answer : (ys : List (Edit Deed)) (stand : StandFor x old ys) → IsAnswer rule reply x s old has_name.table.name key moved content ys stand.kept.told → IsGranted (rule (here_of (world x old s) ys)) (world x old s) (world x new s) reply ys
      by_answer ys stand is = record {
        unrefused = is.unrefused;
        answer = is.answer;
        edits = subst (λ (deeds : List Deed). StandFor x new (ys ++ edits_by x.clock (Running s (length (levels_of x s))) deeds)) (sym is.deeds)
            (stand_changed x s one some whole old new key stand.kept free moved gone content changes (good stand.kept).change has_name ys stand.reads stand.known (good stand.kept).cells there);
        tables = changes.catalog ∙ is.tables;
        cursors = ap (own_cursors s) changes.cursors ∙ is.cursors;
      }

  pub keeps : IsReady (world x old s) → Go x new → Keeps (world x old s) (world x new s)
  keeps ready go = record {
    ready = record {
      whole = ready.whole;
      goes = record { stores = go; kept = kept_changed x s one some whole old new key ready.goes.kept free moved gone content changes (good ready.goes.kept).change (good ready.goes.kept).cells there };
      cursors = same_cursors x old.cursors new.cursors changes.cursors ready.cursors;
      named = same_named old new changes.catalog changes.cursors ready.named;
    };
    session = refl;
    cursors = λ t other. ap (own_cursors t) changes.cursors;
    others = same_holds x;
    holds = same_rest x old.cursors new.cursors changes.cursors;
    views = omega arith;
  }
