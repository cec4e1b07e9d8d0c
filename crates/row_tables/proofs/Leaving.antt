-- What calls left, also where one found no memory: who does not see it, and that it is gone with the level that it was made in.
use Rattle.std.proofs.Common.{◌≡◌, ℕ, ◌≤◌, ◌⊎◌, false, List, [], ◌∷◌, length, Option, Some, None, ap, sym, subst, arith}
use Rattle.std.specs.Int.{w64}
use Rattle.std.specs.Int.RustNames.{FitsSigned}
use Rattle.std.specs.Prelude.{slice_get}
use Rattle.lo_base.specs.declared.column.Column.{Column}
use Rattle.lo_base.specs.declared.value.Cell.{Cell}
use Rattle.lo_base.specs.declared.value.Cell.TheVariants as cells
use Rattle.lo_model.specs.Database.{Table}
use Rattle.lo_model.specs.declared.owner.Owner.TheVariants.{Running}
use Rattle.lo_model.specs.Edit.{Deed, Edit}
use Rattle.lo_model.specs.Levels.{undone, aborted}
use Rattle.lo_model.specs.View.{sees}
use Rattle.xact_core.specs.declared.snapshot.Snapshot.{Snapshot}
use Rattle.xact_core.specs.Ends.{Turns, undo}
use Rattle.xact_core.specs.Transactions.{Transactions, levels_of}
use Rattle.row_versions.specs.Calls.{UndoesLevel, Aborts}
use Rattle.row_versions.specs.Found.{given, content_of}
use Rattle.row_versions.specs.Stands.{BusyAlike, replaces}
use Rattle.row_versions.proofs.Agreeing.{fits_turned}
use Rattle.row_versions.proofs.Laws.{restored, stands_restored, unseen_reads}
use Rattle.row_versions.proofs.Stacking.{each_more}
use Rattle.toast_chunks.specs.Keys.{chunk_key}
use Rattle.toast_chunks.specs.Standing.{chunk_left}
use Rattle.toast_chunks.specs.Values as chunks
use Rattle.row_tables.specs.declared.row_key.RowKey.{RowKey}
use Rattle.row_tables.specs.declared.tables.Tables.{Tables}
use Rattle.row_tables.specs.Cells.{AreCells, IsCell, Told}
use Rattle.row_tables.specs.Standing.{Go, GoWith, HasCells, IsNoKey, Kept, StandFor, cells_at, gives, versions_of}
use Rattle.row_tables.specs.World.{LeavesOwn}
use Rattle.row_tables.proofs.Laws.{stores_undone}
use Rattle.row_tables.proofs.Turning.{for_aborted, for_undone, kept_undone}

pub cells_unseen : (x : Transactions) (s : ℕ) (old new : Tables) (v : Snapshot) → LeavesOwn x s old new → sees v.clock v.viewer x.clock (Running s (length (levels_of x s))) ≡ false → (key : RowKey) → cells_at x v new key ≡ cells_at x v old key
cells_unseen x s old new v left unseen key = ap (λ (es : List (Edit (Option (List Cell)))). content_of es) (unseen_reads x s v (versions_of old key) (versions_of new key) unseen (left.rows key))

-- cells stay cells where numbers were given since

cell_more : (told : ℕ → Told) (key : RowKey) (next later : ℕ) → next ≤ later → (c : Cell) → IsCell told key next c → IsCell told key later c
cell_more told key next later more cells.Null is = tt
cell_more told key next later more (cells.Int n) is = tt
cell_more told key next later more (cells.Oid n) is = tt
cell_more told key next later more (cells.Inline bytes) is = tt
cell_more told key next later more (cells.Text bytes) is = is
cell_more told key next later more (cells.Outside l n) is = (is.0, is.1, let low = is.2 in omega arith)

pub are_cells_more : (told : ℕ → Told) (key : RowKey) (next later : ℕ) (columns : List Column) (row : List Cell) → next ≤ later → AreCells told key next columns row → AreCells told key later columns row
are_cells_more told key next later columns row more are = record { each = each_more (IsCell told key next) (IsCell told key later) (cell_more told key next later more) row are.each; once = are.once; fit = are.fit; id = are.id }

module _ (x : Transactions) (s : ℕ) (before after : Tables) (left : LeavesOwn x s before after) where
  has_cells : (told : ℕ → Told) (key : RowKey) (o : Option (List Cell)) → HasCells told key before o → HasCells told key after o
  has_cells told key None has = tt
  has_cells told key (Some row) has = rw left.catalog (are_cells_more told key (chunks.next_number before.chunks) (chunks.next_number after.chunks) _ row left.chunks.next has)

  no_key : (key : RowKey) → IsNoKey after key → IsNoKey before key
  no_key key no-key = subst (λ (tables : List Table). (length tables ≤ key.table) ⊎ (FitsSigned w64 key.id → ⊥)) left.catalog no-key

module _ (s : ℕ) (old new : Transactions) (before after : Tables) (owners : Turns (undo s (length (levels_of old s))) old new) (left : LeavesOwn old s before after) (go : Go old after) where
  abbrev kept_restored : Kept new before → Kept new after
  kept_restored kept = record {
    told = kept.told;
    edits = kept.edits;
    rows = λ key. stands_restored given (replaces given) None s old new (versions_of before key) (versions_of after key) (kept.edits key) owners (left.rows key) (fits_turned (undo s (length (levels_of old s))) old new (versions_of after key) owners (go.rows.fits key)) (kept.rows key);
    alike = λ key. subst (λ (es : List (Edit (Option (List Cell)))). BusyAlike (es ∷ []) (kept.edits key)) (sym (restored s old new (versions_of before key) (versions_of after key) owners (left.rows key))) (kept.alike key);
    values = λ n. record { chunk = λ k. stands_restored given (replaces (chunk_left (gives kept.told n) k)) None s old new (chunks.versions_of before.chunks n k) (chunks.versions_of after.chunks n k) (kept.edits (kept.told n).home) owners (left.chunks.adds n k) (fits_turned (undo s (length (levels_of old s))) old new (chunks.versions_of after.chunks n k) owners (go.chunks.versions.fits (chunk_key n k))) ((kept.values n).chunk k) };
    cells = λ key. each_more (λ (e : Edit (Option (List Cell))). HasCells kept.told key before e.deed) (λ (e : Edit (Option (List Cell))). HasCells kept.told key after e.deed) (λ e has. has_cells old s before after left kept.told key e.deed has) (kept.edits key) (kept.cells key);
    none = λ key none. kept.none key (no_key old s before after left key none);
  }

  pub for_restored : (ys : List (Edit Deed)) → StandFor new before ys → StandFor new after ys
  for_restored ys stand = record {
    kept = kept_restored stand.kept;
    reads = record { rows = λ key table there. stand.reads.rows key table (subst (λ (tables : List Table). slice_get tables key.table ≡ Some table) left.catalog there) };
    known = rw left.catalog stand.known;
  }

pub left_undone : (s : ℕ) (old new : Transactions) (before after : Tables) (ys : List (Edit Deed)) → UndoesLevel s (length (levels_of old s)) old new → LeavesOwn old s before after → Go old after → StandFor old before ys → StandFor new after (undone s (length (levels_of old s)) ys)
left_undone s old new before after ys by left go stand = for_restored s old new before after by.ends.owners left go (undone s (length (levels_of old s)) ys) (for_undone before ys s (length (levels_of old s)) old new by stand)

pub left_aborted : (s : ℕ) (old new : Transactions) (before after : Tables) (ys : List (Edit Deed)) → Aborts s old new → length (levels_of old s) ≡ 1 → LeavesOwn old s before after → Go old after → StandFor old before ys → StandFor new after (aborted s ys)
left_aborted s old new before after ys by one left go stand = for_restored s old new before after (subst (λ (n : ℕ). Turns (undo s n) old new) (sym one) by.ends.owners) left go (aborted s ys) (for_aborted before ys s old new by stand)

pub left_goes : (s : ℕ) (old new : Transactions) (before after : Tables) → UndoesLevel s (length (levels_of old s)) old new → LeavesOwn old s before after → Go old after → GoWith old before → GoWith new after
left_goes s old new before after by left go was = record {
  stores = stores_undone after s (length (levels_of old s)) old new by go;
  kept = kept_restored s old new before after by.ends.owners left go (kept_undone before s (length (levels_of old s)) old new by was.kept);
}
