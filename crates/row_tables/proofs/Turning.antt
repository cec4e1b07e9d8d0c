-- Tables that stand for edits, through the ends of levels and transactions: an end makes of the edits of each row what it
-- makes of all edits.
use Rattle.std.proofs.Common.{◌≡◌, ℕ, ℤ, List, [], ◌∷◌, map, Option, Some, None, refl, ap, sym, subst, ◌∙◌, arith}
use Rattle.lo_base.specs.declared.value.Cell.{Cell}
use Rattle.lo_model.specs.declared.owner.Owner.{Owner}
use Rattle.lo_model.specs.declared.viewer.Viewer.{Viewer}
use Rattle.lo_model.specs.Edit.{Deed, Edit}
use Rattle.lo_model.specs.Levels.{released, undone, aborted, committed}
use Rattle.xact_core.specs.Ends.{Turns, release, undo, commit_at}
use Rattle.xact_core.specs.Laws.{before_release, before_undo}
use Rattle.xact_core.specs.Transactions.{Transactions}
use Rattle.row_versions.specs.Calls.{Releases, UndoesLevel, Commits, Aborts}
use Rattle.row_versions.specs.Found.{given}
use Rattle.row_versions.specs.Stack.{Each, left_of, owned, turned}
use Rattle.row_versions.specs.Stands.{Version, BusyAlike, Fits, OpensAs, Stands, before_commit, replaces, standing}
use Rattle.row_versions.proofs.Agreeing.{standing_turned, busy_turned, opens_release, opens_undo, opens_commit, at_turned}
use Rattle.row_versions.proofs.Laws.{stands_released, stands_undone, stands_committed, stands_aborted, turned_released, turned_undone, turned_committed}
use Rattle.toast_chunks.specs.Standing.{Stand}
use Rattle.toast_chunks.proofs.Standing.{stand_released, stand_undone, stand_committed, stand_aborted}
use Rattle.row_tables.specs.declared.row_key.RowKey.{RowKey}
use Rattle.row_tables.specs.declared.tables.Tables.{Tables}
use Rattle.row_tables.specs.Cells.{Told}
use Rattle.row_tables.specs.Standing.{HasCells, Kept, StandFor, at_row, edit_told, gives, is_of_row, versions_of}

-- What an end makes of edits, where it changes their owners alone

each_turned : {E : Type 0} (P : E → Type 0) (turn : Owner → Option Owner) (es : List (Edit E)) → Each (λ (e : Edit E). P e.deed) es → Each (λ (e : Edit E). P e.deed) (turned turn es)
each_turned P turn [] all = tt
each_turned {E} P turn (e ∷ es) all = by_owner (turn e.owner) (each_turned P turn es all.1)
  where
    by_owner : (o : Option Owner) → Each (λ (f : Edit E). P f.deed) (turned turn es) → Each (λ (f : Edit E). P f.deed) (left_of o e (turned turn es))
    by_owner None rest = rest
    by_owner (Some w) rest = (all.0, rest)

told_turned : (told : ℕ → Told) (t : List ℕ) (i : ℤ) (turn : Owner → Option Owner) (es : List (Edit (Option (List Cell)))) → turned turn (map (edit_told told t i) es) ≡ map (edit_told told t i) (turned turn es)
told_turned told t i turn [] = refl
told_turned told t i turn (e ∷ es) = by_owner (turn e.owner) (told_turned told t i turn es)
  where
    by_owner : (o : Option Owner) → turned turn (map (edit_told told t i) es) ≡ map (edit_told told t i) (turned turn es) → left_of o (edit_told told t i e) (turned turn (map (edit_told told t i) es)) ≡ map (edit_told told t i) (left_of o e (turned turn es))
    by_owner None rest = rest
    by_owner (Some w) rest = ap (λ (fs : List (Edit Deed)). owned w (edit_told told t i e) ∷ fs) rest

-- the edits of one row, after an end
row_turned : (t : List ℕ) (i : ℤ) (turn : Owner → Option Owner) (ys : List (Edit Deed)) → at_row t i (turned turn ys) ≡ turned turn (at_row t i ys)
row_turned t i turn ys = at_turned (is_of_row t i) turn ys

busy_after : {D E : Type 0} (turn : Owner → Option Owner) (before : Viewer → Viewer) → OpensAs turn before → (old new : Transactions) → Turns turn old new → (vs : List (Version D)) (ys : List (Edit E)) → Fits old vs → BusyAlike (standing old vs ∷ []) ys → BusyAlike (standing new vs ∷ []) (turned turn ys)
busy_after {D} turn before opens old new owners vs ys fits alike = subst (λ (es : List (Edit D)). BusyAlike (es ∷ []) (turned turn ys)) (sym (standing_turned turn old new vs owners fits)) (busy_turned turn before opens (standing old vs ∷ []) ys alike)

module _ (tables : Tables) (turn : Owner → Option Owner) (before : Viewer → Viewer) (opens : OpensAs turn before) (old new : Transactions) (owners : Turns turn old new) where
  -- what is kept of rows, once their versions and the chunks of their values stand
  abbrev kept_turned : (kept : Kept old tables) → ((key : RowKey) → Stands new given (replaces given) None (versions_of tables key) (turned turn (kept.edits key))) → ((n : ℕ) → Stand (gives kept.told n) new tables.chunks n (turned turn (kept.edits (kept.told n).home))) → Kept new tables
  kept_turned kept rows values = record {
    told = kept.told;
    edits = λ key. turned turn (kept.edits key);
    rows = rows;
    alike = λ key. busy_after turn before opens old new owners (versions_of tables key) (kept.edits key) (kept.rows key).fits (kept.alike key);
    values = values;
    cells = λ key. each_turned (HasCells kept.told key tables) turn (kept.edits key) (kept.cells key);
    none = λ key no. ap (turned turn) (kept.none key no);
  }

  stand_turned : (ys : List (Edit Deed)) (stand : StandFor old tables ys) → ((key : RowKey) → Stands new given (replaces given) None (versions_of tables key) (turned turn (stand.kept.edits key))) → ((n : ℕ) → Stand (gives stand.kept.told n) new tables.chunks n (turned turn (stand.kept.edits (stand.kept.told n).home))) → StandFor new tables (turned turn ys)
  stand_turned ys stand rows values = record {
    kept = kept_turned stand.kept rows values;
    reads = record { rows = λ key table there. row_turned table.name key.id turn ys ∙ (ap (turned turn) (stand.reads.rows key table there) ∙ told_turned stand.kept.told table.name key.id turn (stand.kept.edits key)) };
    known = λ name id unknown. row_turned name id turn ys ∙ ap (turned turn) (stand.known name id unknown);
  }

-- each end in turn

module _ (tables : Tables) where
  module _ (s k : ℕ) (old new : Transactions) (by : Releases s k old new) (kept : Kept old tables) where
    pub rows_released : (key : RowKey) → Stands new given (replaces given) None (versions_of tables key) (turned (release s k) (kept.edits key))
    rows_released key = stands_released given (replaces given) None s k old new (versions_of tables key) (kept.edits key) by.ends.levels.low by.low by.high by.ends.owners by.ends.levels by.ends.clock by.ends.held by.whole (kept.rows key)

    pub values_released : (n : ℕ) → Stand (gives kept.told n) new tables.chunks n (turned (release s k) (kept.edits (kept.told n).home))
    values_released n = subst (Stand (gives kept.told n) new tables.chunks n) (sym (turned_released s k (kept.edits (kept.told n).home))) (stand_released (gives kept.told n) tables.chunks n (kept.edits (kept.told n).home) s k old new by (kept.values n))

  module _ (s k : ℕ) (old new : Transactions) (by : UndoesLevel s k old new) (kept : Kept old tables) where
    pub rows_undone : (key : RowKey) → Stands new given (replaces given) None (versions_of tables key) (turned (undo s k) (kept.edits key))
    rows_undone key = stands_undone given (replaces given) None s k old new (versions_of tables key) (kept.edits key) by.ends.levels.low by.low by.high by.ends.owners by.ends.levels by.ends.clock by.ends.held by.whole (kept.rows key)

    pub values_undone : (n : ℕ) → Stand (gives kept.told n) new tables.chunks n (turned (undo s k) (kept.edits (kept.told n).home))
    values_undone n = subst (Stand (gives kept.told n) new tables.chunks n) (sym (turned_undone s k (kept.edits (kept.told n).home))) (stand_undone (gives kept.told n) tables.chunks n (kept.edits (kept.told n).home) s k old new by (kept.values n))

  module _ (s : ℕ) (old new : Transactions) (by : Aborts s old new) (kept : Kept old tables) where
    pub rows_aborted : (key : RowKey) → Stands new given (replaces given) None (versions_of tables key) (turned (undo s 1) (kept.edits key))
    rows_aborted key = stands_aborted given (replaces given) None s old new (versions_of tables key) (kept.edits key) by.ends.levels.low by.some by.ends.owners by.ends.levels by.ends.clock by.ends.held by.whole (kept.rows key)

    pub values_aborted : (n : ℕ) → Stand (gives kept.told n) new tables.chunks n (turned (undo s 1) (kept.edits (kept.told n).home))
    values_aborted n = subst (Stand (gives kept.told n) new tables.chunks n) (sym (turned_undone s 1 (kept.edits (kept.told n).home))) (stand_aborted (gives kept.told n) tables.chunks n (kept.edits (kept.told n).home) s old new by (kept.values n))

  module _ (s : ℕ) (old new : Transactions) (by : Commits s old new) (kept : Kept old tables) where
    pub rows_committed : (key : RowKey) → Stands new given (replaces given) None (versions_of tables key) (turned (commit_at s old.clock) (kept.edits key))
    rows_committed key = stands_committed given (replaces given) None s old new (versions_of tables key) (kept.edits key) by.ends.levels.low by.some by.ends.owners by.ends.levels by.ends.clock by.ends.held by.whole (kept.rows key)

    pub values_committed : (n : ℕ) → Stand (gives kept.told n) new tables.chunks n (turned (commit_at s old.clock) (kept.edits (kept.told n).home))
    values_committed n = subst (Stand (gives kept.told n) new tables.chunks n) (sym (turned_committed s old.clock (kept.edits (kept.told n).home))) (stand_committed (gives kept.told n) tables.chunks n (kept.edits (kept.told n).home) s old new by (kept.values n))

  pub kept_released : (s k : ℕ) (old new : Transactions) → Releases s k old new → Kept old tables → Kept new tables
  kept_released s k old new by kept = kept_turned tables (release s k) (before_release s k) (opens_release s k (let low = by.low in omega arith)) old new by.ends.owners kept (rows_released s k old new by kept) (values_released s k old new by kept)

  pub kept_undone : (s k : ℕ) (old new : Transactions) → UndoesLevel s k old new → Kept old tables → Kept new tables
  kept_undone s k old new by kept = kept_turned tables (undo s k) (before_undo s k) (opens_undo s k) old new by.ends.owners kept (rows_undone s k old new by kept) (values_undone s k old new by kept)

  pub kept_aborted : (s : ℕ) (old new : Transactions) → Aborts s old new → Kept old tables → Kept new tables
  kept_aborted s old new by kept = kept_turned tables (undo s 1) (before_undo s 1) (opens_undo s 1) old new by.ends.owners kept (rows_aborted s old new by kept) (values_aborted s old new by kept)

  pub kept_committed : (s : ℕ) (old new : Transactions) → Commits s old new → Kept old tables → Kept new tables
  kept_committed s old new by kept = kept_turned tables (commit_at s old.clock) (before_commit s) (opens_commit s old.clock) old new by.ends.owners kept (rows_committed s old new by kept) (values_committed s old new by kept)

  module _ (ys : List (Edit Deed)) where
    pub for_released : (s k : ℕ) (old new : Transactions) → Releases s k old new → StandFor old tables ys → StandFor new tables (released s k ys)
    for_released s k old new by stand = subst (StandFor new tables) (turned_released s k ys) (stand_turned tables (release s k) (before_release s k) (opens_release s k (let low = by.low in omega arith)) old new by.ends.owners ys stand (rows_released s k old new by stand.kept) (values_released s k old new by stand.kept))

    pub for_undone : (s k : ℕ) (old new : Transactions) → UndoesLevel s k old new → StandFor old tables ys → StandFor new tables (undone s k ys)
    for_undone s k old new by stand = subst (StandFor new tables) (turned_undone s k ys) (stand_turned tables (undo s k) (before_undo s k) (opens_undo s k) old new by.ends.owners ys stand (rows_undone s k old new by stand.kept) (values_undone s k old new by stand.kept))

    pub for_aborted : (s : ℕ) (old new : Transactions) → Aborts s old new → StandFor old tables ys → StandFor new tables (aborted s ys)
    for_aborted s old new by stand = subst (StandFor new tables) (turned_undone s 1 ys) (stand_turned tables (undo s 1) (before_undo s 1) (opens_undo s 1) old new by.ends.owners ys stand (rows_aborted s old new by stand.kept) (values_aborted s old new by stand.kept))

    pub for_committed : (s : ℕ) (old new : Transactions) → Commits s old new → StandFor old tables ys → StandFor new tables (committed s old.clock ys)
    for_committed s old new by stand = subst (StandFor new tables) (turned_committed s old.clock ys) (stand_turned tables (commit_at s old.clock) (before_commit s) (opens_commit s old.clock) old new by.ends.owners ys stand (rows_committed s old new by stand.kept) (values_committed s old new by stand.kept))
