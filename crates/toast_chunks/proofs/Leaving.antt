-- Chunks that go with their transactions, and what calls leave that found no memory.
use Rattle.std.proofs.Common.{◌≡◌, ℕ, false, List, length, Option, None, ap, ◌∙◌}
use Rattle.lo_model.specs.declared.owner.Owner.TheVariants.{Running}
use Rattle.lo_model.specs.View.{sees}
use Rattle.xact_core.specs.declared.snapshot.Snapshot.{Snapshot}
use Rattle.xact_core.specs.Ends.{Opens}
use Rattle.xact_core.specs.Kept.{HoldsOthers}
use Rattle.xact_core.specs.Transactions.{Transactions, levels_of}
use Rattle.row_versions.specs.Calls.{Releases, UndoesLevel, Commits, Aborts, Ticks}
use Rattle.row_versions.specs.Found.{given}
use Rattle.row_versions.specs.Stands.{after_all, replaces}
use Rattle.row_versions.proofs.Going.{goes_released, goes_undone, goes_committed, goes_aborted, goes_ticks, goes_opened, goes_holds}
use Rattle.row_versions.proofs.Laws.{unseen_reads, restored}
use Rattle.toast_chunks.specs.declared.chunks.Chunks.{Chunks}
use Rattle.toast_chunks.specs.Calls.{LeavesOwn, StandsAlike}
use Rattle.toast_chunks.specs.Keys.{exact_keys, key_cmp}
use Rattle.toast_chunks.specs.Values.{GoWith, HasValue, versions_of}
use Rattle.toast_chunks.proofs.Steps.{keys_total}

module _ (chunks : Chunks) where
  pub go_released : (s k : ℕ) (old new : Transactions) → Releases s k old new → GoWith old chunks → GoWith new chunks
  go_released s k old new by go = record { versions = goes_released key_cmp keys_total exact_keys s k old new chunks.versions by go.versions; fresh = go.fresh; small = go.small }

  pub go_undone : (s k : ℕ) (old new : Transactions) → UndoesLevel s k old new → GoWith old chunks → GoWith new chunks
  go_undone s k old new by go = record { versions = goes_undone key_cmp keys_total exact_keys s k old new chunks.versions by go.versions; fresh = go.fresh; small = go.small }

  pub go_aborted : (s : ℕ) (old new : Transactions) → Aborts s old new → GoWith old chunks → GoWith new chunks
  go_aborted s old new by go = record { versions = goes_aborted key_cmp keys_total exact_keys s old new chunks.versions by go.versions; fresh = go.fresh; small = go.small }

  pub go_committed : (s : ℕ) (old new : Transactions) → Commits s old new → GoWith old chunks → GoWith new chunks
  go_committed s old new by go = record { versions = goes_committed key_cmp keys_total exact_keys s old new chunks.versions by go.versions; fresh = go.fresh; small = go.small }

  pub go_ticked : (old new : Transactions) → Ticks old new → GoWith old chunks → GoWith new chunks
  go_ticked old new by go = record { versions = goes_ticks key_cmp keys_total exact_keys old new chunks.versions by go.versions; fresh = go.fresh; small = go.small }

  pub go_opened : (s : ℕ) (name : Option (List ℕ)) (old new : Transactions) → Opens s name old new → GoWith old chunks → GoWith new chunks
  go_opened s name old new by go = record { versions = goes_opened key_cmp keys_total exact_keys s name old new chunks.versions by.levels.low by go.versions; fresh = go.fresh; small = go.small }

  pub go_held : (old new : Transactions) → HoldsOthers old new → GoWith old chunks → GoWith new chunks
  go_held old new by go = record { versions = goes_holds key_cmp keys_total exact_keys old new chunks.versions by go.versions; fresh = go.fresh; small = go.small }

pub left_unseen : (x : Transactions) (s : ℕ) (old new : Chunks) (v : Snapshot) (value : ℕ) (bytes : List ℕ) → LeavesOwn x s old new → sees v.clock v.viewer x.clock (Running s (length (levels_of x s))) ≡ false → HasValue x v old value bytes → HasValue x v new value bytes
left_unseen x s old new v value bytes left unseen has = record { chunk = λ k. ap (after_all (replaces given) None) (unseen_reads x s v (versions_of old value k) (versions_of new value k) unseen (left.adds value k)) ∙ has.chunk k }

pub left_gone : (s : ℕ) (old new : Transactions) (before after : Chunks) → UndoesLevel s (length (levels_of old s)) old new → LeavesOwn old s before after → StandsAlike new before after
left_gone s old new before after by left = record { chunk = λ n k. restored s old new (versions_of before n k) (versions_of after n k) by.ends.owners (left.adds n k) }
