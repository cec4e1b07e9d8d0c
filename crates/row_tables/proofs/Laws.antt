-- Tables that go with their transactions, through each call of them.
use Rattle.std.specs.Prelude.{ℕ, List, Option}
use Rattle.std.specs.Cmp.{IsTotalOrder, nat_cmp_total, int_cmp_total}
use Rattle.std.proofs.lemmas.Cmp.{on_total, then_total}
use Rattle.xact_core.specs.Ends.{Opens}
use Rattle.xact_core.specs.Kept.{HoldsOthers}
use Rattle.xact_core.specs.Transactions.{Transactions}
use Rattle.row_versions.specs.Calls.{Releases, UndoesLevel, Commits, Aborts, Ticks}
use Rattle.row_versions.proofs.Going.{goes_released, goes_undone, goes_committed, goes_aborted, goes_ticks, goes_opened, goes_holds}
use Rattle.toast_chunks.proofs.Leaving.{go_released, go_undone, go_aborted, go_committed, go_ticked, go_opened, go_held}
use Rattle.row_tables.specs.declared.row_key.RowKey.{RowKey}
use Rattle.row_tables.specs.declared.tables.Tables.{Tables}
use Rattle.row_tables.specs.Keys.{exact_keys, key_cmp}
use Rattle.row_tables.specs.Standing.{Go, GoWith}
use Rattle.row_tables.proofs.Turning.{kept_released, kept_undone, kept_aborted, kept_committed}
use Rattle.row_tables.proofs.Resting.{kept_ticked, kept_opened, kept_held}

pub keys_total : IsTotalOrder key_cmp
keys_total = then_total (on_total (λ (k : RowKey). k.table) nat_cmp_total) (on_total (λ (k : RowKey). k.id) int_cmp_total)

module _ (tables : Tables) where
  pub stores_undone : (s k : ℕ) (old new : Transactions) → UndoesLevel s k old new → Go old tables → Go new tables
  stores_undone s k old new by go = record { rows = goes_undone key_cmp keys_total exact_keys s k old new tables.rows by go.rows; chunks = go_undone tables.chunks s k old new by go.chunks }

  pub with_released : (s k : ℕ) (old new : Transactions) → Releases s k old new → GoWith old tables → GoWith new tables
  with_released s k old new by go = record { stores = record { rows = goes_released key_cmp keys_total exact_keys s k old new tables.rows by go.stores.rows; chunks = go_released tables.chunks s k old new by go.stores.chunks }; kept = kept_released tables s k old new by go.kept }

  pub with_undone : (s k : ℕ) (old new : Transactions) → UndoesLevel s k old new → GoWith old tables → GoWith new tables
  with_undone s k old new by go = record { stores = stores_undone s k old new by go.stores; kept = kept_undone tables s k old new by go.kept }

  pub with_aborted : (s : ℕ) (old new : Transactions) → Aborts s old new → GoWith old tables → GoWith new tables
  with_aborted s old new by go = record { stores = record { rows = goes_aborted key_cmp keys_total exact_keys s old new tables.rows by go.stores.rows; chunks = go_aborted tables.chunks s old new by go.stores.chunks }; kept = kept_aborted tables s old new by go.kept }

  pub with_committed : (s : ℕ) (old new : Transactions) → Commits s old new → GoWith old tables → GoWith new tables
  with_committed s old new by go = record { stores = record { rows = goes_committed key_cmp keys_total exact_keys s old new tables.rows by go.stores.rows; chunks = go_committed tables.chunks s old new by go.stores.chunks }; kept = kept_committed tables s old new by go.kept }

  pub with_ticked : (old new : Transactions) → Ticks old new → GoWith old tables → GoWith new tables
  with_ticked old new by go = record { stores = record { rows = goes_ticks key_cmp keys_total exact_keys old new tables.rows by go.stores.rows; chunks = go_ticked tables.chunks old new by go.stores.chunks }; kept = kept_ticked tables old new by go.kept }

  pub with_opened : (s : ℕ) (name : Option (List ℕ)) (old new : Transactions) → Opens s name old new → GoWith old tables → GoWith new tables
  with_opened s name old new by go = record { stores = record { rows = goes_opened key_cmp keys_total exact_keys s name old new tables.rows by.levels.low by go.stores.rows; chunks = go_opened tables.chunks s name old new by go.stores.chunks }; kept = kept_opened tables old new s name by go.kept }

  pub with_held : (old new : Transactions) → HoldsOthers old new → GoWith old tables → GoWith new tables
  with_held old new by go = record { stores = record { rows = goes_holds key_cmp keys_total exact_keys old new tables.rows by go.stores.rows; chunks = go_held tables.chunks old new by go.stores.chunks }; kept = kept_held tables old new by go.kept }
