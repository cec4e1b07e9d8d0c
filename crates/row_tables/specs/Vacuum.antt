-- What a vacuum leaves of rows and chunks.
use Rattle.std.specs.Prelude.{◌≡◌}
use Rattle.xact_core.specs.Kept.{kept_views}
use Rattle.xact_core.specs.Transactions.{Transactions}
use Rattle.row_versions.specs.Found.{is_erasure}
use Rattle.row_versions.specs.Stack.{Each}
use Rattle.row_versions.specs.Stands.{standing, vacuumed}
use Rattle.row_versions.specs.Vacuum.{FoundUnlessErasure}
use Rattle.toast_chunks.specs.Calls as chunks
use Rattle.row_tables.specs.declared.row_key.RowKey.{RowKey}
use Rattle.row_tables.specs.declared.tables.Tables.{Tables}
use Rattle.row_tables.specs.Standing.{versions_of}

-- a vacuum has taken from each row and each chunk what no kept view needs
pub record Vacuums (x : Transactions) (old new : Tables) : Type 0 where
  pub rows : (key : RowKey) → versions_of new key ≡ vacuumed is_erasure x (versions_of old key)
  pub chunks : chunks.Vacuums x old.chunks new.chunks

-- each row and each chunk that is left is found by some kept view
pub record LeavesFound (x : Transactions) (old new : Tables) : Type 0 where
  pub rows : (key : RowKey) → Each (FoundUnlessErasure is_erasure (kept_views x) (standing x (versions_of old key))) (standing x (versions_of new key))
  pub chunks : chunks.LeavesFound x old.chunks new.chunks
