-- What each call of the transactions does, as one record a call. A client has it from the clauses of the call; `whole` is
-- what it must know of its held views beside.
use Rattle.std.specs.Prelude.{◌≡◌, ◌≤◌, ◌<◌, ◌+◌, ◌-◌, ℕ, length}
use Rattle.xact_core.specs.Ends.{Ends, release, undo, commit_at}
use Rattle.xact_core.specs.Kept.{HoldsWholeViews}
use Rattle.xact_core.specs.Transactions.{Transactions, levels_of}

-- a level and all above it are merged into the one below
pub record Releases (s level : ℕ) (old new : Transactions) : Type 0 where
  pub low : 2 ≤ level
  pub high : level ≤ length (levels_of old s)
  pub whole : HoldsWholeViews old
  pub ends : Ends (release s level) s (level - 1) old new

-- a level and all above it are undone
pub record UndoesLevel (s level : ℕ) (old new : Transactions) : Type 0 where
  pub low : 1 ≤ level
  pub high : level ≤ length (levels_of old s)
  pub whole : HoldsWholeViews old
  pub ends : Ends (undo s level) s level old new

pub record Commits (s : ℕ) (old new : Transactions) : Type 0 where
  pub some : 0 < length (levels_of old s)
  pub whole : HoldsWholeViews old
  pub ends : Ends (commit_at s old.clock) s 0 old new

pub record Aborts (s : ℕ) (old new : Transactions) : Type 0 where
  pub some : 0 < length (levels_of old s)
  pub whole : HoldsWholeViews old
  pub ends : Ends (undo s 1) s 0 old new

pub record Ticks (old new : Transactions) : Type 0 where
  pub is : new ≡ record old { clock = old.clock + 1 }
