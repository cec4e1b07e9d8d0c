-- Two sessions at once, as the tests have them: each is ready, and no view is held for both.
use Rattle.std.specs.Prelude.{◌≡◌, ◌≢◌, ◌≤◌, ℕ, ◌+◌, List, ◌++◌, IsPermutation}
use Rattle.xact_core.specs.declared.snapshot.Snapshot.{Snapshot}
use Rattle.xact_core.specs.Transactions.{Transactions}
use Rattle.lo_calls.specs.declared.descs.Descs.{Descs}
use Rattle.lo_calls.specs.declared.session.LoSession.{LoSession}
use Rattle.lo_calls.specs.declared.store.LoStore.{LoStore}
use Rattle.lo_calls.specs.Descriptors.{holds_of}
use Rattle.lo_calls.specs.World.{world, IsReady}

-- of the views that are held, some are the holds of one session, and some of the rest those of the other
pub record HoldApart (x : Transactions) (one two : Descs) : Type 0 where
  pub rest : List Snapshot
  pub all : IsPermutation x.held (holds_of one ++ (holds_of two ++ rest))

pub record AreReady (x : Transactions) (store : LoStore) (one two : LoSession) : Type 0 where
  pub first : IsReady (world x store one)
  pub second : IsReady (world x store two)
  pub numbers : one.s ≢ two.s
  pub apart : HoldApart x one.descs two.descs

-- An act of one of two sessions leaves both ready, and undid one level at most.
pub record LeavesReady (x x' : Transactions) (store : LoStore) (one two : LoSession) : Type 0 where
  pub ready : AreReady x' store one two
  pub undos : x'.undos ≤ x.undos + 1
