use Rattle.std.proofs.Common.{ℕ, ◌≤◌, ◌<◌}
use Rattle.lo_turn.specs.Turns.{BeganAs, IsDone}
use Rattle.lo_turn.proofs.run.run_threads.Given as goal

abbrev pub invariant-loop-n : goal.invariant-loop-n
invariant-loop-n g l = BeganAs l.fn.running l.running × ((session : ℕ) → 1 ≤ session → session < l.n → IsDone l.running session)
