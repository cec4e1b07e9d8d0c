use Rattle.std.proofs.Common.{◌≡◌}
use Rattle.xact_core.proofs.xacts.tests.Bench.nest.Given as goal

abbrev pub invariant-loop-index : goal.invariant-loop-index
invariant-loop-index g l = l.self.xacts.held ≡ l.initial.self.xacts.held
