use Rattle.lo_calls.specs.Pair.{AreReady}
use Rattle.lo_calls.proofs.object_tests.run.Given as goal

abbrev pub invariant-loop-act : goal.invariant-loop-act
invariant-loop-act g l = AreReady l.bench.core.xacts l.bench.store l.bench.session l.bench.other
