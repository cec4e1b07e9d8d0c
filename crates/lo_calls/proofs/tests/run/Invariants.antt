use Rattle.std.proofs.Common.{◌≤◌}
use Rattle.lo_calls.specs.Pair.{AreReady}
use Rattle.lo_calls.proofs.tests.run.Given as goal

abbrev pub invariant-loop-act : goal.invariant-loop-act
invariant-loop-act g l = record {
  ready : AreReady l.bench.core.xacts l.bench.store l.bench.session l.bench.other;
  undos : l.bench.core.xacts.undos ≤ l.act-index;
}
