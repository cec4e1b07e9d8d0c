use Rattle.std.proofs.Common.{◌≤◌, ◌+◌}
use Rattle.lo_calls.specs.Pair.{AreReady}
use Rattle.lo_calls.proofs.tests.the_last_descriptor.Given as goal

abbrev pub invariant-loop-number : goal.invariant-loop-number
invariant-loop-number g l = record {
  ready : AreReady l.bench.core.xacts l.bench.store l.bench.session l.bench.other;
  undos : l.bench.core.xacts.undos ≤ l.number + 1;
}
