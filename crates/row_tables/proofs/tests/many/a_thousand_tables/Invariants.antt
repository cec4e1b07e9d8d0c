use Rattle.row_tables.specs.World.{world, IsReady}
use Rattle.row_tables.proofs.tests.many.a_thousand_tables.Given as goal

abbrev pub invariant-loop-number : goal.invariant-loop-number
invariant-loop-number g l = IsReady (world l.bench.core.xacts l.bench.tables l.bench.s)
