use Rattle.row_tables.specs.World.{world, IsReady}
use Rattle.row_tables.proofs.tests.many.many_rows.Given as goal

abbrev pub invariant-loop-k : goal.invariant-loop-k
invariant-loop-k g l = IsReady (world l.bench.core.xacts l.bench.tables l.bench.s)

abbrev pub invariant-loop-half : goal.invariant-loop-half
invariant-loop-half g l = IsReady (world l.bench.core.xacts l.bench.tables l.bench.s)
