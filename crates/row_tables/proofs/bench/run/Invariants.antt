use Rattle.row_tables.specs.World.{world, IsReady}
use Rattle.row_tables.proofs.bench.run.Given as goal

abbrev pub invariant-loop-act : goal.invariant-loop-act
invariant-loop-act g l = IsReady (world l.bench.core.xacts l.bench.tables l.bench.s)
