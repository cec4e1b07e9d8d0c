use Rattle.xact_core.specs.Kept.{HoldsWholeViews}
use Rattle.toast_chunks.specs.Values.{GoWith}
use Rattle.toast_chunks.proofs.tests.run.Given as goal

abbrev pub invariant-loop-act : goal.invariant-loop-act
invariant-loop-act g l = HoldsWholeViews l.bench.core.xacts × GoWith l.bench.core.xacts l.bench.chunks
