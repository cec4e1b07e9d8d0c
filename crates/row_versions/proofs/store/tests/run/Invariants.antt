use Rattle.xact_core.specs.Kept.{HoldsWholeViews}
use Rattle.row_versions.specs.Store.{GoesWith}
use Rattle.row_versions.proofs.store.tests.run.Given as goal

abbrev pub invariant-loop-act : goal.invariant-loop-act
invariant-loop-act g l = HoldsWholeViews l.bench.core.xacts × GoesWith g.K.Ord.cmp l.bench.core.xacts l.bench.store
