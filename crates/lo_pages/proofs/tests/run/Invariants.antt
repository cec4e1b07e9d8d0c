use Rattle.xact_core.specs.Kept.{HoldsWholeViews}
use Rattle.lo_pages.specs.Standing.{GoWith}
use Rattle.lo_pages.proofs.tests.run.Given as goal

abbrev pub invariant-loop-act : goal.invariant-loop-act
invariant-loop-act g l = HoldsWholeViews l.bench.core.xacts × GoWith l.bench.core.xacts l.bench.pages
