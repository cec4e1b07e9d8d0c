use Rattle.xact_core.specs.Kept.{HoldsWholeViews}
use Rattle.lo_pages.specs.Standing.{GoWith}
use Rattle.lo_pages.proofs.tests.a_reader_over_forty_commits.Given as goal

abbrev pub invariant-loop-act : goal.invariant-loop-act
invariant-loop-act g l = HoldsWholeViews l.bench.core.xacts × GoWith l.bench.core.xacts l.bench.pages

abbrev pub invariant-loop-turn : goal.invariant-loop-turn
invariant-loop-turn g l = HoldsWholeViews l.bench.core.xacts × GoWith l.bench.core.xacts l.bench.pages

abbrev pub invariant-loop-act-2 : goal.invariant-loop-act-2
invariant-loop-act-2 g l = HoldsWholeViews l.bench.core.xacts × GoWith l.bench.core.xacts l.bench.pages

abbrev pub invariant-loop-act-3 : goal.invariant-loop-act-3
invariant-loop-act-3 g l = HoldsWholeViews l.bench.core.xacts × GoWith l.bench.core.xacts l.bench.pages
