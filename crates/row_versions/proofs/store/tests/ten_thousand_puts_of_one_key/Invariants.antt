use Rattle.std.specs.Ordering.{nat_cmp}
use Rattle.xact_core.specs.Kept.{HoldsWholeViews}
use Rattle.row_versions.specs.Store.{GoesWith}
use Rattle.row_versions.proofs.store.tests.ten_thousand_puts_of_one_key.Given as goal

abbrev pub invariant-loop-round : goal.invariant-loop-round
invariant-loop-round g l = HoldsWholeViews l.bench.core.xacts × GoesWith nat_cmp l.bench.core.xacts l.bench.store

abbrev pub invariant-loop-act : goal.invariant-loop-act
invariant-loop-act g l = HoldsWholeViews l.bench.core.xacts × GoesWith nat_cmp l.bench.core.xacts l.bench.store
