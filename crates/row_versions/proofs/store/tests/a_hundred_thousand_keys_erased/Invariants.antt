use Rattle.std.specs.Ordering.{nat_cmp}
use Rattle.xact_core.specs.Kept.{HoldsWholeViews}
use Rattle.row_versions.specs.Store.{GoesWith}
use Rattle.row_versions.proofs.store.tests.a_hundred_thousand_keys_erased.Given as goal

abbrev pub invariant-loop-key : goal.invariant-loop-key
invariant-loop-key g l = HoldsWholeViews l.bench.core.xacts × GoesWith nat_cmp l.bench.core.xacts l.bench.store

abbrev pub invariant-loop-key-2 : goal.invariant-loop-key-2
invariant-loop-key-2 g l = HoldsWholeViews l.bench.core.xacts × GoesWith nat_cmp l.bench.core.xacts l.bench.store
