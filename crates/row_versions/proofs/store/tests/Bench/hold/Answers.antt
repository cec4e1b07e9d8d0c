use Rattle.std.proofs.Common.{subst, sym}
use Rattle.xact_core.specs.declared.snapshot.Snapshot.{Snapshot}
use Rattle.xact_core.specs.Kept.{LooksWhole}
use Rattle.row_versions.proofs.Going.{goes_holds}
use Rattle.row_versions.proofs.store.tests.Bench.hold.Goals as goal

pub returns-clause-whole : goal.returns-clause-whole
returns-clause-whole g c = c.hold.ensures.whole (subst (λ (v : Snapshot). LooksWhole v.viewer) (sym c.committed-view.ensures.view) tt) c.requires.whole

pub returns-clause-goes : goal.returns-clause-goes
returns-clause-goes g c = goes_holds g.K.Ord.cmp g.met.K.Ord.total g.met.K.Key.exact c.args.self.now.core.xacts c.hold.new.self c.args.self.now.store c.hold.ensures.others c.requires.goes
