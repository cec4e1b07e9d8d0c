use Rattle.row_versions.proofs.Benching.{whole_same}
use Rattle.row_versions.proofs.Going.{goes_aborted}
use Rattle.row_versions.proofs.store.tests.Bench.abort.Goals as goal

pub returns-clause-whole : goal.returns-clause-whole
returns-clause-whole g c = whole_same c.args.self.now.core.xacts c.abort.new.self c.abort.ensures.ends.held c.requires.whole

pub returns-clause-goes : goal.returns-clause-goes
returns-clause-goes g c = goes_aborted g.K.Ord.cmp g.met.K.Ord.total g.met.K.Key.exact c.args.s c.args.self.now.core.xacts c.abort.new.self c.args.self.now.store (record { some = c.requires.some; whole = c.requires.whole; ends = c.abort.ensures.ends }) c.requires.goes
