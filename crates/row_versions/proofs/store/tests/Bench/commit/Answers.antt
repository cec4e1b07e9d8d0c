use Rattle.row_versions.proofs.Benching.{whole_same}
use Rattle.row_versions.proofs.Going.{goes_committed}
use Rattle.row_versions.proofs.store.tests.Bench.commit.Goals as goal

pub returns-clause-whole : goal.returns-clause-whole
returns-clause-whole g c = whole_same c.args.self.now.core.xacts c.commit.new.self c.commit.ensures.ends.held c.requires.whole

pub returns-clause-goes : goal.returns-clause-goes
returns-clause-goes g c = goes_committed g.K.Ord.cmp g.met.K.Ord.total g.met.K.Key.exact c.args.s c.args.self.now.core.xacts c.commit.new.self c.args.self.now.store (record { some = c.requires.some; whole = c.requires.whole; ends = c.commit.ensures.ends }) c.requires.goes
