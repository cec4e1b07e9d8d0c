use Rattle.row_versions.proofs.Benching.{whole_same}
use Rattle.row_versions.proofs.Going.{goes_released}
use Rattle.row_versions.proofs.store.tests.Bench.release.Goals as goal

pub returns-clause-whole : goal.returns-clause-whole
returns-clause-whole g c = whole_same c.args.self.now.core.xacts c.release_level.new.self c.release_level.ensures.ends.held c.requires.whole

pub returns-clause-goes : goal.returns-clause-goes
returns-clause-goes g c = goes_released g.K.Ord.cmp g.met.K.Ord.total g.met.K.Key.exact c.args.s c.args.level c.args.self.now.core.xacts c.release_level.new.self c.args.self.now.store (record { low = c.requires.low; high = c.requires.high; whole = c.requires.whole; ends = c.release_level.ensures.ends }) c.requires.goes
