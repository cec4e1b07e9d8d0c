use Rattle.std.proofs.Common.{ap}
use Rattle.xact_core.specs.Transactions.{Transactions}
use Rattle.row_versions.proofs.Benching.{whole_same}
use Rattle.row_versions.proofs.Going.{goes_ticks}
use Rattle.row_versions.proofs.store.tests.Bench.tick.Goals as goal

pub returns-clause-whole : goal.returns-clause-whole
returns-clause-whole g c = whole_same c.args.self.now.core.xacts c.tick.new.self (ap (λ (x : Transactions). x.held) c.tick.ensures.clock) c.requires.whole

pub returns-clause-goes : goal.returns-clause-goes
returns-clause-goes g c = goes_ticks g.K.Ord.cmp g.met.K.Ord.total g.met.K.Key.exact c.args.self.now.core.xacts c.tick.new.self c.args.self.now.store (record { is = c.tick.ensures.clock }) c.requires.goes
