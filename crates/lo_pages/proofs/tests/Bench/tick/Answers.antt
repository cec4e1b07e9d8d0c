use Rattle.std.proofs.Common.{ap}
use Rattle.xact_core.specs.Transactions.{Transactions}
use Rattle.row_versions.proofs.Benching.{whole_same}
use Rattle.lo_pages.proofs.Standing.{go_ticked}
use Rattle.lo_pages.proofs.tests.Bench.tick.Goals as goal

pub returns-clause-whole : goal.returns-clause-whole
returns-clause-whole g c = whole_same c.args.self.now.core.xacts c.tick.new.self (ap (λ (x : Transactions). x.held) c.tick.ensures.clock) c.requires.whole

pub returns-clause-goes : goal.returns-clause-goes
returns-clause-goes g c = go_ticked c.args.self.now.core.xacts c.tick.new.self c.args.self.now.pages (record { is = c.tick.ensures.clock }) c.requires.goes
