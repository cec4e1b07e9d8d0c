use Rattle.std.proofs.Common.{ap}
use Rattle.xact_core.specs.Transactions.{Transactions}
use Rattle.row_versions.proofs.Benching.{whole_same}
use Rattle.toast_chunks.proofs.Leaving.{go_ticked}
use Rattle.toast_chunks.proofs.tests.Bench.tick.Goals as goal

pub returns-clause-whole : goal.returns-clause-whole
returns-clause-whole g c = whole_same c.args.self.now.core.xacts c.tick.new.self (ap (λ (x : Transactions). x.held) c.tick.ensures.clock) c.requires.whole

pub returns-clause-goes : goal.returns-clause-goes
returns-clause-goes g c = go_ticked c.args.self.now.chunks c.args.self.now.core.xacts c.tick.new.self (record { is = c.tick.ensures.clock }) c.requires.goes
