use Rattle.std.proofs.Common.{arith}
use Rattle.row_versions.proofs.Benching.{whole_same}
use Rattle.toast_chunks.proofs.Leaving.{go_aborted}
use Rattle.toast_chunks.proofs.tests.Bench.rollback.Goals as goal

pub returns-clause-whole : goal.returns-clause-whole
returns-clause-whole g c = whole_same c.args.self.now.core.xacts c.abort.new.self c.abort.ensures.ends.held c.requires.whole

pub returns-clause-goes : goal.returns-clause-goes
returns-clause-goes g c = go_aborted c.args.self.now.chunks c.args.s c.args.self.now.core.xacts c.abort.new.self (record { some = omega arith; whole = c.requires.whole; ends = c.abort.ensures.ends }) c.requires.goes
