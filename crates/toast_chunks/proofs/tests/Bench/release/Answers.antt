use Rattle.std.proofs.Common.{arith}
use Rattle.row_versions.proofs.Benching.{whole_same}
use Rattle.toast_chunks.proofs.Leaving.{go_released}
use Rattle.toast_chunks.proofs.tests.Bench.release.Goals as goal

pub returns-clause-whole : goal.returns-clause-whole
returns-clause-whole g c = whole_same c.args.self.now.core.xacts c.release_level.new.self c.release_level.ensures.ends.held c.requires.whole

pub returns-clause-goes : goal.returns-clause-goes
returns-clause-goes g c = go_released c.args.self.now.chunks c.args.s c.args.level c.args.self.now.core.xacts c.release_level.new.self (record { low = omega arith; high = omega arith; whole = c.requires.whole; ends = c.release_level.ensures.ends }) c.requires.goes
