use Rattle.std.proofs.Common.{arith}
use Rattle.row_versions.proofs.Benching.{whole_same}
use Rattle.toast_chunks.proofs.Leaving.{go_undone}
use Rattle.toast_chunks.proofs.tests.Bench.undo.Goals as goal

pub returns-clause-whole : goal.returns-clause-whole
returns-clause-whole g c = whole_same c.args.self.now.core.xacts c.undo_level.new.self c.undo_level.ensures.ends.held c.requires.whole

pub returns-clause-goes : goal.returns-clause-goes
returns-clause-goes g c = go_undone c.args.self.now.chunks c.args.s c.args.level c.args.self.now.core.xacts c.undo_level.new.self (record { low = omega arith; high = omega arith; whole = c.requires.whole; ends = c.undo_level.ensures.ends }) c.requires.goes
