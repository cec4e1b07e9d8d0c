use Rattle.std.proofs.Common.{None}
use Rattle.row_versions.proofs.Benching.{whole_same, said_ok}
use Rattle.toast_chunks.proofs.Leaving.{go_opened}
use Rattle.toast_chunks.proofs.tests.Bench.begin.Goals as goal

pub returns-clause-whole : goal.returns-clause-whole
returns-clause-whole g c = whole_same c.args.self.now.core.xacts c.begin.new.self (said_ok c.begin.result c.expect.result c.expect.ensures c.begin.ensures.ok).held c.requires.whole

pub returns-clause-goes : goal.returns-clause-goes
returns-clause-goes g c = go_opened c.args.self.now.chunks c.args.s None c.args.self.now.core.xacts c.begin.new.self (said_ok c.begin.result c.expect.result c.expect.ensures c.begin.ensures.ok) c.requires.goes
