use Rattle.row_versions.proofs.Benching.{whole_same, said_ok}
use Rattle.toast_chunks.proofs.Leaving.{go_opened}
use Rattle.toast_chunks.proofs.tests.Bench.push.Goals as goal

pub returns-clause-whole : goal.returns-clause-whole
returns-clause-whole g c = whole_same c.args.self.now.core.xacts c.push_level.new.self (said_ok c.push_level.result c.expect.result c.expect.ensures c.push_level.ensures.ok).held c.requires.whole

pub returns-clause-goes : goal.returns-clause-goes
returns-clause-goes g c = go_opened c.args.self.now.chunks c.args.s _ c.args.self.now.core.xacts c.push_level.new.self (said_ok c.push_level.result c.expect.result c.expect.ensures c.push_level.ensures.ok) c.requires.goes
