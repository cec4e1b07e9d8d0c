use Rattle.toast_chunks.proofs.Leaving.{go_held}
use Rattle.toast_chunks.proofs.tests.Bench.hold.Goals as goal

pub returns-clause-goes : goal.returns-clause-goes
returns-clause-goes g c = go_held c.args.self.now.chunks c.args.self.now.core.xacts c.hold.new.self c.hold.ensures.others c.requires.goes
