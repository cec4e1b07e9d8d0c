use Rattle.lo_pages.proofs.Standing.{go_held}
use Rattle.lo_pages.proofs.tests.Bench.hold.Goals as goal

pub returns-clause-goes : goal.returns-clause-goes
returns-clause-goes g c = go_held c.args.self.now.core.xacts c.hold.new.self c.args.self.now.pages c.hold.ensures.others c.requires.goes
