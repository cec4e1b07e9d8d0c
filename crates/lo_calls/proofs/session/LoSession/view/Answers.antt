use Rattle.lo_calls.proofs.Looking.{reads_held}
use Rattle.lo_calls.proofs.session.LoSession.view.Goals as goal

pub returns-in-Some : goal.returns-in-Some
returns-in-Some c = reads_held c.args.core.now.xacts c.args.self.now.s c.args.descriptor.now c.in-Some.hold c.snapshot.result c.in-Some.is c.snapshot.ensures c.requires.own c.requires.held
