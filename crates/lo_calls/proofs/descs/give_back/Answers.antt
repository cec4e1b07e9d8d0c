use Rattle.lo_calls.proofs.Closing.{gives_none}
use Rattle.lo_calls.proofs.descs.give_back.Goals as goal

pub returns-in-None : goal.returns-in-None
returns-in-None c = gives_none c.args.hold c.args.xacts.now c.in-None.is
