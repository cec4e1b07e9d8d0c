use Rattle.lo_calls.proofs.Benching.{ticked_leaves}
use Rattle.lo_calls.proofs.bench.Bench.tick.Goals as goal

pub returns : goal.returns
returns g c = ticked_leaves c.args.self.now.core.xacts c.tick.new.self c.args.self.now.store c.args.self.now.session c.args.self.now.other c.requires.ready c.tick.ensures.clock
