use Rattle.row_tables.proofs.Benching.{ready_ticked}
use Rattle.row_tables.proofs.bench.Bench.tick.Goals as goal

pub returns : goal.returns
returns g c = record { ready = ready_ticked c.args.self.now.core.xacts c.tick.new.self c.args.self.now.tables c.args.self.now.s c.tick.ensures.clock c.requires.ready }
