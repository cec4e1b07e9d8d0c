use Rattle.lo_turn.proofs.Runs.{proceeds_to}
use Rattle.lo_turn.proofs.worker.proceed.Goals as goal

pub returns : goal.returns
returns c = proceeds_to c.args.s c.args.running.now c.advance.new.self c.advance.result c.requires c.advance.ensures.ok c.advance.ensures.err
