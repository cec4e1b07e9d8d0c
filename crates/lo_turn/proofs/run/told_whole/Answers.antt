use Rattle.std.proofs.Common.{rules}
use Rattle.lo_turn.proofs.Runs.{whole_run}
use Rattle.lo_turn.proofs.run.told_whole.Goals as goal

pub returns-clause-whole : goal.returns-clause-whole
returns-clause-whole c = whole_run c.args.running (search rules) (search rules) c.requires
