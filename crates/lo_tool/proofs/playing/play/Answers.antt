use Rattle.lo_opening.specs.Meaning.{opening_of}
use Rattle.lo_tool.proofs.playing.play.Goals as goal

pub returns-clause-whole : goal.returns-clause-whole
returns-clause-whole c = c.orders_are_whole.ensures (opening_of c.args.opening) c.args.script.programs c.args.script.order c.requires
