use Rattle.std.proofs.Common.{drop}
use Rattle.lo_opening.specs.Meaning.{opening_of}
use Rattle.lo_tool.proofs.PlayedOrders.{HasPlayed}
use Rattle.lo_tool.proofs.playing.play_order.Given as goal

abbrev pub invariant-loop-s : goal.invariant-loop-s
invariant-loop-s l = HasPlayed (opening_of l.fn.opening) l.fn.script.programs l.fn.script.order (drop l.s-index l.fn.script.order) l.running
