use Rattle.std.proofs.Common.{length, ◌-◌}
use Rattle.lo_tool.specs.Loops.{HasWritten}
use Rattle.lo_tool.specs.Outside.{sink_state}
use Rattle.lo_tool.proofs.printing.write_whole.Given as goal

abbrev pub invariant-loop-at : goal.invariant-loop-at
invariant-loop-at g l = HasWritten (sink_state g.O.Sink l.fn.sink) (sink_state g.O.Sink l.sink) l.text l.at

abbrev pub decreases-loop-at : goal.decreases-loop-at
decreases-loop-at g l = length l.text - l.at
