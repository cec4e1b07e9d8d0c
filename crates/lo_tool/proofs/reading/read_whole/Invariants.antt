use Rattle.std.proofs.Common.{length, ◌-◌, ◌≡◌}
use Rattle.lo_tool.specs.Loops.{HasFront}
use Rattle.lo_tool.specs.Outside.{files_state}
use Rattle.lo_tool.proofs.reading.read_whole.Given as goal

abbrev pub invariant-loop-piece : goal.invariant-loop-piece
invariant-loop-piece g l =
    HasFront (files_state g.F.Files l.fn.files) (files_state g.F.Files l.files) l.name l.bytes l.size × (length l.piece ≡ 8192)

abbrev pub decreases-loop-piece : goal.decreases-loop-piece
decreases-loop-piece g l = l.size - length l.bytes
