use Rattle.std.proofs.Common.{All, take}
use Rattle.lo_machine.specs.Fitting.{HasAssignRange}
use Rattle.lo_machine.proofs.ranges.have_changes.Given as goal

abbrev pub invariant-loop-change : goal.invariant-loop-change
invariant-loop-change l = All HasAssignRange (take l.change-index l.changes)
