use Rattle.std.proofs.Common.{All, take}
use Rattle.lo_machine.specs.Fitting.{HasLiteralRange}
use Rattle.lo_machine.proofs.ranges.have_ranges.Given as goal

abbrev pub invariant-loop-literal : goal.invariant-loop-literal
invariant-loop-literal l = All HasLiteralRange (take l.literal-index l.literals)
