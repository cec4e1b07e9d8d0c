use Rattle.std.proofs.Common.{◌≡◌}
use Rattle.lo_script.proofs.SweepLines.{ends_from}
use Rattle.lo_script.proofs.script.ends_in_sweep.Given as goal

abbrev pub invariant-loop-number : goal.invariant-loop-number
invariant-loop-number l = ends_from l.programs l.number ≡ ends_from l.programs 1
