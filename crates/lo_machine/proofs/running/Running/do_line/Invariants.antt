use Rattle.std.proofs.Common.{◌≡◌, ◌+◌}
use Rattle.lo_machine.specs.Replay.{moment_of}
use Rattle.lo_machine.proofs.LineAdvances.{IsWithin, acts_of}
use Rattle.lo_machine.proofs.running.Running.do_line.Given as goal

abbrev pub invariant-loop-self : goal.invariant-loop-self
invariant-loop-self l = record {
  within : IsWithin l.s l.fn.self l.self;
  line : l.line ≡ (moment_of l.fn.self).lines_done l.s + 1;
}

abbrev pub decreases-loop-self : goal.decreases-loop-self
decreases-loop-self l = acts_of l.s l.self
