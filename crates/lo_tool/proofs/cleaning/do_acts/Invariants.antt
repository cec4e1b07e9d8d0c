use Rattle.lo_tool.specs.CleanUpWork.{HasTold}
use Rattle.lo_machine.specs.Replay.{moment_of}
use Rattle.lo_machine.specs.Run.{acts_before}
use Rattle.lo_tool.proofs.cleaning.do_acts.Given as goal

abbrev pub invariant-loop-options : goal.invariant-loop-options
invariant-loop-options l = HasTold l.fn.running.opening l.fn.options l.running l.fn.text l.text

abbrev pub decreases-loop-options : goal.decreases-loop-options
decreases-loop-options l = acts_before ((moment_of l.running).state.players 1).sweep
