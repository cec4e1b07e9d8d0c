use Rattle.std.proofs.Common.{subst}
use Rattle.lo_turn.specs.Turns.{IsDone}
use Rattle.lo_turn.proofs.Runs.{began_on, done_up_to}
use Rattle.lo_turn.proofs.run.run_threads.Goals as goal

pub loop-n-preserved : goal.loop-n-preserved
loop-n-preserved g c = (
  began_on c.loop-n.invariant.0 c.run_rest.ensures.proceeds,
  done_up_to c.loop-n.n c.run_rest.ensures.proceeds c.loop-n.invariant.1
      (subst (IsDone c.run_rest.new.running) c.in-Some.ensures.number c.in_ok-run_rest.ensures.done),
)
