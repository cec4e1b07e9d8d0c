use Rattle.lo_machine.proofs.NoVariables.{AreNoneBelow}
use Rattle.lo_machine.proofs.loading.new_variables.Given as goal

abbrev pub invariant-loop-session : goal.invariant-loop-session
invariant-loop-session l = AreNoneBelow l._session l.lists.items
