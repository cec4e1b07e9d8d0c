use Rattle.lo_machine.proofs.NewServer.{AreNewBelow}
use Rattle.lo_machine.proofs.loading.new_sessions.Given as goal

abbrev pub invariant-loop-number : goal.invariant-loop-number
invariant-loop-number l = AreNewBelow l.number l.sessions.items
