use Rattle.lo_machine.proofs.CleanupsKept.{AreOverBelow}
use Rattle.lo_machine.proofs.engine.no_cleanups.Given as goal

abbrev pub invariant-loop-session : goal.invariant-loop-session
invariant-loop-session l = AreOverBelow l._session l.cleanups.items
