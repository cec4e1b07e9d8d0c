use Rattle.std.proofs.Common.{◌+◌, List, sym, subst}
use Rattle.lo_machine.specs.declared.cleanup.Cleanup.{Cleanup}
use Rattle.lo_machine.proofs.CleanupsKept.{AreOverBelow, one_over}
use Rattle.lo_machine.proofs.engine.no_cleanups.Goals as goal

pub loop-session-preserved : goal.loop-session-preserved
loop-session-preserved c =
    subst (AreOverBelow (c.loop-session._session + 1)) (sym {A = List Cleanup} c.in_ok-push.ensures.items)
    (one_over c.loop-session._session c.loop-session.cleanups.items c.over.result c.loop-session.invariant c.over.ensures)
