use Rattle.std.proofs.Common.{◌+◌, List, sym, subst}
use Rattle.lo_machine.specs.declared.variables.Variables.{Variables}
use Rattle.lo_machine.proofs.NoVariables.{AreNoneBelow, one_more}
use Rattle.lo_machine.proofs.loading.new_variables.Goals as goal

pub loop-session-preserved : goal.loop-session-preserved
loop-session-preserved c =
    subst (AreNoneBelow (c.loop-session._session + 1)) (sym {A = List Variables} c.in_ok-push.ensures.items)
    (one_more c.loop-session._session c.loop-session.lists.items c.new.result c.loop-session.invariant c.new.ensures)
