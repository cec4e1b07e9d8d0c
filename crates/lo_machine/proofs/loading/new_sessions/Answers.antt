use Rattle.std.proofs.Common.{◌≡◌, ◌-◌, ◌+◌, List, sym, subst, arith}
use Rattle.lo_calls.specs.declared.session.LoSession.{LoSession}
use Rattle.lo_machine.proofs.NewServer.{AreNewBelow, one_more}
use Rattle.lo_machine.proofs.loading.new_sessions.Goals as goal

pub loop-number-preserved : goal.loop-number-preserved
loop-number-preserved c =
    let session : LoSession = record { descs = c.in_ok-new.field-0; s = c.in-Some.s } in
    let number = c.loop-number.number in
    let is : session.s ≡ number - 1 + 1 = omega (arith, c.in-Some.ensures.number, c.loop-number.invariant.count) in
    subst (AreNewBelow (number + 1)) (sym {A = List LoSession} c.in_ok-push.ensures.items)
    (one_more number c.loop-number.sessions.items session c.loop-number.invariant (record { number = is; none = c.in_ok-new.ensures.none; holds = c.in_ok-new.ensures.holds; stay = c.in_ok-new.ensures.open }))
