use Rattle.std.proofs.Common.{◌≡◌, ◌≤◌, true, sym, ◌∙◌}
use Rattle.std.proofs.lemmas.Bool.{true≢false}
use Rattle.std.proofs.lemmas.Result.{IfOk-weaker}
use Rattle.lo_machine.specs.Transactions.{may_recover}
use Rattle.lo_machine.proofs.Steps.{tried_does, failed_does}
use Rattle.lo_machine.proofs.server.Server.outcome.Goals as goal
use Rattle.lo_machine.proofs.server.Server.outcome.Goals.{else-is_failed-via-then-is_failed+else-not-may_recover, else-is_failed-via-else-is_failed}

pub returns-then-not-may_recover-clause-ok : goal.returns-then-not-may_recover-clause-ok
returns-then-not-may_recover-clause-ok c =
    let range : (1 ≤ c.args.s) × (c.args.s ≤ 16) = rw c.number.ensures.same at c.number.ensures.range in
    failed_does c.args.s range.0 range.1 c.args.self.now c.refuse.new.self c.args.request.now c.requires.plain.0 c.is_failed.result c.is_failed.ensures c.refuse.result c.if-is_failed.true (sym c.if-not-may_recover.ensures) c.refuse.ensures.does

pub returns-in_default : goal.returns-in_default
returns-in_default c =
    let range : (1 ≤ c.args.s) × (c.args.s ≤ 16) = rw c.number.ensures.same at c.number.ensures.range in
    let may : c.is_failed.result ≡ true → may_recover c.args.request.now ≡ true = λ is. elim c.else-is_failed.branch [
      | else-is_failed-via-then-is_failed+else-not-may_recover w ↦ sym w.if-not-may_recover.ensures
      | else-is_failed-via-else-is_failed w ↦ absurd (true≢false (sym is ∙ w.if-is_failed.false))
    ] in
    record {
      sound = c.call.ensures.sound;
      ok = IfOk-weaker c.call.result _ _ (λ reply does. tried_does c.args.s range.0 range.1 c.args.self.now c.call.new.self c.args.request.now c.requires.plain.0 c.is_failed.result c.is_failed.ensures reply may does) c.call.ensures.ok;
      err = c.call.ensures.err;
    }
