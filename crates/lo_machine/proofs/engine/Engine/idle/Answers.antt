use Rattle.std.proofs.Common.{◌≡◌, true, sym, ◌∙◌}
use Rattle.lo_base.specs.declared.refusal.Cause.TheVariants.{Failed}
use Rattle.lo_base.specs.declared.request.Request.TheVariants.{Step}
use Rattle.lo_machine.proofs.ActOutcomes.{idle_refused}
use Rattle.lo_machine.proofs.BlockRequests.{failure_is}
use Rattle.lo_machine.proofs.CleanupsKept.{own_placed}
use Rattle.lo_machine.proofs.SweepRequests.{act_is, idle_does, refused_does}
use Rattle.lo_machine.proofs.engine.Engine.idle.Goals as goal

pub returns-then-is_failed-clause-does : goal.returns-then-is_failed-clause-does
returns-then-is_failed-clause-does c =
    let old = c.args.self.now in
    let s = c.args.s in
    let range = c.number.ensures in
    let low = rw range.same at range.range.0 in
    let high = rw range.same at range.range.1 in
    let placed = own_placed old s low high c.requires.sound.sound.sixteen in
    refused_does old c.refuse.new.self s Step Failed c.refuse.result
    (λ st stands. idle_refused st s (act_is old s placed.place placed.own placed.is st stands ∙ c.requires.next) (failure_is s low high old.server true c.if-is_failed.ensures st stands.server))
    c.refuse.ensures.does

pub returns-clause-does : goal.returns-clause-does
returns-clause-does c =
    let old = c.args.self.now in
    let s = c.args.s in
    let range = c.number.ensures in
    let low = rw range.same at range.range.0 in
    let high = rw range.same at range.range.1 in
    let placed = own_placed old s low high c.requires.sound.sound.sixteen in
    idle_does old s placed.place placed.own placed.is c.requires.next (sym c.if-is_failed.ensures)
