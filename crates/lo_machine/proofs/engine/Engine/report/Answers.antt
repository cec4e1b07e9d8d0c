use Rattle.std.proofs.Common.{◌≡◌, false, Option, Some, ap, refl, sym, subst, ◌∙◌}
use Rattle.lo_base.specs.declared.reply.Reply.{Reply}
use Rattle.orphan_sweep.specs.declared.act.SweepAct.{SweepAct}
use Rattle.orphan_sweep.specs.declared.act.SweepAct.TheVariants.{Report}
use Rattle.orphan_sweep.specs.declared.act.Told.TheVariants.{Granted}
use Rattle.orphan_sweep.specs.History.{History}
use Rattle.lo_machine.specs.State.{answered}
use Rattle.lo_machine.specs.SweepRows.{act_granted, act_refusals, answer_to, is_idle, report_in}
use Rattle.lo_machine.specs.Sweeping.{IsAt, sweeps_of}
use Rattle.lo_machine.proofs.CleanupsKept.{IsOwn}
use Rattle.lo_machine.proofs.SweepRequests.{answer_does, own_at, own_begun}
use Rattle.lo_machine.proofs.engine.Engine.report.Goals as goal

pub returns-clause-does : goal.returns-clause-does
returns-clause-does c =
    let old = c.args.self.now in
    let s = c.args.s in
    let range = c.number.ensures in
    let own : IsOwn old s c.place.result c.index_mut-own.result.now = record {
      low = rw range.same at range.range.0;
      high = rw range.same at range.range.1;
      at = c.place.ensures.place;
      sixteen = c.requires.sound.sound.sixteen;
      taken = c.index_mut-own.ensures.value;
    } in
    let next = c.requires.next in
    let busy = ap is_idle next in
    answer_does old s c.place.result c.index_mut-own.result.now own c.tell.new.self _ refl c.report-reply.result Granted busy
    (λ st stands. ap (act_refusals st s) next)
    (λ st stands.
    let begun = own_begun old s c.place.result c.index_mut-own.result.now own st stands busy in
    let reply = c.report-reply.ensures begun.history (own_at old s c.place.result c.index_mut-own.result.now own st stands begun.history begun.is) in
    ap (act_granted st s) next ∙ (ap (λ (h : Option History). answered st s (report_in h)) begun.is ∙ ap (answered st s) (sym reply)))
    (λ st stands. ap (λ (act : SweepAct). answer_to st s act false) next)
    c.tell.ensures
