use Rattle.std.proofs.Common.{refl, subst}
use Rattle.orphan_sweep.specs.declared.act.Told.{Told}
use Rattle.orphan_sweep.specs.History.{and_told}
use Rattle.lo_machine.specs.Sweeping.{IsAt}
use Rattle.lo_machine.proofs.CleanupsKept.{IsOwn}
use Rattle.lo_machine.proofs.SweepRequests.{request_does}
use Rattle.lo_machine.proofs.engine.Engine.do_request.Goals as goal

pub returns-clause-ok : goal.returns-clause-ok
returns-clause-ok c =
    let range = c.number.ensures in
    let own : IsOwn c.args.self.now c.args.s c.place.result c.index_mut.result.now = record {
      low = rw range.same at range.range.0;
      high = rw range.same at range.range.1;
      at = c.place.ensures.place;
      sixteen = c.requires.sound.sound.sixteen;
      taken = c.index_mut.ensures.value;
    } in
    request_does c.args.self.now c.args.s c.place.result c.index_mut.result.now own c.tell.new.self _ refl c.act.new.self c.args.request.now c.in-Ok.reply c.requires.act c.in-Ok.ensures.ok
    (λ h at. subst (λ (answer : Told). IsAt c.tell.new.self (and_told h answer)) c.answer_of.ensures (c.tell.ensures h at))
