use Rattle.std.proofs.Common.{inl, inr, subst, sym}
use Rattle.std.specs.Prelude.{IfOk}
use Rattle.std.proofs.lemmas.Result.{IfOk-weaker}
use Rattle.lo_base.specs.declared.request.Request.{Request}
use Rattle.lo_base.specs.declared.request.Request.TheVariants.{Finish, Step}
use Rattle.lo_machine.specs.Engine.{Does}
use Rattle.lo_machine.specs.Step.{outcome}
use Rattle.lo_machine.proofs.EngineSteps.{plain_does, plain_request, undone_by}
use Rattle.lo_machine.proofs.engine.Engine.outcome.Goals as goal

pub returns-in_default : goal.returns-in_default
returns-in_default c =
    let plain = plain_request c.args.request.now c.in_default.not-Vacuumlo c.in_default.not-Step c.in_default.not-Finish in
    record {
      sound = record { server = c.outcome.ensures.sound; sixteen = c.requires.sound.sound.sixteen };
      ok = IfOk-weaker c.outcome.result _ _ (λ reply does. plain_does c.args.self.now c.outcome.new.self c.args.s c.args.request.now reply plain does) c.outcome.ensures.ok;
      err = undone_by c.args.self.now c.outcome.new.self c.outcome.result c.outcome.ensures.err;
    }

pub returns-in-Step-clause-ok : goal.returns-in-Step-clause-ok
returns-in-Step-clause-ok c =
    let does = λ (r : Request). IfOk c.do_act.result (Does c.args.self.now c.do_act.new.self c.args.s (λ st. outcome st c.args.s r)) in
    elim c.in-Step.is [
      | inl is ↦ subst does (sym is) c.do_act.ensures.ok
      | inr is ↦ subst does (sym is) c.do_act.ensures.ok
    ]
