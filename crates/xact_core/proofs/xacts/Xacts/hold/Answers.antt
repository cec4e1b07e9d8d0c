use Rattle.std.proofs.Common.{[], ◌∷◌, ◌++◌, length-append, ap, ◌∙◌, arith}
use Rattle.xact_core.specs.declared.snapshot.Snapshot.{Snapshot}
use Rattle.xact_core.proofs.Contracts.{few_there, hold_others, hold_whole, same_others, same_whole}
use Rattle.xact_core.proofs.xacts.Xacts.hold.Goals as goal

pub invariant_of-self-2 : goal.invariant_of-self-2
invariant_of-self-2 c =
    record {
      clock = c.self.invariant.clock;
      undos = c.self.invariant.undos;
      well = c.self.invariant.well;
      views = rw c.in_ok-push.ensures.items (omega (arith, length-append c.self.inside.held.items (c.snapshot.result ∷ []), few_there c.self.inside _ c.self.view_is c.requires.views));
    }

pub returns-in_err-push-clause-others : goal.returns-in_err-push-clause-others
returns-in_err-push-clause-others c = same_others c.self.inside c.args.self.now c.push.new.self.items c.self.view_is c.in_err-push.ensures.items

pub returns-in_err-push-clause-whole : goal.returns-in_err-push-clause-whole
returns-in_err-push-clause-whole c whole = same_whole c.self.inside c.args.self.now c.push.new.self.items c.self.view_is c.in_err-push.ensures.items

pub returns-clause-others : goal.returns-clause-others
returns-clause-others c = hold_others c.self.inside c.args.self.now c.args.snap c.push.new.self.items c.self.view_is c.requires.kept (c.in_ok-push.ensures.items ∙ ap (λ (view : Snapshot). c.self.inside.held.items ++ view ∷ []) (c.snapshot.ensures ∙ c.new-hold.ensures))

pub returns-clause-whole : goal.returns-clause-whole
returns-clause-whole c = hold_whole c.self.inside c.args.self.now c.args.snap c.push.new.self.items c.self.view_is (c.in_ok-push.ensures.items ∙ ap (λ (view : Snapshot). c.self.inside.held.items ++ view ∷ []) (c.snapshot.ensures ∙ c.new-hold.ensures))
