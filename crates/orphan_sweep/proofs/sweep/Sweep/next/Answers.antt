use Rattle.std.proofs.Common.{sym, ◌∙◌, ap}
use Rattle.orphan_sweep.specs.State.{next_of}
use Rattle.orphan_sweep.proofs.FieldsAfter.{act_of}
use Rattle.orphan_sweep.proofs.sweep.Sweep.next.Goals as goal

pub returns-clause-act : goal.returns-clause-act
returns-clause-act c = sym (act_of c.self.inside c.args.self.now c.self.view_is c.self.invariant)

pub returns-clause-by_history : goal.returns-clause-by_history
returns-clause-by_history c =
    λ h e. sym (act_of c.self.inside c.args.self.now c.self.view_is c.self.invariant) ∙ ap next_of e
