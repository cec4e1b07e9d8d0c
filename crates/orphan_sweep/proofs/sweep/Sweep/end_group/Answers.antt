use Rattle.std.proofs.Common.{rules, inl, inr}
use Rattle.orphan_sweep.proofs.FieldsAfter.{committed_of}
use Rattle.orphan_sweep.proofs.sweep.Sweep.end_group.Goals as goal
use Rattle.orphan_sweep.proofs.sweep.Sweep.end_group.Goals.{then-self-len, else-self-len}

pub returns : goal.returns
returns c =
    committed_of c.self.inside c.args.self.now _ c.self.view_is c.self.invariant c.requires
    (elim c.if-self-len.branch [ then-self-len w ↦ inl (w.t-7-is, search rules) | else-self-len w ↦ inr (w.t-7-is, search rules) ])
