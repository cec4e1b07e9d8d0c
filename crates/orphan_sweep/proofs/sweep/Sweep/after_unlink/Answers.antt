use Rattle.std.proofs.Common.{inl, inr, arith}
use Rattle.orphan_sweep.proofs.FieldsAfter.{unlinked_of, room_left}
use Rattle.orphan_sweep.proofs.sweep.Sweep.after_unlink.Goals as goal
use Rattle.orphan_sweep.proofs.sweep.Sweep.after_unlink.Goals.{then-self-eq0, else-self-eq0}

pub overflow_sub-self : goal.overflow_sub-self
overflow_sub-self c =
    let h = room_left c.self.inside c.args.self.now c.self.view_is c.self.invariant c.requires in omega arith

pub returns : goal.returns
returns c =
    unlinked_of c.self.inside c.args.self.now _ c.self.view_is c.self.invariant c.requires
    (elim c.if-self-eq0.branch [ then-self-eq0 w ↦ inl w.t-6-is | else-self-eq0 w ↦ inr (_, w.t-6-is) ])
