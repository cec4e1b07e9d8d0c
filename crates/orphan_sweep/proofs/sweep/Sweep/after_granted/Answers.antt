use Rattle.std.proofs.Common.{◌∙◌, ap}
use Rattle.orphan_sweep.specs.Place.{is_unlink}
use Rattle.orphan_sweep.proofs.FieldsAfter.{act_of}
use Rattle.orphan_sweep.proofs.sweep.Sweep.after_granted.Goals as goal

pub start_group-requires : goal.start_group-requires
start_group-requires c =
    act_of c.self.inside c.args.self.now c.self.view_is c.self.invariant ∙ c.in-Begin.is

pub after_unlink-requires : goal.after_unlink-requires
after_unlink-requires c =
    ap is_unlink (act_of c.self.inside c.args.self.now c.self.view_is c.self.invariant ∙ c.in-Unlink.is)
