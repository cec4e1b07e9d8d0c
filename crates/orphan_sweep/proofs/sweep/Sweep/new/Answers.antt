use Rattle.std.proofs.Common.{◌∙◌, ap, reverse}
use Rattle.orphan_sweep.specs.Place.{opening_act}
use Rattle.orphan_sweep.proofs.FieldsAfter.{begun_stands}
use Rattle.orphan_sweep.proofs.sweep.Sweep.new.Goals as goal

pub returns : goal.returns
returns c =
    let stored = c.reverse.new.self.items in
    begun_stands c.args.dry c.args.limit c.args.list c.into_vec-list.result.items c.args.scans stored c.take_opening_act-act.new.scans.items c.take_opening_act-act.result c.into_vec-list.ensures (c.reverse.ensures.items ∙ ap reverse c.into_vec-scans.ensures) (c.take_opening_act-act.ensures.act ∙ ap (opening_act (reverse stored) c.args.dry) c.as_slice.ensures.value) c.take_opening_act-act.ensures.others
