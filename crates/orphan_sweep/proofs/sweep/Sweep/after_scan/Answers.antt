use Rattle.orphan_sweep.proofs.FieldsAfter.{found_of, found_fits}
use Rattle.orphan_sweep.proofs.sweep.Sweep.after_scan.Goals as goal

pub invariant_of-self : goal.invariant_of-self
invariant_of-self c =
    let opens = c.take_opening_act.ensures.act in
    let fits = found_fits c.self.inside c.args.self.now c.args.numbers.items c.take_off.new.list.items c.take_opening_act.result c.self.view_is c.self.invariant c.requires c.take_off.ensures (rw c.as_slice.ensures.value at opens) in
    record { ascending = fits.0; fits = fits.1 }

pub returns : goal.returns
returns c =
    let opens = c.take_opening_act.ensures.act in
    found_of c.self.inside c.args.self.now c.args.numbers.items c.take_off.new.list.items c.take_opening_act.result c.take_opening_act.new.scans.items c.self.view_is c.self.invariant c.requires c.take_off.ensures (rw c.as_slice.ensures.value at opens) c.take_opening_act.ensures.others
