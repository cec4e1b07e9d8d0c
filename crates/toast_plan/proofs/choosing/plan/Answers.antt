use Rattle.std.proofs.Common.{◌≡◌, length, drop, replicate, Bool, false, List, arith, ◌∙◌}
use Rattle.std.proofs.lemmas.List.{take-replicate, drop-replicate, take_at, drop_at, length-take-le}
use Rattle.std.proofs.Common.{take, ◌++◌, ◌+◌, ap, refl}
use Rattle.toast_plan.specs.Layout.{up_to_8, data_length}
use Rattle.toast_plan.specs.Choice.{outside_of, planned_length}
use Rattle.toast_plan.proofs.ValueLengths.{length_same, are_short}
use Rattle.toast_plan.proofs.choosing.plan.Goals as goal

pub header_length-header-requires : goal.header_length-header-requires
header_length-header-requires c = omega (arith, c.requires.columns.few, length_same c.args.columns.now c.args.lengths.now c.requires.lengths)

pub mark_outside-requires-clause-lengths : goal.mark_outside-requires-clause-lengths
mark_outside-requires-clause-lengths c = length_same c.args.columns.now c.args.lengths.now c.requires.lengths

pub mark_outside-requires-clause-short : goal.mark_outside-requires-clause-short
mark_outside-requires-clause-short c = are_short c.args.columns.now c.args.lengths.now c.requires.lengths

pub data_length-requires-clause-lengths : goal.data_length-requires-clause-lengths
data_length-requires-clause-lengths c = length_same c.args.columns.now c.args.lengths.now c.requires.lengths

pub data_length-requires-clause-short : goal.data_length-requires-clause-short
data_length-requires-clause-short c = are_short c.args.columns.now c.args.lengths.now c.requires.lengths

abbrev inside : List Bool
inside = replicate 32 false

pub mark_outside-requires-clause-inside : goal.mark_outside-requires-clause-inside
mark_outside-requires-clause-inside c = take-replicate (length c.args.columns.now) 32 false c.requires.columns.few

pub returns-clause-plan : goal.returns-clause-plan
returns-clause-plan c =
    let n : length c.mark_outside.new.outside ≡ length c.args.columns.now = c.mark_outside.auto.outside ∙ length-take-le (length c.args.columns.now) inside c.requires.columns.few in
    let marks : take (length c.args.columns.now) (c.mark_outside.new.outside ++ drop (length c.args.columns.now) inside) ≡ outside_of c.args.columns.now c.args.lengths.now =
    take_at c.mark_outside.new.outside (drop (length c.args.columns.now) inside) (length c.args.columns.now) n ∙ c.mark_outside.ensures in
    let length-is : c.data_length.result ≡ data_length c.args.columns.now c.args.lengths.now (outside_of c.args.columns.now c.args.lengths.now) = c.data_length.ensures.length ∙ ap (data_length c.args.columns.now c.args.lengths.now) marks in
    let size : c.header_length-header.result + c.data_length.result ≡ planned_length c.args.columns.now c.args.lengths.now = rw (length-is, c.header_length-header.ensures.length) refl in
    let rounded : c.up_to_8-rounded.result ≡ up_to_8 (planned_length c.args.columns.now c.args.lengths.now) = c.up_to_8-rounded.ensures ∙ ap up_to_8 size in
    record {
      fits = rw (← rounded) c.if-rounded-gt-ROW_LIMIT.false;
      size = size;
      outside = marks;
      others = drop_at c.mark_outside.new.outside (drop (length c.args.columns.now) inside) (length c.args.columns.now) n ∙ drop-replicate (length c.args.columns.now) 32 false;
    }
