use Rattle.std.proofs.Common.{length, ap, sym, ◌∙◌, arith}
use Rattle.toast_plan.specs.Row.{value_lengths}
use Rattle.toast_plan.specs.Choice.{outside_of}
use Rattle.toast_plan.proofs.PlanLaws.{length_outside}
use Rattle.toast_plan.proofs.RowLaws.{values_same, values_short, form_fits, is_row}
use Rattle.toast_plan.proofs.writing.row_bytes.Goals as goal

pub put_fields-requires-clause-marks : goal.put_fields-requires-clause-marks
put_fields-requires-clause-marks c =
    let cs = c.args.columns.now in
    let vs = c.args.values.now in
    ap length c.requires.plan.outside ∙ length_outside cs (value_lengths vs) ∙ sym (values_same cs vs c.requires.values.fit)

pub put_fields-requires-clause-short : goal.put_fields-requires-clause-short
put_fields-requires-clause-short c = values_short c.args.columns.now c.args.values.now c.requires.values.fit

pub put_fields-requires-clause-room : goal.put_fields-requires-clause-room
put_fields-requires-clause-room c =
    let cs = c.args.columns.now in
    let vs = c.args.values.now in
    let fits = form_fits c.args.table c.args.first cs vs (outside_of cs (value_lengths vs)) c.requires.values.fit c.requires.columns.few c.requires.plan.fits in
    rw c.requires.plan.outside (omega (arith, fits, c.requires.room))

pub returns-clause-row : goal.returns-clause-row
returns-clause-row c = is_row c.args.table c.args.first c.args.columns.now c.args.values.now c.requires.columns c.requires.values c.requires.plan.fits c.requires.numbers (omega arith) c.put_fields.ensures.range
