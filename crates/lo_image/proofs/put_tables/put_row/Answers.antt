use Rattle.std.proofs.Common.{length, sym, ap, ◌∙◌}
use Rattle.toast_plan.specs.Row.{value_lengths}
use Rattle.toast_plan.proofs.PlanLaws.{length_outside}
use Rattle.toast_plan.proofs.RowLaws.{values_same, values_short}
use Rattle.lo_image.proofs.Left.{first_is}
use Rattle.lo_image.proofs.WritingLaws.{fails}
use Rattle.lo_image.proofs.put_tables.put_row.Goals as goal

pub after_values-requires-clause-marks : goal.after_values-requires-clause-marks
after_values-requires-clause-marks g c =
    let columns = c.args.columns.now in
    let vs = c.args.values.now in
    ap length c.plan_of-plan.ensures.outside ∙ length_outside columns (value_lengths vs) ∙ sym (values_same columns vs c.requires.row.values_are.fit)

pub after_values-requires-clause-short : goal.after_values-requires-clause-short
after_values-requires-clause-short g c = values_short c.args.columns.now c.args.values.now c.requires.row.values_are.fit

pub returns-in_err-put-clause-puts : goal.returns-in_err-put-clause-puts
returns-in_err-put-clause-puts g c =
    let is = c.row_bytes-count.ensures.form ∙ first_is c.args.columns.now c.args.table c.args.before.value c.min-first.result c.args.values.now c.min-first.ensures c.requires.row.numbers in
    fails _ c.from_residual.result c.from_residual.ensures.1 (rw is at c.in_err-put.ensures)

pub returns-clause-puts : goal.returns-clause-puts
returns-clause-puts g c =
    let is = c.row_bytes-count.ensures.form ∙ first_is c.args.columns.now c.args.table c.args.before.value c.min-first.result c.args.values.now c.min-first.ensures c.requires.row.numbers in
    rw is at c.in_ok-put.ensures
