use Rattle.std.proofs.Common.{length, sym, ap, ◌∙◌, arith}
use Rattle.toast_plan.specs.Row.{value_lengths}
use Rattle.toast_plan.proofs.PlanLaws.{length_outside}
use Rattle.toast_plan.proofs.RowLaws.{values_same, values_short}
use Rattle.lo_restore.proofs.tables_counted.counts_of.Goals as goal

pub marked_counts-requires-clause-marks : goal.marked_counts-requires-clause-marks
marked_counts-requires-clause-marks c =
    let columns = c.args.columns.now in
    let vs = c.args.values.now in
    ap length c.plan_of-plan.ensures.outside ∙ length_outside columns (value_lengths vs) ∙ sym (values_same columns vs c.requires.row.values_are.fit)

pub marked_counts-requires-clause-few : goal.marked_counts-requires-clause-few
marked_counts-requires-clause-few c =
    let columns = c.args.columns.now in
    let vs = c.args.values.now in
    omega (arith, c.requires.columns.few, values_same columns vs c.requires.row.values_are.fit)

pub marked_counts-requires-clause-short : goal.marked_counts-requires-clause-short
marked_counts-requires-clause-short c = values_short c.args.columns.now c.args.values.now c.requires.row.values_are.fit
