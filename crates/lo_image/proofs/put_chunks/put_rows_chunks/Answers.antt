use Rattle.std.proofs.Common.{◌≡◌, ◌+◌, Bool, List, drop, take, length, refl, sym, ap, ◌∙◌, arith}
use Rattle.toast_plan.specs.Row.{FitColumns, count_outside, value_lengths}
use Rattle.toast_plan.proofs.PlanLaws.{length_outside}
use Rattle.toast_plan.proofs.RowLaws.{values_same, values_short}
use Rattle.lo_opening.specs.Opening.{marks_of, row_outside}
use Rattle.lo_image.specs.Image.{row_chunks_form, rows_chunks_form}
use Rattle.lo_image.proofs.Left.{rows_at, outside_left, rows_chunks_left}
use Rattle.lo_image.proofs.WritingLaws.{nothing_given, step_by, stop_by, fails}
use Rattle.lo_image.proofs.put_chunks.put_rows_chunks.Goals as goal

pub loop-row-init : goal.loop-row-init
loop-row-init g c = record { puts = nothing_given _ _ _; rows = c.requires.rows; value = refl }

pub plan_of-plan-requires-clause-fits : goal.plan_of-plan-requires-clause-fits
plan_of-plan-requires-clause-fits g c =
    let rows = c.args.rows.now in
    let i = c.loop-row.row-index in
    let row = c.row-item.result in
    let columns = c.args.columns.now in
    let number = c.loop-row.number in
    let at = rows_at columns number rows i row c.row-item.is (omega arith) c.loop-row.invariant.rows in
    rw c.items-values.ensures at.0.fits

pub put_row_chunks-requires-clause-marks : goal.put_row_chunks-requires-clause-marks
put_row_chunks-requires-clause-marks g c =
    let rows = c.args.rows.now in
    let i = c.loop-row.row-index in
    let row = c.row-item.result in
    let columns = c.args.columns.now in
    let number = c.loop-row.number in
    let at = rows_at columns number rows i row c.row-item.is (omega arith) c.loop-row.invariant.rows in
    let vs = c.items-values.result.now in
    let fit : FitColumns columns vs = rw c.items-values.ensures at.0.values_are.fit in
    ap length c.plan_of-plan.ensures.outside ∙ length_outside columns (value_lengths vs) ∙ sym (values_same columns vs fit)

pub put_row_chunks-requires-clause-short : goal.put_row_chunks-requires-clause-short
put_row_chunks-requires-clause-short g c =
    let rows = c.args.rows.now in
    let i = c.loop-row.row-index in
    let row = c.row-item.result in
    let columns = c.args.columns.now in
    let number = c.loop-row.number in
    let at = rows_at columns number rows i row c.row-item.is (omega arith) c.loop-row.invariant.rows in
    let vs = c.items-values.result.now in
    let fit : FitColumns columns vs = rw c.items-values.ensures at.0.values_are.fit in
    values_short columns vs fit

pub put_row_chunks-requires-clause-numbers : goal.put_row_chunks-requires-clause-numbers
put_row_chunks-requires-clause-numbers g c =
    let rows = c.args.rows.now in
    let i = c.loop-row.row-index in
    let row = c.row-item.result in
    let columns = c.args.columns.now in
    let number = c.loop-row.number in
    let at = rows_at columns number rows i row c.row-item.is (omega arith) c.loop-row.invariant.rows in
    let marks = take (length columns) c.plan_of-plan.result.outside in
    let marked : marks ≡ marks_of columns row = rw c.items-values.ensures at c.plan_of-plan.ensures.outside in
    rw marked at.0.numbers

pub returns-in_err-number-clause-puts : goal.returns-in_err-number-clause-puts
returns-in_err-number-clause-puts g c =
    let rows = c.args.rows.now in
    let i = c.loop-row.row-index in
    let row = c.row-item.result in
    let columns = c.args.columns.now in
    let number = c.loop-row.number in
    let at = rows_at columns number rows i row c.row-item.is (omega arith) c.loop-row.invariant.rows in
    let marks = take (length columns) c.plan_of-plan.result.outside in
    let marked : marks ≡ marks_of columns row = rw c.items-values.ensures at c.plan_of-plan.ensures.outside in
    let next = number + count_outside marks in
    let left = rows_chunks_left columns number next rows i row marks c.row-item.is (omega arith) marked refl in
    fails _ c.from_residual.result c.from_residual.ensures.1 (stop_by (row_chunks_form number row marks) (rows_chunks_form columns next (drop (i + 1) rows)) _ left c.loop-row.invariant.puts (rw c.items-values.ensures at c.in_err-number.ensures.puts))

pub loop-row-preserved : goal.loop-row-preserved
loop-row-preserved g c =
    let rows = c.args.rows.now in
    let i = c.loop-row.row-index in
    let row = c.row-item.result in
    let columns = c.args.columns.now in
    let number = c.loop-row.number in
    let at = rows_at columns number rows i row c.row-item.is (omega arith) c.loop-row.invariant.rows in
    let marks = take (length columns) c.plan_of-plan.result.outside in
    let marked : marks ≡ marks_of columns row = rw c.items-values.ensures at c.plan_of-plan.ensures.outside in
    let next = c.in_ok-number.number in
    let left = rows_chunks_left columns number next rows i row marks c.row-item.is (omega arith) marked c.in_ok-number.ensures.value in
    let step : next ≡ number + row_outside columns row = c.in_ok-number.ensures.value ∙ ap (λ (os : List Bool). number + count_outside os) marked in
    record {
      puts = step_by (row_chunks_form number row marks) (rows_chunks_form columns next (drop (i + 1) rows)) _ left c.loop-row.invariant.puts (rw c.items-values.ensures at c.in_ok-number.ensures.puts);
      rows = rw step at.1;
      value = omega (arith, step, c.loop-row.invariant.value, outside_left columns rows i row c.row-item.is (omega arith));
    }
