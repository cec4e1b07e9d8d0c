use Rattle.std.proofs.Common.{◌≡◌, ◌+◌, drop, refl, arith}
use Rattle.toast_plan.specs.Row.{planned_fields, row_form}
use Rattle.lo_opening.specs.Opening.{marks_of, row_outside, marked_chunks}
use Rattle.lo_image.specs.Image.{rows_form}
use Rattle.lo_image.proofs.Left.{rows_at, outside_left, chunks_left, rows_left}
use Rattle.lo_image.proofs.WritingLaws.{nothing_given, step_by, stop_by, fails}
use Rattle.lo_image.proofs.put_tables.put_rows.Goals as goal

pub loop-row-init : goal.loop-row-init
loop-row-init g c = record { puts = nothing_given _ _ _; rows = c.requires.rows; value = refl; chunks = refl }

pub put_row-requires-clause-row : goal.put_row-requires-clause-row
put_row-requires-clause-row g c =
    let rows = c.args.rows.now in
    let i = c.loop-row.row-index in
    let row = c.row-item.result in
    let columns = c.args.columns.now in
    let value = c.loop-row.next.value in
    let at = rows_at columns value rows i row c.row-item.is (omega arith) c.loop-row.invariant.rows in
    rw c.items-values.ensures at.0

pub put_row-requires-clause-few : goal.put_row-requires-clause-few
put_row-requires-clause-few g c =
    let rows = c.args.rows.now in
    let i = c.loop-row.row-index in
    let row = c.row-item.result in
    let columns = c.args.columns.now in
    let left = chunks_left columns rows i row c.row-item.is (omega arith) in
    rw c.items-values.ensures (omega (arith, left, c.loop-row.invariant.chunks, c.requires.few))

pub returns-in_err-next-clause-puts : goal.returns-in_err-next-clause-puts
returns-in_err-next-clause-puts g c =
    let rows = c.args.rows.now in
    let i = c.loop-row.row-index in
    let row = c.row-item.result in
    let columns = c.args.columns.now in
    let value = c.loop-row.next.value in
    let next = value + row_outside columns row in
    let left = rows_left columns c.args.table value next rows i row c.row-item.is (omega arith) refl in
    fails _ c.from_residual.result c.from_residual.ensures.1 (stop_by (row_form (planned_fields columns c.args.table value row)) (rows_form columns c.args.table next (drop (i + 1) rows)) _ left c.loop-row.invariant.puts (rw c.items-values.ensures at c.in_err-next.ensures.puts))

pub loop-row-preserved : goal.loop-row-preserved
loop-row-preserved g c =
    let rows = c.args.rows.now in
    let i = c.loop-row.row-index in
    let row = c.row-item.result in
    let columns = c.args.columns.now in
    let value = c.loop-row.next.value in
    let at = rows_at columns value rows i row c.row-item.is (omega arith) c.loop-row.invariant.rows in
    let next = c.in_ok-next.next.value in
    let step : next ≡ value + row_outside columns row = rw c.items-values.ensures at c.in_ok-next.ensures.value in
    let more : c.in_ok-next.next.chunks ≡ c.loop-row.next.chunks + marked_chunks row (marks_of columns row) = rw c.items-values.ensures at c.in_ok-next.ensures.chunks in
    let left = rows_left columns c.args.table value next rows i row c.row-item.is (omega arith) step in
    record {
      puts = step_by (row_form (planned_fields columns c.args.table value row)) (rows_form columns c.args.table next (drop (i + 1) rows)) _ left c.loop-row.invariant.puts (rw c.items-values.ensures at c.in_ok-next.ensures.puts);
      rows = rw step at.1;
      value = omega (arith, step, c.loop-row.invariant.value, outside_left columns rows i row c.row-item.is (omega arith));
      chunks = omega (arith, more, c.loop-row.invariant.chunks, chunks_left columns rows i row c.row-item.is (omega arith));
    }
