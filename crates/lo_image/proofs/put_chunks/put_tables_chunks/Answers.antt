use Rattle.std.proofs.Common.{◌≡◌, ◌+◌, drop, refl, arith}
use Rattle.lo_opening.specs.Opening.{rows_outside}
use Rattle.lo_image.specs.Image.{rows_chunks_form, tables_chunks_form}
use Rattle.lo_image.proofs.Left.{tables_at, tables_chunks_left}
use Rattle.lo_image.proofs.WritingLaws.{step_by, stop_by, fails}
use Rattle.lo_image.proofs.put_chunks.put_tables_chunks.Goals as goal

pub returns-in_err-number : goal.returns-in_err-number
returns-in_err-number g c =
    let ts = c.args.tables.now in
    let i = c.loop-table.table-index in
    let t = c.table-item.result in
    let number = c.loop-table.number in
    let next = number + rows_outside t.columns t.rows in
    let left = tables_chunks_left number next ts i t c.table-item.is (omega arith) refl in
    fails _ c.from_residual.result c.from_residual.ensures.1 (stop_by (rows_chunks_form t.columns number t.rows) (tables_chunks_form next (drop (i + 1) ts)) _ left c.loop-table.invariant.puts (rw (c.items-columns.ensures, c.items-rows.ensures) at c.in_err-number.ensures.puts))

pub loop-table-preserved : goal.loop-table-preserved
loop-table-preserved g c =
    let ts = c.args.tables.now in
    let i = c.loop-table.table-index in
    let t = c.table-item.result in
    let number = c.loop-table.number in
    let next = c.in_ok-number.number in
    let step : next ≡ number + rows_outside t.columns t.rows = rw (c.items-columns.ensures, c.items-rows.ensures) at c.in_ok-number.ensures.value in
    let left = tables_chunks_left number next ts i t c.table-item.is (omega arith) step in
    record {
      puts = step_by (rows_chunks_form t.columns number t.rows) (tables_chunks_form next (drop (i + 1) ts)) _ left c.loop-table.invariant.puts (rw (c.items-columns.ensures, c.items-rows.ensures) at c.in_ok-number.ensures.puts);
      tables = rw step (tables_at number ts i t c.table-item.is (omega arith) c.loop-table.invariant.tables).1;
    }
