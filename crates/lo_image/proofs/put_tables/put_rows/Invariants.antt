use Rattle.std.proofs.Common.{◌≡◌, ◌+◌, drop}
use Rattle.lo_opening.specs.Opening.{rows_outside, rows_chunks}
use Rattle.lo_image.specs.Writing.{written, HasLeft, AreNumberedRows}
use Rattle.lo_image.specs.Image.{rows_form}
use Rattle.lo_image.proofs.put_tables.put_rows.Given as goal

abbrev pub invariant-loop-row : goal.invariant-loop-row
invariant-loop-row g l = record {
  puts : HasLeft (written g.F.Files l.initial.files l.initial.buffer) (written g.F.Files l.files l.buffer) l.name (rows_form l.columns l.fn.table l.initial.next.value l.rows) (rows_form l.columns l.fn.table l.next.value (drop l.row-index l.rows));
  rows : AreNumberedRows l.columns l.next.value (drop l.row-index l.rows);
  value : l.next.value + rows_outside l.columns (drop l.row-index l.rows) ≡ l.initial.next.value + rows_outside l.columns l.rows;
  chunks : l.next.chunks + rows_chunks l.columns (drop l.row-index l.rows) ≡ l.initial.next.chunks + rows_chunks l.columns l.rows;
}
