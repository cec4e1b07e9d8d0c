use Rattle.std.proofs.Common.{◌≡◌, ◌+◌, drop}
use Rattle.lo_opening.specs.Opening.{rows_outside}
use Rattle.lo_image.specs.Writing.{written, HasLeft, AreNumberedRows}
use Rattle.lo_image.specs.Image.{rows_chunks_form}
use Rattle.lo_image.proofs.put_chunks.put_rows_chunks.Given as goal

abbrev pub invariant-loop-row : goal.invariant-loop-row
invariant-loop-row g l = record {
  puts : HasLeft (written g.F.Files l.initial.files l.initial.buffer) (written g.F.Files l.files l.buffer) l.name (rows_chunks_form l.columns l.first l.rows) (rows_chunks_form l.columns l.number (drop l.row-index l.rows));
  rows : AreNumberedRows l.columns l.number (drop l.row-index l.rows);
  value : l.number + rows_outside l.columns (drop l.row-index l.rows) ≡ l.first + rows_outside l.columns l.rows;
}
