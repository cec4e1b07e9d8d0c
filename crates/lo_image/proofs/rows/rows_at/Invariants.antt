use Rattle.std.proofs.Common.{◌≡◌}
use Rattle.lo_image.specs.Reading.{row_at, after_row, rows_at, after_rows}
use Rattle.lo_image.proofs.Loop.{HasRead}
use Rattle.lo_image.proofs.rows.rows_at.Given as goal

abbrev pub invariant-loop : goal.invariant-loop
invariant-loop l = HasRead _ _ (row_at l.columns l.table) after_row l.place l.rows l.count l.counter l.rest (rows_at l.columns l.table l.fn.value l.count l.bytes) × (l.place.value ≡ after_rows l.fn.value l.rows)
