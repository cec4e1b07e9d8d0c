use Rattle.std.proofs.Common.{◌≡◌, ◌<◌, ◌+◌, ◌^◌, drop}
use Rattle.std.specs.List.{AllByRecursion}
use Rattle.lo_opening.specs.Opening.{rows_chunks, rows_outside}
use Rattle.lo_restore.specs.TablesSaved.{IsRowOf}
use Rattle.lo_restore.proofs.tables_counted.after_rows.Given as goal

abbrev pub invariant-loop-row : goal.invariant-loop-row
invariant-loop-row l = record {
  values : l.counts.values + rows_outside l.columns (drop l.row-index l.rows) ≡ l.fn.before.values + rows_outside l.columns l.rows;
  chunks : l.counts.chunks + rows_chunks l.columns (drop l.row-index l.rows) ≡ l.fn.before.chunks + rows_chunks l.columns l.rows;
  few : l.counts.values < 2 ^ 32;
  small : l.counts.chunks < 2 ^ 32;
  left : AllByRecursion (IsRowOf l.columns) (drop l.row-index l.rows);
}
