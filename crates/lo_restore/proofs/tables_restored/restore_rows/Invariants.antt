use Rattle.std.proofs.Common.{◌≡◌, drop}
use Rattle.lo_restore.proofs.TablesLeft.{RowsDone}
use Rattle.lo_restore.proofs.tables_restored.restore_rows.Given as goal

abbrev pub invariant-loop-row : goal.invariant-loop-row
invariant-loop-row l = record {
  same : l.core ≡ l.initial.core;
  done : RowsDone l.core.xacts l.s l.table l.initial.tables l.tables (drop l.row-index l.table.rows);
}
