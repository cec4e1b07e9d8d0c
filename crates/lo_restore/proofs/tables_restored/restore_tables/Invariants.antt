use Rattle.std.proofs.Common.{◌≡◌, drop}
use Rattle.lo_restore.proofs.TablesLeft.{TablesDone}
use Rattle.lo_restore.proofs.tables_restored.restore_tables.Given as goal

abbrev pub invariant-loop-table : goal.invariant-loop-table
invariant-loop-table l = record {
  same : l.core ≡ l.initial.core;
  done : TablesDone l.core.xacts l.s l.list l.tables (drop l.table-index l.list);
}
