use Rattle.std.proofs.Common.{◌≡◌, ◌<◌, ◌+◌, ◌^◌, drop}
use Rattle.std.specs.List.{AllByRecursion}
use Rattle.lo_opening.specs.Opening.{tables_chunks}
use Rattle.lo_restore.specs.Tables.{tables_outside}
use Rattle.lo_restore.specs.TablesCounted.{HasPlans}
use Rattle.lo_restore.proofs.tables_counted.counts_in.Given as goal

abbrev pub invariant-loop-table : goal.invariant-loop-table
invariant-loop-table l = record {
  values : l.counts.values + tables_outside (drop l.table-index l.list) ≡ tables_outside l.list;
  chunks : l.counts.chunks + tables_chunks (drop l.table-index l.list) ≡ tables_chunks l.list;
  few : l.counts.values < 2 ^ 32;
  small : l.counts.chunks < 2 ^ 32;
  left : AllByRecursion HasPlans (drop l.table-index l.list);
}
