use Rattle.std.proofs.Common.{◌≡◌, ◌≤◌, ◌+◌, ◌*◌, drop}
use Rattle.toast_plan.specs.Row.{count_outside}
use Rattle.lo_opening.specs.Opening.{marked_chunks}
use Rattle.lo_restore.proofs.tables_counted.marked_counts.Given as goal

abbrev pub invariant-loop-place : goal.invariant-loop-place
invariant-loop-place l = record {
  values : l.counts.values + count_outside (drop l.place l.marks) ≡ count_outside l.marks;
  chunks : l.counts.chunks + marked_chunks (drop l.place l.values) (drop l.place l.marks) ≡ marked_chunks l.values l.marks;
  few : l.counts.values ≤ l.place;
  small : l.counts.chunks ≤ 16777216 * l.place;
}
