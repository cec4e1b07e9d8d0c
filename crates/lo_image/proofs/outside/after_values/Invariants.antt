use Rattle.std.proofs.Common.{◌≡◌, ◌+◌, drop}
use Rattle.toast_plan.specs.Row.{count_outside}
use Rattle.lo_opening.specs.Opening.{marked_chunks}
use Rattle.lo_image.proofs.outside.after_values.Given as goal

abbrev pub invariant-loop-place : goal.invariant-loop-place
invariant-loop-place l = record {
  value : l.next.value + count_outside (drop l.place l.marks) ≡ l.initial.next.value + count_outside l.marks;
  chunks : l.next.chunks + marked_chunks (drop l.place l.values) (drop l.place l.marks) ≡ l.initial.next.chunks + marked_chunks l.values l.marks;
}
