use Rattle.std.proofs.Common.{◌≡◌, ◌+◌, drop}
use Rattle.toast_plan.specs.Row.{count_outside}
use Rattle.lo_image.specs.Writing.{written, HasLeft}
use Rattle.lo_image.specs.Image.{row_chunks_form}
use Rattle.lo_image.proofs.put_chunks.put_row_chunks.Given as goal

abbrev pub invariant-loop-place : goal.invariant-loop-place
invariant-loop-place g l = record {
  puts : HasLeft (written g.F.Files l.initial.files l.initial.buffer) (written g.F.Files l.files l.buffer) l.name (row_chunks_form l.first l.values l.marks) (row_chunks_form l.number (drop l.place l.values) (drop l.place l.marks));
  value : l.number + count_outside (drop l.place l.marks) ≡ l.first + count_outside l.marks;
}
