use Rattle.std.proofs.Common.{◌≡◌, ◌↔◌, map, drop}
use Rattle.toast_plan.specs.Reading.{is_cell_outside}
use Rattle.toast_plan.proofs.reading.are_marked.Given as goal

abbrev pub invariant-loop-place : goal.invariant-loop-place
invariant-loop-place l = (map is_cell_outside (drop l.place l.cells) ≡ drop l.place l.marks) ↔ (map is_cell_outside l.cells ≡ l.marks)
