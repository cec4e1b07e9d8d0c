use Rattle.std.proofs.Common.{◌≡◌, ◌↔◌, map, drop}
use Rattle.toast_plan.specs.Reading.{is_cell_outside}
use Rattle.lo_image.proofs.plans.are_marked.Given as goal

abbrev pub invariant-loop-index : goal.invariant-loop-index
invariant-loop-index l = (map is_cell_outside (drop l.index l.cells) ≡ drop l.index l.marks) ↔ (map is_cell_outside l.cells ≡ l.marks)
