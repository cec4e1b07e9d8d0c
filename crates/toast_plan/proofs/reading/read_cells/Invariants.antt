use Rattle.std.proofs.Common.{◌≡◌, ◌≤◌, length, drop}
use Rattle.toast_plan.specs.Reading.{cells_front, behind}
use Rattle.toast_plan.proofs.reading.read_cells.Given as goal

abbrev pub invariant-loop-column : goal.invariant-loop-column
invariant-loop-column l = record {
  rest : behind l.cells (cells_front (drop l.column-index l.columns) (drop l.at l.bytes)) ≡ cells_front l.columns l.bytes;
  within : l.at ≤ length l.bytes;
}
