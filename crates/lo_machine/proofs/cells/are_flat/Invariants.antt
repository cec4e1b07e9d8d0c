use Rattle.std.proofs.Common.{◌↔◌, drop}
use Rattle.lo_machine.specs.FlatRows.{AreFlatCells}
use Rattle.lo_machine.proofs.cells.are_flat.Given as goal

abbrev pub invariant-loop-index : goal.invariant-loop-index
invariant-loop-index l = AreFlatCells (drop l.index l.columns) (drop l.index l.row) ↔ AreFlatCells l.columns l.row
