use Rattle.std.proofs.Common.{◌≡◌, ◌++◌, drop}
use Rattle.row_tables.specs.Cells.{changed_cells}
use Rattle.row_tables.proofs.cells.changed_cells.Given as goal

abbrev pub invariant-loop-index : goal.invariant-loop-index
invariant-loop-index l = l.new.items ++ changed_cells l.changes (drop l.index l.columns) (drop l.index l.row) ≡ changed_cells l.changes l.columns l.row
