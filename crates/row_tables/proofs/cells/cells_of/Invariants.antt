use Rattle.std.proofs.Common.{◌≡◌, ◌++◌, drop}
use Rattle.row_tables.specs.Values.{cells_of}
use Rattle.row_tables.proofs.cells.cells_of.Given as goal

abbrev pub invariant-loop-value : goal.invariant-loop-value
invariant-loop-value l = l.row.items ++ cells_of (drop l.value-index l.values) ≡ cells_of l.values
