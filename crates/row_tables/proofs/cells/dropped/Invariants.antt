use Rattle.std.proofs.Common.{◌≡◌, ◌++◌, drop}
use Rattle.row_tables.specs.Cells.{dropped}
use Rattle.row_tables.proofs.cells.dropped.Given as goal

abbrev pub invariant-loop-cell : goal.invariant-loop-cell
invariant-loop-cell l = l.numbers.items ++ dropped (drop l.cell-index l.old) l.new ≡ dropped l.old l.new
