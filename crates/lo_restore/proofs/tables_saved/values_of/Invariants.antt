use Rattle.std.proofs.Common.{◌≡◌, length}
use Rattle.std.specs.Vec.Iter.{into_iter_items, into_iter_len}
use Rattle.lo_restore.proofs.CellValues.{Turning}
use Rattle.lo_restore.proofs.tables_saved.values_of.Given as goal

abbrev pub invariant-loop-cell : goal.invariant-loop-cell
invariant-loop-cell l = record {
  turning : Turning l.fn.cells (into_iter_items l.cell-iterator) l.row;
  count : into_iter_len l.cell-iterator ≡ length (into_iter_items l.cell-iterator);
}
