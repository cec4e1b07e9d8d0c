use Rattle.std.proofs.Common.{◌≡◌, drop}
use Rattle.lo_image.specs.Readers.{with_front, each}
use Rattle.lo_image.specs.Reading.{cell_at, after_column_cell, after_cells}
use Rattle.lo_image.proofs.rows.other_cells_at.Given as goal

abbrev pub invariant-loop-column : goal.invariant-loop-column
invariant-loop-column l =
    (with_front l.cells (each (cell_at l.table) after_column_cell l.next (drop l.column-index l.columns) l.rest) ≡ with_front l.fn.front (each (cell_at l.table) after_column_cell l.fn.value l.columns l.bytes))
    × (l.next ≡ after_cells l.fn.value l.cells)
