use Rattle.std.proofs.Common.{◌≡◌, length}
use Rattle.std.specs.Vec.Iter.{into_iter_items, into_iter_len}
use Rattle.lo_image.specs.Readers.{with_front, each}
use Rattle.lo_image.specs.Reading.{column_value_at, next_columns, row_values_at}
use Rattle.lo_image.proofs.values.row_values_at.Given as goal

abbrev pub invariant-loop-cell : goal.invariant-loop-cell
invariant-loop-cell l = (with_front l.values (each column_value_at next_columns l.left (into_iter_items l.cell-iterator) l.rest) ≡ row_values_at l.fn.columns l.fn.row l.fn.bytes)
    × (into_iter_len l.cell-iterator ≡ length (into_iter_items l.cell-iterator))
