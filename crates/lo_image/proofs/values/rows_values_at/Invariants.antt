use Rattle.std.proofs.Common.{◌≡◌, length}
use Rattle.std.specs.Vec.Iter.{into_iter_items, into_iter_len}
use Rattle.lo_image.specs.Readers.{with_front, each}
use Rattle.lo_image.specs.Reading.{row_values_at, same_columns, rows_values_at}
use Rattle.lo_image.proofs.values.rows_values_at.Given as goal

abbrev pub invariant-loop-row : goal.invariant-loop-row
invariant-loop-row l = (with_front l.filled (each row_values_at same_columns l.columns (into_iter_items l.row-iterator) l.rest) ≡ rows_values_at l.fn.columns l.fn.rows l.fn.bytes)
    × (into_iter_len l.row-iterator ≡ length (into_iter_items l.row-iterator))
