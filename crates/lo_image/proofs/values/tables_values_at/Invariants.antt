use Rattle.std.proofs.Common.{◌≡◌, length}
use Rattle.std.specs.Vec.Iter.{into_iter_items, into_iter_len}
use Rattle.lo_image.specs.Readers.{with_front, each}
use Rattle.lo_image.specs.Reading.{table_values_at, no_state, tables_values_at}
use Rattle.lo_image.proofs.values.tables_values_at.Given as goal

abbrev pub invariant-loop-table : goal.invariant-loop-table
invariant-loop-table l = (with_front l.filled (each table_values_at no_state 0 (into_iter_items l.table-iterator) l.rest) ≡ tables_values_at l.fn.tables l.fn.bytes)
    × (into_iter_len l.table-iterator ≡ length (into_iter_items l.table-iterator))
