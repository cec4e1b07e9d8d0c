use Rattle.std.proofs.Common.{◌≡◌, length}
use Rattle.std.specs.Vec.Iter.{into_iter_items, into_iter_len}
use Rattle.lo_machine.proofs.ArraySought.{Seeks}
use Rattle.lo_machine.proofs.cells.array_of.Given as goal

abbrev pub invariant-loop-cell : goal.invariant-loop-cell
invariant-loop-cell l = Seeks l.name l.fn.columns l.fn.row l.left (into_iter_items l.cell-iterator)
    × (into_iter_len l.cell-iterator ≡ length (into_iter_items l.cell-iterator))
