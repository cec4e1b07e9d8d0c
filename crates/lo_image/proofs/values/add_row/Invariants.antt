use Rattle.std.proofs.Common.{◌≡◌, ◌+◌, ◌-◌, ◌^◌, ◌≤◌, min, drop}
use Rattle.lo_image.specs.Reading.{chunks_in_row}
use Rattle.lo_image.proofs.values.add_row.Given as goal

abbrev pub invariant-loop-cell : goal.invariant-loop-cell
invariant-loop-cell l = (min (l.sum + chunks_in_row (drop l.cell-index l.row)) (2 ^ 128 - 1) ≡ min (l.fn.total + chunks_in_row l.row) (2 ^ 128 - 1)) × (l.sum ≤ 2 ^ 128 - 1)
