use Rattle.std.proofs.Common.{◌≡◌, ◌+◌, ◌-◌, ◌^◌, ◌≤◌, min, drop}
use Rattle.lo_image.specs.Reading.{chunks_in_rows}
use Rattle.lo_image.proofs.values.add_rows.Given as goal

abbrev pub invariant-loop-row : goal.invariant-loop-row
invariant-loop-row l = (min (l.sum + chunks_in_rows (drop l.row-index l.rows)) (2 ^ 128 - 1) ≡ min (l.fn.total + chunks_in_rows l.rows) (2 ^ 128 - 1)) × (l.sum ≤ 2 ^ 128 - 1)
