use Rattle.std.proofs.Common.{◌≡◌, ◌+◌, ◌-◌, ◌^◌, ◌≤◌, min, drop}
use Rattle.lo_image.specs.Reading.{chunks_in_tables}
use Rattle.lo_image.proofs.values.chunks_in_tables.Given as goal

abbrev pub invariant-loop-table : goal.invariant-loop-table
invariant-loop-table l = (min (l.sum + chunks_in_tables (drop l.table-index l.tables)) (2 ^ 128 - 1) ≡ min (chunks_in_tables l.tables) (2 ^ 128 - 1)) × (l.sum ≤ 2 ^ 128 - 1)
