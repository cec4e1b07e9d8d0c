use Rattle.std.proofs.Common.{◌≡◌, ℕ, take}
use Rattle.row_tables.specs.Cells.{Told, whole_row}
use Rattle.row_tables.specs.Outside.{HasOutside}
use Rattle.row_tables.proofs.outside.whole_row.Given as goal

abbrev pub invariant-loop-cell : goal.invariant-loop-cell
invariant-loop-cell l = (told : ℕ → Told) → HasOutside told l.core.xacts l.snap l.chunks l.row → l.whole.items ≡ whole_row told (take l.cell-index l.row)
