use Rattle.std.proofs.Common.{take}
use Rattle.row_tables.proofs.Erasing.{ErasingTo}
use Rattle.row_tables.proofs.outside.erase_all.Given as goal

abbrev pub invariant-loop-number : goal.invariant-loop-number
invariant-loop-number l = ErasingTo l.core.xacts l.s (take l.number-index l.numbers) l.fn.chunks l.chunks
