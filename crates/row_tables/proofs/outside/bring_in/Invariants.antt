use Rattle.std.proofs.Common.{take}
use Rattle.row_tables.proofs.Bringing.{BroughtTo}
use Rattle.row_tables.proofs.outside.bring_in.Given as goal

abbrev pub invariant-loop-place : goal.invariant-loop-place
invariant-loop-place l = BroughtTo l.core.xacts l.snap l.chunks (take l.place l.outside) l.fn.row.items l.row.items
