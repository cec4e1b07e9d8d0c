use Rattle.std.proofs.Common.{◌≡◌}
use Rattle.row_tables.proofs.OthersOpen.{open_from}
use Rattle.row_tables.proofs.tables.other_open.Given as goal

abbrev pub invariant-loop-number : goal.invariant-loop-number
invariant-loop-number l = open_from l.core.xacts l.s l.number ≡ open_from l.core.xacts l.s 1
