use Rattle.std.specs.Prelude.{reverse}
use Rattle.row_tables.proofs.IdLists.{ListsPast, steps_from}
use Rattle.row_tables.proofs.tables.Tables.ids_of.Given as goal

abbrev pub invariant-loop-last : goal.invariant-loop-last
invariant-loop-last l = ListsPast l.core.xacts l.snap l.self l.number l.last (reverse l.ids.items)

abbrev pub decreases-loop-last : goal.decreases-loop-last
decreases-loop-last l = steps_from l.last
