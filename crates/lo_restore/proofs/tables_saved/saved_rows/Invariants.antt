use Rattle.std.proofs.Common.{drop}
use Rattle.lo_restore.proofs.RowsSaved.{RowsRead}
use Rattle.lo_restore.proofs.tables_saved.saved_rows.Given as goal

abbrev pub invariant-loop-id : goal.invariant-loop-id
invariant-loop-id l = RowsRead l.core.xacts l.tables l.snap l.name l.id-items (drop l.id-index l.id-items) l.rows
