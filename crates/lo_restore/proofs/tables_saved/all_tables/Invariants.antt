use Rattle.lo_restore.proofs.NamesSaved.{TablesRead}
use Rattle.lo_restore.proofs.tables_saved.all_tables.Given as goal

abbrev pub invariant-loop-k : goal.invariant-loop-k
invariant-loop-k l = TablesRead l.core.xacts l.tables l.snap l.k l.list
