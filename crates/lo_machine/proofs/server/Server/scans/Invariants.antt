use Rattle.row_tables.specs.Standing.{tables_in}
use Rattle.lo_machine.proofs.ScannedTables.{Scanned}
use Rattle.lo_machine.proofs.server.Server.scans.Given as goal

abbrev pub invariant-loop-k : goal.invariant-loop-k
invariant-loop-k l = Scanned (tables_in l.self.tables) l.k l.scans
