use Rattle.std.proofs.Common.{drop}
use Rattle.lo_machine.proofs.ScannedRows.{Scanning}
use Rattle.lo_machine.proofs.scanning.numbers_in_rows.Given as goal

abbrev pub invariant-loop-id : goal.invariant-loop-id
invariant-loop-id l = Scanning l.core.xacts l.tables l.snap l.table l.columns l.column l.ids (drop l.id-index l.ids) l.found
