use Rattle.lo_machine.proofs.ScannedRows.{Seeking}
use Rattle.lo_machine.proofs.scanning.number_under.Given as goal

abbrev pub invariant-loop-place : goal.invariant-loop-place
invariant-loop-place l = Seeking l.name l.columns l.place
