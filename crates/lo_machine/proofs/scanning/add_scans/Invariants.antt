use Rattle.std.specs.Prelude.{◌≡◌, ◌++◌, drop}
use Rattle.lo_machine.specs.SweepRows.{scans_of_table}
use Rattle.lo_machine.proofs.scanning.add_scans.Given as goal

abbrev pub invariant-loop-column : goal.invariant-loop-column
invariant-loop-column l = l.scans ++ scans_of_table (record { name = l.table; columns = drop l.column-index l.columns }) ≡ l.initial.scans ++ scans_of_table (record { name = l.table; columns = l.columns })
