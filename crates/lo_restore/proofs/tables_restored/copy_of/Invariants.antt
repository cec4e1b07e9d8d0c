use Rattle.std.specs.Prelude.{◌≡◌, ◌++◌, drop}
use Rattle.lo_restore.proofs.tables_restored.copy_of.Given as goal

abbrev pub invariant-loop-column : goal.invariant-loop-column
invariant-loop-column l = l.copy ++ drop l.column-index l.columns ≡ l.columns
