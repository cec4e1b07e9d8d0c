use Rattle.std.proofs.Common.{◌≡◌, ◌-◌, ◌++◌, ◌∷◌}
use Rattle.lo_restore.specs.Tries.{long_row, pair_rows}
use Rattle.lo_restore.proofs.tests.tables.long_rows.Given as goal

abbrev pub invariant-loop-id : goal.invariant-loop-id
invariant-loop-id l = l.rows ++ pair_rows l.id (301 - l.id) ≡ long_row ∷ pair_rows 1 300
