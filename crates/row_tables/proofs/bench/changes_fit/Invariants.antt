use Rattle.std.proofs.Common.{drop}
use Rattle.row_tables.specs.Calls.{ChangesFit}
use Rattle.row_tables.proofs.bench.changes_fit.Given as goal

abbrev pub invariant-loop-column : goal.invariant-loop-column
invariant-loop-column l = ChangesFit l.changes (drop l.column-index l.columns) → ChangesFit l.changes l.columns
