use Rattle.std.proofs.Common.{drop}
use Rattle.toast_plan.specs.Row.{FitColumns}
use Rattle.row_tables.proofs.bench.fit_columns.Given as goal

abbrev pub invariant-loop-place : goal.invariant-loop-place
invariant-loop-place l = FitColumns (drop l.place l.columns) (drop l.place l.values) → FitColumns l.columns l.values
