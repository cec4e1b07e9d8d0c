use Rattle.std.proofs.Common.{◌↔◌, map, drop}
use Rattle.lo_base.specs.declared.column.Column.{Column}
use Rattle.toast_plan.specs.Columns.{AreDistinct}
use Rattle.toast_plan.proofs.columns.are_distinct.Given as goal

abbrev pub invariant-loop-place : goal.invariant-loop-place
invariant-loop-place l = AreDistinct (map (λ (c : Column). c.name) (drop l.place l.columns)) ↔ AreDistinct (map (λ (c : Column). c.name) l.columns)
