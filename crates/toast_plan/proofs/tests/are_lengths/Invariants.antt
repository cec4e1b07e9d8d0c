use Rattle.std.proofs.Common.{drop}
use Rattle.toast_plan.specs.Columns.{AreLengths}
use Rattle.toast_plan.proofs.tests.are_lengths.Given as goal

abbrev pub invariant-loop-place : goal.invariant-loop-place
invariant-loop-place l = AreLengths (drop l.place l.columns) (drop l.place l.lengths) → AreLengths l.columns l.lengths
