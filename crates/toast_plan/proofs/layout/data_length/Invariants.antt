use Rattle.std.proofs.Common.{◌≡◌, ◌*◌, ◌^◌, ◌≤◌, drop}
use Rattle.toast_plan.specs.Layout.{data_end, data_length}
use Rattle.toast_plan.proofs.layout.data_length.Given as goal

abbrev pub invariant-loop-place : goal.invariant-loop-place
invariant-loop-place l = record {
  rest : data_end l.at (drop l.place l.columns) (drop l.place l.lengths) (drop l.place l.outside) ≡ data_length l.columns l.lengths l.outside;
  bound : l.at ≤ l.place * 2 ^ 25;
}
