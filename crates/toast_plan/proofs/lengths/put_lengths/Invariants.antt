use Rattle.std.proofs.Common.{◌≡◌, length, take}
use Rattle.toast_plan.specs.Row.{value_lengths}
use Rattle.toast_plan.proofs.lengths.put_lengths.Given as goal

abbrev pub invariant-loop-index : goal.invariant-loop-index
invariant-loop-index l = record {
  room : length l.lengths ≡ length l.values;
  front : take l.index l.lengths ≡ value_lengths (take l.index l.values);
}
