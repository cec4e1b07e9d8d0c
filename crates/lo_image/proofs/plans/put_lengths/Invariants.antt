use Rattle.std.proofs.Common.{◌≡◌, length, take}
use Rattle.toast_plan.specs.Reading.{cell_lengths}
use Rattle.lo_image.proofs.plans.put_lengths.Given as goal

abbrev pub invariant-loop-index : goal.invariant-loop-index
invariant-loop-index l = record {
  room : length l.lengths ≡ length l.cells;
  front : take l.index l.lengths ≡ cell_lengths (take l.index l.cells);
}
