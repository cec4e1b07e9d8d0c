use Rattle.std.proofs.Common.{◌≡◌, length, take}
use Rattle.toast_plan.specs.Reading.{cell_lengths}
use Rattle.toast_plan.proofs.reading.put_lengths.Given as goal

abbrev pub invariant-loop-place : goal.invariant-loop-place
invariant-loop-place l = record {
  room : length l.lengths ≡ length l.cells;
  front : take l.place l.lengths ≡ cell_lengths (take l.place l.cells);
}
