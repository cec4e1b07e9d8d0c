use Rattle.std.proofs.Common.{◌≡◌, length, take}
use Rattle.row_tables.specs.Cells.{cell_lengths}
use Rattle.row_tables.proofs.cells.put_lengths.Given as goal

abbrev pub invariant-loop-index : goal.invariant-loop-index
invariant-loop-index l = record {
  room : length l.lengths ≡ length l.row;
  front : take l.index l.lengths ≡ cell_lengths (take l.index l.row);
}
