use Rattle.std.proofs.Common.{◌≡◌, take}
use Rattle.row_tables.proofs.Moving.{MovingTo}
use Rattle.row_tables.proofs.outside.move_out.Given as goal

abbrev pub invariant-loop-place : goal.invariant-loop-place
invariant-loop-place l = record {
  core : l.core ≡ l.fn.core;
  moving : MovingTo l.fn.core.xacts l.s (take l.place l.outside) l.fn.row.items l.row.items l.fn.chunks l.chunks;
}
