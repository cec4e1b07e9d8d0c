use Rattle.std.proofs.Common.{◌≡◌, drop}
use Rattle.lo_opening.specs.Opening.{has_tail}
use Rattle.lo_opening.proofs.opening.ObjectData.has_tail.Given as goal

abbrev pub invariant-loop-block : goal.invariant-loop-block
invariant-loop-block l = has_tail l.self.size l.end (drop l.block-index l.self.stored) ≡ has_tail l.self.size 0 l.self.stored
