use Rattle.std.proofs.Common.{length}
use Rattle.expanded_array.proofs.expanded.+presence_byte.Given as goal

abbrev pub decreases-presence_byte : goal.decreases-presence_byte
decreases-presence_byte l = length l.elements.now
