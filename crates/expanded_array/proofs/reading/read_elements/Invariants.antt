use Rattle.std.proofs.Common.{length}
use Rattle.expanded_array.specs.Spelling.{HasRead}
use Rattle.expanded_array.proofs.reading.read_elements.Given as goal

abbrev pub invariant-loop-element : goal.invariant-loop-element
invariant-loop-element l = HasRead l.body l.rest l.elements.items

abbrev pub decreases-loop-element : goal.decreases-loop-element
decreases-loop-element l = length l.rest
