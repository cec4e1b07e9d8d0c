use Rattle.row_versions.proofs.Chaining.{NoneSeen}
use Rattle.row_versions.proofs.chain.mark.Given as goal

abbrev pub invariant-loop-i : goal.invariant-loop-i
invariant-loop-i g l = NoneSeen l.core l.view l.fn.entries.items l.entries.items l.i

abbrev pub decreases-loop-i : goal.decreases-loop-i
decreases-loop-i g l = l.i
