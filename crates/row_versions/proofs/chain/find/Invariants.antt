use Rattle.std.proofs.Common.{◌≡◌, ◌≤◌, length, take}
use Rattle.row_versions.specs.Chain.{versions_of}
use Rattle.row_versions.specs.Found.{finds}
use Rattle.row_versions.proofs.chain.find.Given as goal

abbrev pub invariant-loop-i : goal.invariant-loop-i
invariant-loop-i g l = (l.i ≤ length l.entries) × (finds l.core l.snap (versions_of (take l.i l.entries)) ≡ finds l.core l.snap (versions_of l.entries))

abbrev pub decreases-loop-i : goal.decreases-loop-i
decreases-loop-i g l = l.i
