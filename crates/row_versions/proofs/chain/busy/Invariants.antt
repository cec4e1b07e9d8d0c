use Rattle.std.proofs.Common.{◌≡◌, ◌≤◌, length, take}
use Rattle.row_versions.specs.Chain.{versions_of}
use Rattle.row_versions.specs.Stands.{standing}
use Rattle.row_versions.proofs.chain.busy.Given as goal

abbrev pub invariant-loop-i : goal.invariant-loop-i
invariant-loop-i g l = (l.i ≤ length l.entries) × (standing l.core (versions_of (take l.i l.entries)) ≡ standing l.core (versions_of l.entries))

abbrev pub decreases-loop-i : goal.decreases-loop-i
decreases-loop-i g l = l.i
