use Rattle.std.proofs.Common.{◌≡◌, ◌++◌, length, take, drop}
use Rattle.row_versions.specs.Chain.{unmarked}
use Rattle.row_versions.proofs.chain.trim.Given as goal

abbrev pub invariant-loop-i : goal.invariant-loop-i
invariant-loop-i g l = (take l.i l.entries.items ++ unmarked l.core (drop l.i l.entries.items) ≡ unmarked l.core l.fn.entries.items) × (length l.entries.items ≡ length l.fn.entries.items)
