use Rattle.std.proofs.Common.{◌≡◌}
use Rattle.row_versions.proofs.Chaining.{cleared_first}
use Rattle.row_versions.proofs.chain.clear.Given as goal

abbrev pub invariant-loop-i : goal.invariant-loop-i
invariant-loop-i g l = l.entries.items ≡ cleared_first l.i l.fn.entries.items
