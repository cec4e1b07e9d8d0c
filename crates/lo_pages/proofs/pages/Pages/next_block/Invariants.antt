use Rattle.std.proofs.Common.{◌≤◌, ◌-◌}
use Rattle.lo_pages.proofs.Blocks.{NoneTo}
use Rattle.lo_pages.proofs.pages.Pages.next_block.Given as goal

abbrev pub invariant-loop-number : goal.invariant-loop-number
invariant-loop-number l = (l.fn.from ≤ l.from) × NoneTo l.core.xacts l.snap l.self l.oid l.fn.from l.from

abbrev pub decreases-loop-number : goal.decreases-loop-number
decreases-loop-number l = 4294967296 - l.from
