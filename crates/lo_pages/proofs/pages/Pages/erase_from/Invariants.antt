use Rattle.std.proofs.Common.{◌≤◌, ◌-◌}
use Rattle.lo_pages.specs.Steps.{Erasing}
use Rattle.lo_pages.proofs.pages.Pages.erase_from.Given as goal

abbrev pub invariant-loop-number : goal.invariant-loop-number
invariant-loop-number l = (l.first ≤ l.from) × Erasing l.core.xacts l.s l.oid l.first l.from l.fn.self l.self

abbrev pub decreases-loop-number : goal.decreases-loop-number
decreases-loop-number l = 4294967296 - l.from
