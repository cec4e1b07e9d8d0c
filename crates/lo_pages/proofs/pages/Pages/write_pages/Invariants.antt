use Rattle.std.proofs.Common.{◌≡◌}
use Rattle.lo_pages.specs.Steps.{Writing}
use Rattle.lo_pages.proofs.pages.Pages.write_pages.Given as goal

abbrev pub invariant-loop-number : goal.invariant-loop-number
invariant-loop-number l = (l.core ≡ l.fn.core) × Writing l.core.xacts l.s l.oid l.at l.bytes l.number l.fn.self l.self
