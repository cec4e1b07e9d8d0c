use Rattle.lo_pages.proofs.HeldPages.{counted, only_these}
use Rattle.lo_pages.proofs.law.held_pages.Goals as goal

pub returns-clause-counted : goal.returns-clause-counted
returns-clause-counted c = counted

pub returns-clause-only : goal.returns-clause-only
returns-clause-only c = only_these
