use Rattle.lo_pages.proofs.Standing.{closed}
use Rattle.lo_pages.proofs.law.edits_closed.Goals as goal

pub returns : goal.returns
returns c = record { closed = closed }
