use Rattle.lo_pages.proofs.Standing.{left_unseen, left_undone, left_aborted, left_gone}
use Rattle.lo_pages.proofs.Steps.{left_none, left_more}
use Rattle.lo_pages.proofs.law.versions_left.Goals as goal

pub returns-clause-unseen : goal.returns-clause-unseen
returns-clause-unseen c = left_unseen

pub returns-clause-undone : goal.returns-clause-undone
returns-clause-undone c = left_undone

pub returns-clause-aborted : goal.returns-clause-aborted
returns-clause-aborted c = left_aborted

pub returns-clause-gone : goal.returns-clause-gone
returns-clause-gone c = left_gone

pub returns-clause-both : goal.returns-clause-both
returns-clause-both c = left_more

pub returns-clause-same : goal.returns-clause-same
returns-clause-same c = left_none
