use Rattle.toast_chunks.proofs.Leaving.{left_unseen, left_gone}
use Rattle.toast_chunks.proofs.Steps.{left_none, left_more}
use Rattle.toast_chunks.proofs.law.versions_left.Goals as goal

pub returns-clause-unseen : goal.returns-clause-unseen
returns-clause-unseen c = left_unseen

pub returns-clause-gone : goal.returns-clause-gone
returns-clause-gone c = left_gone

pub returns-clause-both : goal.returns-clause-both
returns-clause-both c = left_more

pub returns-clause-same : goal.returns-clause-same
returns-clause-same c = left_none
