use Rattle.lo_pages.proofs.More.{view_unseen, others_stay}
use Rattle.lo_pages.proofs.Standing.{reads_as}
use Rattle.lo_pages.proofs.Filling.{end_is}
use Rattle.lo_pages.proofs.law.pages_read.Goals as goal

pub returns-clause-reads : goal.returns-clause-reads
returns-clause-reads c = reads_as

pub returns-clause-unseen : goal.returns-clause-unseen
returns-clause-unseen c = view_unseen

pub returns-clause-others : goal.returns-clause-others
returns-clause-others c = others_stay

pub returns-clause-small : goal.returns-clause-small
returns-clause-small c = end_is
