use Rattle.row_versions.proofs.Laws.{restored}
use Rattle.toast_chunks.proofs.Leaving.{left_unseen, left_gone}
use Rattle.row_tables.specs.Standing.{versions_of}
use Rattle.row_tables.proofs.Leaving.{cells_unseen, left_undone, left_aborted, left_goes}
use Rattle.row_tables.proofs.law.versions_left.Goals as goal

pub returns-clause-unseen : goal.returns-clause-unseen
returns-clause-unseen c = cells_unseen

pub returns-clause-values : goal.returns-clause-values
returns-clause-values c x s old new v value bytes left unseen has = left_unseen x s old.chunks new.chunks v value bytes left.chunks unseen has

pub returns-clause-undone : goal.returns-clause-undone
returns-clause-undone c = left_undone

pub returns-clause-aborted : goal.returns-clause-aborted
returns-clause-aborted c = left_aborted

pub returns-clause-goes : goal.returns-clause-goes
returns-clause-goes c = left_goes

pub returns-clause-gone : goal.returns-clause-gone
returns-clause-gone c s old new before after by left key = restored s old new (versions_of before key) (versions_of after key) by.ends.owners (left.rows key)

pub returns-clause-chunks : goal.returns-clause-chunks
returns-clause-chunks c s old new before after by left = left_gone s old new before.chunks after.chunks by left.chunks
