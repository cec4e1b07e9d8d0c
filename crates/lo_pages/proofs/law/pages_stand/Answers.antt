use Rattle.lo_pages.proofs.Standing.{stand_released, stand_undone, stand_aborted, stand_committed, stand_ticked, stand_opened, stand_held, stand_put, stand_deleted}
use Rattle.lo_pages.proofs.law.pages_stand.Goals as goal

pub returns-clause-released : goal.returns-clause-released
returns-clause-released c = stand_released

pub returns-clause-undone : goal.returns-clause-undone
returns-clause-undone c = stand_undone

pub returns-clause-aborted : goal.returns-clause-aborted
returns-clause-aborted c = stand_aborted

pub returns-clause-committed : goal.returns-clause-committed
returns-clause-committed c = stand_committed

pub returns-clause-ticked : goal.returns-clause-ticked
returns-clause-ticked c = stand_ticked

pub returns-clause-opened : goal.returns-clause-opened
returns-clause-opened c = stand_opened

pub returns-clause-held : goal.returns-clause-held
returns-clause-held c = stand_held

pub returns-clause-put : goal.returns-clause-put
returns-clause-put c = stand_put

pub returns-clause-deleted : goal.returns-clause-deleted
returns-clause-deleted c = stand_deleted
