use Rattle.lo_pages.proofs.Standing.{go_released, go_undone, go_aborted, go_committed, go_ticked, go_opened, go_held}
use Rattle.lo_pages.proofs.law.pages_go.Goals as goal

pub returns-clause-released : goal.returns-clause-released
returns-clause-released c = go_released

pub returns-clause-undone : goal.returns-clause-undone
returns-clause-undone c = go_undone

pub returns-clause-aborted : goal.returns-clause-aborted
returns-clause-aborted c = go_aborted

pub returns-clause-committed : goal.returns-clause-committed
returns-clause-committed c = go_committed

pub returns-clause-ticked : goal.returns-clause-ticked
returns-clause-ticked c = go_ticked

pub returns-clause-opened : goal.returns-clause-opened
returns-clause-opened c = go_opened

pub returns-clause-held : goal.returns-clause-held
returns-clause-held c = go_held
