use Rattle.toast_chunks.proofs.Leaving.{go_released, go_undone, go_aborted, go_committed, go_ticked, go_opened, go_held}
use Rattle.toast_chunks.proofs.law.chunks_go.Goals as goal

pub returns-clause-released : goal.returns-clause-released
returns-clause-released c s k old new chunks = go_released chunks s k old new

pub returns-clause-undone : goal.returns-clause-undone
returns-clause-undone c s k old new chunks = go_undone chunks s k old new

pub returns-clause-aborted : goal.returns-clause-aborted
returns-clause-aborted c s old new chunks = go_aborted chunks s old new

pub returns-clause-committed : goal.returns-clause-committed
returns-clause-committed c s old new chunks = go_committed chunks s old new

pub returns-clause-ticked : goal.returns-clause-ticked
returns-clause-ticked c old new chunks = go_ticked chunks old new

pub returns-clause-opened : goal.returns-clause-opened
returns-clause-opened c s name old new chunks = go_opened chunks s name old new

pub returns-clause-held : goal.returns-clause-held
returns-clause-held c old new chunks = go_held chunks old new
