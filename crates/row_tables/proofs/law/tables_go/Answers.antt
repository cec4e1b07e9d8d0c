use Rattle.row_tables.proofs.Laws.{with_released, with_undone, with_aborted, with_committed, with_ticked, with_opened, with_held}
use Rattle.row_tables.proofs.Resting.{goes_same}
use Rattle.row_tables.proofs.law.tables_go.Goals as goal

pub returns-clause-released : goal.returns-clause-released
returns-clause-released c s k old new tables = with_released tables s k old new

pub returns-clause-undone : goal.returns-clause-undone
returns-clause-undone c s k old new tables = with_undone tables s k old new

pub returns-clause-aborted : goal.returns-clause-aborted
returns-clause-aborted c s old new tables = with_aborted tables s old new

pub returns-clause-committed : goal.returns-clause-committed
returns-clause-committed c s old new tables = with_committed tables s old new

pub returns-clause-ticked : goal.returns-clause-ticked
returns-clause-ticked c old new tables = with_ticked tables old new

pub returns-clause-opened : goal.returns-clause-opened
returns-clause-opened c s name old new tables = with_opened tables s name old new

pub returns-clause-held : goal.returns-clause-held
returns-clause-held c old new tables = with_held tables old new

pub returns-clause-same : goal.returns-clause-same
returns-clause-same c x old new same = goes_same x old new same
