use Rattle.row_tables.proofs.Turning.{for_released, for_undone, for_aborted, for_committed}
use Rattle.row_tables.proofs.Resting.{for_ticked, for_opened, for_held, for_objects, for_same}
use Rattle.row_tables.proofs.law.tables_stand.Goals as goal

pub returns-clause-released : goal.returns-clause-released
returns-clause-released c s k old new tables ys = for_released tables ys s k old new

pub returns-clause-undone : goal.returns-clause-undone
returns-clause-undone c s k old new tables ys = for_undone tables ys s k old new

pub returns-clause-aborted : goal.returns-clause-aborted
returns-clause-aborted c s old new tables ys = for_aborted tables ys s old new

pub returns-clause-committed : goal.returns-clause-committed
returns-clause-committed c s old new tables ys = for_committed tables ys s old new

pub returns-clause-ticked : goal.returns-clause-ticked
returns-clause-ticked c old new tables ys = for_ticked tables old new ys

pub returns-clause-opened : goal.returns-clause-opened
returns-clause-opened c s name old new tables ys = for_opened tables old new s name ys

pub returns-clause-held : goal.returns-clause-held
returns-clause-held c old new tables ys = for_held tables old new ys

pub returns-clause-objects : goal.returns-clause-objects
returns-clause-objects c = for_objects

pub returns-clause-same : goal.returns-clause-same
returns-clause-same c x old new ys same = for_same x old new same ys
