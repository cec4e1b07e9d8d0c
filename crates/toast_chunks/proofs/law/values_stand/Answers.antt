use Rattle.toast_chunks.proofs.Standing.{stand_released, stand_undone, stand_aborted, stand_committed, stand_ticked, stand_opened, stand_held, stand_stored, stand_erased, stand_kept, stand_others, stand_vacuumed, stand_restored}
use Rattle.toast_chunks.proofs.law.values_stand.Goals as goal

pub returns-clause-released : goal.returns-clause-released
returns-clause-released g c gives s k old new chunks value ys = stand_released gives chunks value ys s k old new

pub returns-clause-undone : goal.returns-clause-undone
returns-clause-undone g c gives s k old new chunks value ys = stand_undone gives chunks value ys s k old new

pub returns-clause-aborted : goal.returns-clause-aborted
returns-clause-aborted g c gives s old new chunks value ys = stand_aborted gives chunks value ys s old new

pub returns-clause-committed : goal.returns-clause-committed
returns-clause-committed g c gives s old new chunks value ys = stand_committed gives chunks value ys s old new

pub returns-clause-ticked : goal.returns-clause-ticked
returns-clause-ticked g c gives old new chunks value ys = stand_ticked gives chunks value ys old new

pub returns-clause-opened : goal.returns-clause-opened
returns-clause-opened g c gives s name old new chunks value ys = stand_opened gives chunks value ys s name old new

pub returns-clause-held : goal.returns-clause-held
returns-clause-held g c gives old new chunks value ys = stand_held gives chunks value ys old new

pub returns-clause-stored : goal.returns-clause-stored
returns-clause-stored g c gives x s bytes old new value ys deed one some whole free stack none is stores = stand_stored gives x s one some whole ys free deed bytes old new value stack none is stores

pub returns-clause-erased : goal.returns-clause-erased
returns-clause-erased g c gives x s bytes old new value ys deed one some whole free has is erases stand = stand_erased gives x s one some whole ys free deed bytes old new value has is erases stand

pub returns-clause-kept : goal.returns-clause-kept
returns-clause-kept g c gives x s chunks value ys deed one some whole free is stand = stand_kept gives x s one some whole ys free deed chunks value is stand

pub returns-clause-others : goal.returns-clause-others
returns-clause-others g c gives x old new value ys same stand = stand_others gives x old new value ys same stand

pub returns-clause-vacuumed : goal.returns-clause-vacuumed
returns-clause-vacuumed g c gives x old new value ys vacuums stand = stand_vacuumed gives x old new value ys vacuums stand

pub returns-clause-restored : goal.returns-clause-restored
returns-clause-restored g c gives s old new before after value ys by left go stand = stand_restored gives s old new before after value ys by left go stand
