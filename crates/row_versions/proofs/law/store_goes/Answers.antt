use Rattle.row_versions.proofs.Going.{goes_released, goes_undone, goes_committed, goes_aborted, goes_ticks, goes_opened, goes_holds}
use Rattle.row_versions.proofs.law.store_goes.Goals as goal

pub returns-clause-released : goal.returns-clause-released
returns-clause-released g c = goes_released g.K.Ord.cmp g.met.K.Ord.total g.met.K.Key.exact

pub returns-clause-undone : goal.returns-clause-undone
returns-clause-undone g c = goes_undone g.K.Ord.cmp g.met.K.Ord.total g.met.K.Key.exact

pub returns-clause-committed : goal.returns-clause-committed
returns-clause-committed g c = goes_committed g.K.Ord.cmp g.met.K.Ord.total g.met.K.Key.exact

pub returns-clause-aborted : goal.returns-clause-aborted
returns-clause-aborted g c = goes_aborted g.K.Ord.cmp g.met.K.Ord.total g.met.K.Key.exact

pub returns-clause-ticked : goal.returns-clause-ticked
returns-clause-ticked g c = goes_ticks g.K.Ord.cmp g.met.K.Ord.total g.met.K.Key.exact

pub returns-clause-opened : goal.returns-clause-opened
returns-clause-opened g c s name old new store by = goes_opened g.K.Ord.cmp g.met.K.Ord.total g.met.K.Key.exact s name old new store by.levels.low by

pub returns-clause-held : goal.returns-clause-held
returns-clause-held g c = goes_holds g.K.Ord.cmp g.met.K.Ord.total g.met.K.Key.exact
