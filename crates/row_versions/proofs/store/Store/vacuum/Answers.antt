use Rattle.row_versions.specs.Store.{versions_in, versions_at}
use Rattle.row_versions.proofs.Going.{goes_vacuumed}
use Rattle.row_versions.proofs.Storing.{all_keys, still_listed}
use Rattle.row_versions.proofs.Vacuumed.{vacuumed_finds, vacuumed_open, vacuumed_puts, vacuumed_held}
use Rattle.row_versions.proofs.store.Store.vacuum.Goals as goal

pub returns-clause-versions : goal.returns-clause-versions
returns-clause-versions g c = all_keys g.K.Ord.cmp g.met.K.Ord.total g.met.K.Key.exact c.args.core.now.xacts c.args.self.now.unsettled.keys (versions_in g.K.Ord.cmp c.args.self.now.chains) (versions_in g.K.Ord.cmp c.reclaim_all.new.chains) c.requires.goes.stacks c.requires.goes.listed.settled c.reclaim_all.ensures.vacuums

pub returns-clause-goes : goal.returns-clause-goes
returns-clause-goes g c =
    goes_vacuumed g.K.Ord.cmp g.met.K.Ord.total g.met.K.Key.exact c.args.core.now.xacts c.args.self.now _
    (returns-clause-versions g c)
    (record { settled = still_listed g.K.Ord.cmp g.met.K.Ord.total g.met.K.Key.exact c.args.core.now.xacts c.args.self.now.unsettled.keys c.settle.new.keys.keys (versions_in g.K.Ord.cmp c.args.self.now.chains) (versions_in g.K.Ord.cmp c.reclaim_all.new.chains) c.requires.goes.stacks c.requires.goes.listed.settled c.reclaim_all.ensures.vacuums c.settle.ensures })
    (c.reclaim_all.ensures.full c.requires.goes.full)
    c.requires.goes

pub returns-clause-finds : goal.returns-clause-finds
returns-clause-finds g c key v kept = vacuumed_finds c.args.core.now.xacts (versions_at g.K.Ord.cmp c.args.self.now key) (versions_in g.K.Ord.cmp c.reclaim_all.new.chains key) (returns-clause-versions g c key) v kept

pub returns-clause-open : goal.returns-clause-open
returns-clause-open g c key viewer = vacuumed_open c.args.core.now.xacts (versions_at g.K.Ord.cmp c.args.self.now key) (versions_in g.K.Ord.cmp c.reclaim_all.new.chains key) (returns-clause-versions g c key) (c.requires.goes.stacks key) viewer

pub returns-clause-puts : goal.returns-clause-puts
returns-clause-puts g c key = vacuumed_puts c.args.core.now.xacts (versions_at g.K.Ord.cmp c.args.self.now key) (versions_in g.K.Ord.cmp c.reclaim_all.new.chains key) (returns-clause-versions g c key)

pub returns-clause-held : goal.returns-clause-held
returns-clause-held g c key one = vacuumed_held c.args.core.now.xacts (versions_at g.K.Ord.cmp c.args.self.now key) (versions_in g.K.Ord.cmp c.reclaim_all.new.chains key) (returns-clause-versions g c key) one
