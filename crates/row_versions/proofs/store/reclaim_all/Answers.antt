use Rattle.row_versions.specs.Store.{versions_in}
use Rattle.row_versions.proofs.Storing.{keys_told, key_told, full_next}
use Rattle.row_versions.proofs.store.reclaim_all.Goals as goal

pub loop-key-preserved : goal.loop-key-preserved
loop-key-preserved g c = (
  keys_told (λ key. key.now) c.loop-key.yielded c.in-Some.key c.args.keys.now.keys c.next.new.self c.loop-key.key-iterator c.loop-key.invariant.0 c.in-Some.ensures.steps,
  key_told g.K.Ord.cmp g.met.K.Ord.total g.met.K.Key.exact c.args.core.now (λ key. key.now) c.loop-key.yielded c.in-Some.key (versions_in g.K.Ord.cmp c.args.chains.now) (versions_in g.K.Ord.cmp c.loop-key.chains) (versions_in g.K.Ord.cmp c.reclaim_key.new.chains) c.loop-key.invariant.1 c.reclaim_key.ensures.here c.reclaim_key.ensures.others,
  λ was. full_next g.K.Ord.cmp g.met.K.Ord.total g.met.K.Key.exact c.in-Some.key.now c.loop-key.chains c.reclaim_key.new.chains c.reclaim_key.ensures.full c.reclaim_key.ensures.full_others (c.loop-key.invariant.2 was),
)
