use Rattle.std.proofs.Common.{◌≡◌, ◌++◌, map}
use Rattle.row_versions.specs.Store.{versions_in, HasNoEmpty, VacuumsKeys}
use Rattle.row_versions.proofs.store.reclaim_all.Given as goal

abbrev pub invariant-loop-key : goal.invariant-loop-key
invariant-loop-key g l = (map (λ key. key.now) l.yielded ++ l.key-iterator ≡ l.keys.keys) × VacuumsKeys g.K.Ord.cmp l.core (map (λ key. key.now) l.yielded) (versions_in g.K.Ord.cmp l.fn.chains) (versions_in g.K.Ord.cmp l.chains) × (HasNoEmpty g.K.Ord.cmp l.fn.chains → HasNoEmpty g.K.Ord.cmp l.chains)
