use Rattle.std.proofs.Common.{◌≡◌, None}
use Rattle.std.specs.BTreeMap.Range.{entries_between}
use Rattle.std.specs.declared.ops.Bound.TheVariants.{Included}
use Rattle.row_versions.specs.Chain.{versions_of}
use Rattle.row_versions.specs.Stack.{Each, IsStack}
use Rattle.row_versions.specs.Stands.{standing}
use Rattle.row_versions.proofs.Ranges.{lowest_of}
use Rattle.row_versions.proofs.Searched.{Chain, busy_of}
use Rattle.row_versions.proofs.store.Store.busy_in.Given as goal

abbrev pub invariant-loop-key : goal.invariant-loop-key
invariant-loop-key g l =
    (lowest_of (busy_of l.core.xacts l.s) l.lowest l._key-iterator ≡ lowest_of (busy_of l.core.xacts l.s) None (entries_between g.K.Ord.cmp (Included l.from) (Included l.to) l.self.chains.entries))
    × Each (λ (e : g.row.K.Denot × Chain g.row.D.Denot). IsStack l.core.xacts (standing l.core.xacts (versions_of e.1.items))) l._key-iterator
