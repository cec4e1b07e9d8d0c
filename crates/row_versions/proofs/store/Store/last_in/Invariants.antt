use Rattle.std.proofs.Common.{◌≡◌, None}
use Rattle.std.specs.BTreeMap.Range.{entries_between}
use Rattle.std.specs.declared.ops.Bound.TheVariants.{Included}
use Rattle.row_versions.proofs.Ranges.{last_key}
use Rattle.row_versions.proofs.Searched.{has_found}
use Rattle.row_versions.proofs.store.Store.last_in.Given as goal

abbrev pub invariant-loop-key : goal.invariant-loop-key
invariant-loop-key g l = last_key (has_found l.core.xacts l.snap) None l.key-iterator.iter ≡ last_key (has_found l.core.xacts l.snap) None (entries_between g.K.Ord.cmp (Included l.from) (Included l.to) l.self.chains.entries)
