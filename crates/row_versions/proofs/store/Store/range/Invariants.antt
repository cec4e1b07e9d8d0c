use Rattle.std.proofs.Common.{◌≡◌}
use Rattle.std.specs.BTreeMap.Range.{entries_between}
use Rattle.std.specs.declared.ops.Bound.TheVariants.{Included, Unbounded}
use Rattle.row_versions.proofs.Ranges.{first_key}
use Rattle.row_versions.proofs.Searched.{has_found}
use Rattle.row_versions.proofs.store.Store.range.Given as goal

abbrev pub invariant-loop-key : goal.invariant-loop-key
invariant-loop-key g l = first_key (has_found l.core.xacts l.snap) l.key-iterator ≡ first_key (has_found l.core.xacts l.snap) (entries_between g.K.Ord.cmp (Included l.from) Unbounded l.self.chains.entries)
