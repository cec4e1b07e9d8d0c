use Rattle.std.proofs.Common.{◌≡◌, drop}
use Rattle.xact_core.specs.Kept.{kept_views}
use Rattle.row_versions.specs.Chain.{marked_by}
use Rattle.row_versions.proofs.chain.mark_all.Given as goal

abbrev pub invariant-loop-k : goal.invariant-loop-k
invariant-loop-k g l = marked_by l.core (drop l.k (kept_views l.core)) l.entries.items ≡ marked_by l.core (kept_views l.core) l.fn.entries.items
