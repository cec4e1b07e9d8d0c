use Rattle.std.proofs.Common.{◌∙◌, ap, map}
use Rattle.std.specs.Prelude.{filter}
use Rattle.xact_core.specs.Kept.{kept_views}
use Rattle.row_versions.specs.Chain.{version_of, is_needed, marked_by, unmarked}
use Rattle.row_versions.proofs.Chaining.{reclaims}
use Rattle.row_versions.proofs.chain.reclaim.Goals as goal

pub returns : goal.returns
returns g c =
    ap (map version_of) c.sweep.ensures
    ∙ (ap (λ es. map version_of (filter is_needed es)) c.trim.ensures
    ∙ (ap (λ es. map version_of (filter is_needed (unmarked c.args.core.now es))) c.mark_all.ensures
    ∙ (ap (λ es. map version_of (filter is_needed (unmarked c.args.core.now (marked_by c.args.core.now (kept_views c.args.core.now) es)))) c.clear.ensures
    ∙ reclaims c.args.core.now c.args.entries.now.items)))
