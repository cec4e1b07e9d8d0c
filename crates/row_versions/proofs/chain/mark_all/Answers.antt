use Rattle.row_versions.specs.Chain.{marked_by}
use Rattle.xact_core.specs.Kept.{kept_views}
use Rattle.row_versions.proofs.Chaining.{view_step}
use Rattle.row_versions.proofs.chain.mark_all.Goals as goal

pub loop-k-preserved : goal.loop-k-preserved
loop-k-preserved g c = view_step c.args.core.now c.loop-k.k c.view-view.result c.loop-k.entries.items c.mark.new.entries.items (marked_by c.args.core.now (kept_views c.args.core.now) c.args.entries.now.items) c.loop-k.invariant c.view-view.ensures.view c.mark.ensures
