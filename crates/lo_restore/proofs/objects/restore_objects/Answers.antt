use Rattle.std.proofs.Common.{◌+◌, sym, subst, ◌∙◌, arith, flat_map, map}
use Rattle.row_versions.specs.declared.base.Core.{Core}
use Rattle.lo_model.specs.Opening.{object_deeds}
use Rattle.lo_opening.specs.Meaning.{object_of}
use Rattle.lo_restore.specs.Objects.{Loads}
use Rattle.lo_restore.proofs.ObjectLoads.{Restoring, next_is, restoring_step, restoring_end}
use Rattle.lo_restore.proofs.objects.restore_objects.Goals as goal

pub restore_object-requires-clause-blocks : goal.restore_object-requires-clause-blocks
restore_object-requires-clause-blocks c = (next_is c.loop-object.core.xacts c.args.s c.loop-object.object-index c.args.objects.now c.object-item.result c.args.pages.now c.loop-object.pages (omega (arith, c.loop-object-test.true)) c.object-item.is c.loop-object.invariant.1).blocks

pub loop-object-preserved : goal.loop-object-preserved
loop-object-preserved c = (
  c.restore_object.ensures.core ∙ c.loop-object.invariant.0,
  subst (λ (k : Core). Restoring k.xacts c.args.s (c.loop-object.object-index + 1) c.args.objects.now c.args.pages.now c.restore_object.new.pages) (sym c.restore_object.ensures.core)
      (restoring_step c.loop-object.core.xacts c.args.s c.loop-object.object-index c.args.objects.now c.object-item.result c.args.pages.now c.loop-object.pages c.restore_object.new.pages (omega (arith, c.loop-object-test.true)) c.object-item.is c.loop-object.invariant.1 c.in_ok-restore_object.ensures.ok c.in_ok-restore_object.ensures.fresh c.restore_object.ensures.left c.restore_object.ensures.goes),
)

pub returns-clause-ok : goal.returns-clause-ok
returns-clause-ok c = subst (λ (k : Core). Loads k.xacts c.args.s (flat_map object_deeds (map object_of c.args.objects.now)) c.args.pages.now c.loop-object.pages) c.loop-object.invariant.0 (restoring_end c.loop-object.core.xacts c.args.s c.loop-object.object-index c.args.objects.now c.args.pages.now c.loop-object.pages c.requires.rules (omega (arith, c.loop-object-test.false)) c.loop-object.invariant.1)
