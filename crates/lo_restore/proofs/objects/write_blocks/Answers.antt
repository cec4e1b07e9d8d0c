use Rattle.std.proofs.Common.{◌+◌, sym, subst, ◌∙◌, arith}
use Rattle.row_versions.specs.declared.base.Core.{Core}
use Rattle.lo_restore.proofs.ObjectLoads.{Writing, writing_step}
use Rattle.lo_restore.proofs.objects.write_blocks.Goals as goal

pub loop-block-preserved : goal.loop-block-preserved
loop-block-preserved c = (
  c.write_block.ensures.core ∙ c.loop-block.invariant.0,
  subst (λ (k : Core). Writing k.xacts c.args.s c.args.oid (c.loop-block.block-index + 1) c.args.blocks.now c.args.pages.now c.write_block.new.pages) (sym c.write_block.ensures.core)
      (writing_step c.loop-block.core.xacts c.args.s c.args.oid c.loop-block.block-index c.args.blocks.now c.block-item.result c.args.pages.now c.loop-block.pages c.write_block.new.pages (omega (arith, c.loop-block-test.true)) c.block-item.is c.loop-block.invariant.1 c.in_ok-write_block.ensures.ok c.in_ok-write_block.ensures.last c.write_block.ensures.left c.write_block.ensures.goes),
)
