use Rattle.std.proofs.Common.{◌+◌, drop, ap, arith}
use Rattle.lo_image.specs.Image.{block_form, blocks_form}
use Rattle.lo_image.proofs.Loop.{item_at}
use Rattle.lo_image.proofs.WritingLaws.{step_by, stop_by, fails}
use Rattle.lo_image.proofs.put_objects.put_blocks.Goals as goal

pub returns-in_err-put_block : goal.returns-in_err-put_block
returns-in_err-put_block g c = fails _ c.from_residual.result c.from_residual.ensures.1 (stop_by (block_form c.block-item.result) (blocks_form (drop (c.loop-block.block-index + 1) c.args.blocks.now)) (blocks_form (drop c.loop-block.block-index c.args.blocks.now)) (ap blocks_form (item_at c.args.blocks.now c.loop-block.block-index c.block-item.result c.block-item.is (omega arith))) c.loop-block.invariant c.in_err-put_block.ensures)

pub loop-block-preserved : goal.loop-block-preserved
loop-block-preserved g c = step_by (block_form c.block-item.result) (blocks_form (drop (c.loop-block.block-index + 1) c.args.blocks.now)) (blocks_form (drop c.loop-block.block-index c.args.blocks.now)) (ap blocks_form (item_at c.args.blocks.now c.loop-block.block-index c.block-item.result c.block-item.is (omega arith))) c.loop-block.invariant c.in_ok-put_block.ensures
