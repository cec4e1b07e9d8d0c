use Rattle.std.proofs.Common.{arith}
use Rattle.std.proofs.lemmas.Result.{err_from_is_err_and}
use Rattle.lo_image.specs.Reading.{block_at, after_block, blocks_at}
use Rattle.lo_image.proofs.Loop.{read_on, ends, is_done}
use Rattle.lo_image.proofs.objects.blocks_at.Goals as goal

pub returns-in_err-block-clause-read : goal.returns-in_err-block-clause-read
returns-in_err-block-clause-read c =
    let p = err_from_is_err_and c.from_residual.result c.from_residual.ensures.1 in
    rw (p.1, p.2) (ends c.in_err-block.field-0.0 (block_at c.args.size) after_block c.loop.place c.loop.blocks c.args.count c.loop.counter c.loop.rest.now (blocks_at c.args.size c.args.held c.args.count c.args.bytes.now) c.loop-test.true c.in_err-block.ensures c.loop.invariant.0)

pub loop-preserved : goal.loop-preserved
loop-preserved c = (
  read_on (block_at c.args.size) after_block c.loop.place c.loop.blocks c.args.count c.loop.counter c.loop.rest.now c.in_ok-block.block c.in_ok-block.after.now (blocks_at c.args.size c.args.held c.args.count c.args.bytes.now) c.push.new.self c.loop-test.true c.in_ok-block.ensures c.in_ok-push.ensures.ok c.loop.invariant.0,
  omega (arith, c.loop.invariant.1),
)

pub returns-clause-read : goal.returns-clause-read
returns-clause-read c = is_done (block_at c.args.size) after_block c.loop.place c.loop.blocks c.args.count c.loop.counter c.loop.rest.now (blocks_at c.args.size c.args.held c.args.count c.args.bytes.now) c.loop-test.false c.loop.invariant.0
