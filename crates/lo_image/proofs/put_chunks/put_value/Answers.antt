use Rattle.std.proofs.Common.{◌≡◌, ◌+◌, ◌-◌, length, sym, subst, arith}
use Rattle.lo_model.specs.Held.{chunk_bytes, pieces}
use Rattle.lo_image.specs.Image.{chunk_form, chunks_form, value_form}
use Rattle.lo_image.specs.Writing.{written, HasLeft}
use Rattle.lo_image.proofs.Left.{chunk_left}
use Rattle.lo_image.proofs.WritingLaws.{nothing_given, step_by, stop_by, fails}
use Rattle.lo_image.proofs.put_chunks.put_value.Goals as goal

pub loop-number-init : goal.loop-number-init
loop-number-init g c =
    let at = written g.F.Files c.args.files.now c.args.buffer.now in
    let all : c.pieces_of-count.result - 0 ≡ pieces chunk_bytes (length c.args.bytes.now) = omega (arith, c.pieces_of-count.ensures) in
    subst (λ n. HasLeft at at c.args.name.now (value_form c.args.value c.args.bytes.now) (chunks_form c.args.value n 0 c.args.bytes.now)) (sym all) (nothing_given at c.args.name.now (value_form c.args.value c.args.bytes.now))

pub returns-in_err-put_chunk : goal.returns-in_err-put_chunk
returns-in_err-put_chunk g c = fails _ c.from_residual.result c.from_residual.ensures.1 (stop_by (chunk_form c.args.value c.loop-number.number c.split_at.result.0.now) (chunks_form c.args.value (c.pieces_of-count.result - (c.loop-number.number + 1)) (c.loop-number.number + 1) c.split_at.result.1.now) _ (chunk_left c.args.value c.pieces_of-count.result c.loop-number.number _ c.loop-number.rest.now c.split_at.result.0.now c.split_at.result.1.now c.loop-number-test.true c.min-length.ensures c.split_at.ensures.front c.split_at.ensures.back) c.loop-number.invariant c.in_err-put_chunk.ensures)

pub loop-number-preserved : goal.loop-number-preserved
loop-number-preserved g c = step_by (chunk_form c.args.value c.loop-number.number c.split_at.result.0.now) (chunks_form c.args.value (c.pieces_of-count.result - (c.loop-number.number + 1)) (c.loop-number.number + 1) c.split_at.result.1.now) _ (chunk_left c.args.value c.pieces_of-count.result c.loop-number.number _ c.loop-number.rest.now c.split_at.result.0.now c.split_at.result.1.now c.loop-number-test.true c.min-length.ensures c.split_at.ensures.front c.split_at.ensures.back) c.loop-number.invariant c.in_ok-put_chunk.ensures
