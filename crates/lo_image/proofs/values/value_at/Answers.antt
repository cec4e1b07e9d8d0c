use Rattle.std.proofs.Common.{◌+◌, ap}
use Rattle.std.proofs.lemmas.Result.{err_from_is_err_and}
use Rattle.lo_image.specs.Reading.{chunk_at, after_chunk, value_at}
use Rattle.lo_image.proofs.Loop.{joins_on, joins_end, joins_done}
use Rattle.lo_image.proofs.values.value_at.Goals as goal

pub returns-in_err-chunk : goal.returns-in_err-chunk
returns-in_err-chunk c =
    let p = err_from_is_err_and c.from_residual.result c.from_residual.ensures.1 in
    let at = c.loop in
    rw (p.1, p.2) (joins_end c.in_err-chunk.field-0.0 (chunk_at c.args.value) after_chunk at.place at.found c.pieces_of-count.result at.counter at.rest.now (value_at c.args.value c.args.length c.args.bytes.now) c.loop-test.true c.in_err-chunk.ensures at.invariant.0)

pub loop-preserved : goal.loop-preserved
loop-preserved c =
    let at = c.loop in (
      rw c.saturating_sub.ensures (joins_on (chunk_at c.args.value) after_chunk at.place at.found c.pieces_of-count.result at.counter at.rest.now c.in_ok-chunk.chunk.now c.in_ok-chunk.after.now (value_at c.args.value c.args.length c.args.bytes.now) c.extend.new.self c.loop-test.true c.in_ok-chunk.ensures c.in_ok-extend.ensures.ok at.invariant.0),
      ap (λ (n : _). n + 1) at.invariant.1,
    )

pub returns : goal.returns
returns c =
    let at = c.loop in
    joins_done (chunk_at c.args.value) after_chunk at.place at.found c.pieces_of-count.result at.counter at.rest.now (value_at c.args.value c.args.length c.args.bytes.now) c.loop-test.false at.invariant.0
