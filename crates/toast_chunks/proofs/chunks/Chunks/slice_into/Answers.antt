use Rattle.std.proofs.Common.{◌≡◌, ◌≤◌, ◌+◌, ◌/◌, ◌%◌, ℕ, ◌++◌, length, drop, length-take, ap, ◌∙◌, arith}
use Rattle.toast_chunks.specs.Values.{bytes_or_none, slice_of}
use Rattle.toast_chunks.proofs.Cutting.{chunk_bytes}
use Rattle.toast_chunks.proofs.Slicing.{fill_step, short_step}
use Rattle.toast_chunks.proofs.chunks.Chunks.slice_into.Goals as goal

pub loop-done-preserved : goal.loop-done-preserved
loop-done-preserved c =
    let at : ℕ = c.args.from + c.loop-done.done in
    let part : length (slice_of (at % 1996) (length c.split_at_mut-before.result.1.now) c.chunk-chunk.result.now) ≤ length c.split_at_mut-before.result.1.now = omega (arith, length-take (length c.split_at_mut-before.result.1.now) (drop (at % 1996) c.chunk-chunk.result.now)) in (
      omega (arith, c.fill-done.ensures.count, part, c.split_at_mut-before.ensures.back_len, c.loop-done.auto.out),
      λ bytes has. fill_step c.args.from c.loop-done.done bytes c.args.out.now c.loop-done.out (c.loop-done.invariant.1 bytes has) c.fill-done.result (at / 1996) (at % 1996) c.split_at_mut-before.result.0.now c.chunk-chunk.result.now c.split_at_mut-before.result.1.now c.fill-done.new.out (omega arith) (omega arith) (c.chunk-chunk.ensures ∙ (ap bytes_or_none (has.chunk (at / 1996)) ∙ chunk_bytes (at / 1996) bytes)) c.split_at_mut-before.ensures.front c.split_at_mut-before.ensures.back c.fill-done.ensures.count c.fill-done.ensures.bytes,
    )

pub returns-then-chunk-lt-CHUNK_BYTES-clause-count : goal.returns-then-chunk-lt-CHUNK_BYTES-clause-count
returns-then-chunk-lt-CHUNK_BYTES-clause-count c bytes has =
    let at : ℕ = c.args.from + c.loop-done.done in
    let ends : (c.loop-done.done + c.fill-done.result ≡ length (slice_of c.args.from (length c.args.out.now) bytes)) × (c.split_at_mut-before.result.0.now ++ c.fill-done.new.out ≡ slice_of c.args.from (length c.args.out.now) bytes ++ drop (c.loop-done.done + c.fill-done.result) c.args.out.now) = short_step c.args.from c.loop-done.done bytes c.args.out.now c.loop-done.out (c.loop-done.invariant.1 bytes has) c.fill-done.result (at / 1996) (at % 1996) c.split_at_mut-before.result.0.now c.chunk-chunk.result.now c.split_at_mut-before.result.1.now c.fill-done.new.out (omega arith) (omega arith) (c.chunk-chunk.ensures ∙ (ap bytes_or_none (has.chunk (at / 1996)) ∙ chunk_bytes (at / 1996) bytes)) c.split_at_mut-before.ensures.front c.split_at_mut-before.ensures.back c.fill-done.ensures.count c.fill-done.ensures.bytes (omega (arith, c.loop-done.invariant.0)) (omega (arith, c.split_at_mut-before.ensures.back_len, c.loop-done.auto.out)) c.if-chunk-lt-CHUNK_BYTES.true in
    ends.0

pub returns-then-chunk-lt-CHUNK_BYTES-clause-bytes : goal.returns-then-chunk-lt-CHUNK_BYTES-clause-bytes
returns-then-chunk-lt-CHUNK_BYTES-clause-bytes c bytes has =
    let at : ℕ = c.args.from + c.loop-done.done in
    let ends : (c.loop-done.done + c.fill-done.result ≡ length (slice_of c.args.from (length c.args.out.now) bytes)) × (c.split_at_mut-before.result.0.now ++ c.fill-done.new.out ≡ slice_of c.args.from (length c.args.out.now) bytes ++ drop (c.loop-done.done + c.fill-done.result) c.args.out.now) = short_step c.args.from c.loop-done.done bytes c.args.out.now c.loop-done.out (c.loop-done.invariant.1 bytes has) c.fill-done.result (at / 1996) (at % 1996) c.split_at_mut-before.result.0.now c.chunk-chunk.result.now c.split_at_mut-before.result.1.now c.fill-done.new.out (omega arith) (omega arith) (c.chunk-chunk.ensures ∙ (ap bytes_or_none (has.chunk (at / 1996)) ∙ chunk_bytes (at / 1996) bytes)) c.split_at_mut-before.ensures.front c.split_at_mut-before.ensures.back c.fill-done.ensures.count c.fill-done.ensures.bytes (omega (arith, c.loop-done.invariant.0)) (omega (arith, c.split_at_mut-before.ensures.back_len, c.loop-done.auto.out)) c.if-chunk-lt-CHUNK_BYTES.true in
    ends.1
