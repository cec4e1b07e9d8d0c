use Rattle.std.proofs.Common.{◌+◌, Some, ap, refl, sym, subst, ◌∙◌, arith}
use Rattle.row_versions.specs.declared.base.Core.{Core}
use Rattle.toast_chunks.specs.Calls.{Storing}
use Rattle.toast_chunks.proofs.Cutting.{chunk_some}
use Rattle.toast_chunks.proofs.Looping.{storing_start, storing_step}
use Rattle.toast_chunks.proofs.chunks.Chunks.put_chunks.Goals as goal

pub loop-number-init : goal.loop-number-init
loop-number-init c = (refl, storing_start c.args.core.now.xacts c.args.s c.args.value c.args.bytes.now c.args.self.now c.requires.goes)

pub loop-number-preserved : goal.loop-number-preserved
loop-number-preserved c = (c.put_chunk.ensures.core ∙ c.loop-number.invariant.0, subst (λ (k : Core). Storing k.xacts c.args.s c.args.value c.args.bytes.now (c.loop-number.number + 1) c.args.self.now c.put_chunk.new.self) (sym c.put_chunk.ensures.core) (storing_step c.loop-number.core.xacts c.args.s c.args.value c.args.bytes.now c.loop-number.number c.in-Ok.chunk c.args.self.now c.loop-number.self c.put_chunk.new.self c.loop-number.invariant.1 (chunk_some c.loop-number.number c.args.bytes.now (omega (arith, c.loop-number-test.true, c.div_ceil-number-end.ensures)) ∙ ap Some (sym (c.in-Ok.ensures ∙ c.chunk_of.ensures))) c.in-Ok-put_chunk.ensures.ok c.put_chunk.ensures.left c.put_chunk.ensures.goes))
