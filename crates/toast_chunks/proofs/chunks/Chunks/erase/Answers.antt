use Rattle.std.proofs.Common.{◌≡◌, true, sym, subst, ◌∙◌}
use Rattle.toast_chunks.specs.Values.{has_chunk}
use Rattle.toast_chunks.proofs.Looping.{erasing_start, erasing_step}
use Rattle.toast_chunks.proofs.chunks.Chunks.erase.Goals as goal

pub loop-s-init : goal.loop-s-init
loop-s-init c = erasing_start c.args.core.now.xacts c.args.s c.args.value c.args.self.now c.requires.goes

pub loop-s-preserved : goal.loop-s-preserved
loop-s-preserved c = erasing_step c.args.core.now.xacts c.args.s c.args.value c.loop-s.number c.args.self.now c.loop-s.self c.erase_chunk.new.self c.loop-s.invariant (subst (λ v. has_chunk c.args.core.now.xacts v c.loop-s.self c.args.value c.loop-s.number ≡ true) c.snapshot-snap.ensures.view (sym c.has_chunk.ensures.found ∙ c.loop-s-test.true)) c.in-Ok.ensures.ok c.erase_chunk.ensures.left c.erase_chunk.ensures.goes
