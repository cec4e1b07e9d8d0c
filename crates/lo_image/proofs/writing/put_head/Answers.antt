use Rattle.lo_image.proofs.WritingLaws.{nothing_given, step, stop, last, fails}
use Rattle.lo_image.specs.Image.{image_head}
use Rattle.lo_image.proofs.writing.put_head.Goals as goal

pub returns-in_err-put : goal.returns-in_err-put
unfolding image_head
returns-in_err-put g c = fails _ c.from_residual.result c.from_residual.ensures.1 (stop _ _ (nothing_given _ _ _) c.in_err-put.ensures)

pub returns-in_err-put_u32 : goal.returns-in_err-put_u32
unfolding image_head
returns-in_err-put_u32 g c = fails _ c.from_residual-in_err-put_u32.result c.from_residual-in_err-put_u32.ensures.1 (stop _ _ (step _ _ (nothing_given _ _ _) c.in_ok-put.ensures) c.in_err-put_u32.ensures)

pub returns-in_err-put_u64 : goal.returns-in_err-put_u64
unfolding image_head
returns-in_err-put_u64 g c = fails _ c.from_residual-in_err-put_u64.result c.from_residual-in_err-put_u64.ensures.1 (stop _ _ (step _ _ (step _ _ (nothing_given _ _ _) c.in_ok-put.ensures) c.in_ok-put_u32.ensures) c.in_err-put_u64.ensures)

pub returns : goal.returns
unfolding image_head
returns g c = last _ _ c.put_u16.result (step _ _ (step _ _ (step _ _ (nothing_given _ _ _) c.in_ok-put.ensures) c.in_ok-put_u32.ensures) c.in_ok-put_u64.ensures) c.put_u16.ensures
