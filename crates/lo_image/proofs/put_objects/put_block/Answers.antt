use Rattle.lo_image.proofs.WritingLaws.{nothing_given, step, stop, last, fails}
use Rattle.lo_image.proofs.put_objects.put_block.Goals as goal

pub returns-in_err-put_u32 : goal.returns-in_err-put_u32
returns-in_err-put_u32 g c = fails _ c.from_residual.result c.from_residual.ensures.1 (stop _ _ (nothing_given _ _ _) c.in_err-put_u32.ensures)

pub returns-in_err-put_u16 : goal.returns-in_err-put_u16
returns-in_err-put_u16 g c = fails _ c.from_residual-in_err-put_u16.result c.from_residual-in_err-put_u16.ensures.1 (stop _ _ (step _ _ (nothing_given _ _ _) c.in_ok-put_u32.ensures) (rw c.items-bytes.ensures at c.in_err-put_u16.ensures))

pub returns : goal.returns
returns g c = last _ _ c.put.result (step _ _ (step _ _ (nothing_given _ _ _) c.in_ok-put_u32.ensures) (rw c.items-bytes.ensures at c.in_ok-put_u16.ensures)) (rw c.items-bytes.ensures at c.put.ensures)
