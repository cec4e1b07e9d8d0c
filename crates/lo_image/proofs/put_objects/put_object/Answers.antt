use Rattle.lo_image.proofs.WritingLaws.{nothing_given, step, stop, last, fails}
use Rattle.lo_image.specs.Image.{object_head}
use Rattle.lo_image.proofs.put_objects.put_object.Goals as goal

pub returns-in_err-put_u32 : goal.returns-in_err-put_u32
unfolding object_head
returns-in_err-put_u32 g c = fails _ c.from_residual.result c.from_residual.ensures.1 (stop _ _ (nothing_given _ _ _) c.in_err-put_u32.ensures)

pub returns-in_err-put_u64 : goal.returns-in_err-put_u64
unfolding object_head
returns-in_err-put_u64 g c = fails _ c.from_residual-in_err-put_u64.result c.from_residual-in_err-put_u64.ensures.1 (stop _ _ (step _ _ (nothing_given _ _ _) c.in_ok-put_u32.ensures) c.in_err-put_u64.ensures)

pub returns-in_err-put_u32-2 : goal.returns-in_err-put_u32-2
unfolding object_head
returns-in_err-put_u32-2 g c = fails _ c.from_residual-in_err-put_u32-2.result c.from_residual-in_err-put_u32-2.ensures.1 (stop _ _ (step _ _ (step _ _ (nothing_given _ _ _) c.in_ok-put_u32.ensures) c.in_ok-put_u64.ensures) (rw c.items-blocks.ensures at c.in_err-put_u32-2.ensures))

pub returns : goal.returns
unfolding object_head
returns g c = last _ _ c.put_blocks.result (step _ _ (step _ _ (step _ _ (nothing_given _ _ _) c.in_ok-put_u32.ensures) c.in_ok-put_u64.ensures) (rw c.items-blocks.ensures at c.in_ok-put_u32-2.ensures)) (rw c.items-blocks.ensures at c.put_blocks.ensures)
