use Rattle.lo_image.proofs.WritingLaws.{nothing_given, step, stop, last, fails}
use Rattle.lo_image.proofs.put_columns.put_column.Goals as goal

pub returns-in_err-put_name : goal.returns-in_err-put_name
returns-in_err-put_name g c = fails _ c.from_residual.result c.from_residual.ensures.1 (stop _ _ (nothing_given _ _ _) (rw c.items.ensures at c.in_err-put_name.ensures))

pub returns : goal.returns
returns g c = last _ _ c.put.result (step _ _ (nothing_given _ _ _) (rw c.items.ensures at c.in_ok-put_name.ensures)) (rw (c.type_code.ensures, c.storage_code.ensures) at c.put.ensures)
