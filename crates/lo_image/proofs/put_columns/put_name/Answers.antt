use Rattle.lo_image.proofs.WritingLaws.{nothing_given, step, stop, last, fails}
use Rattle.lo_image.proofs.put_columns.put_name.Goals as goal

pub returns-in_err-put : goal.returns-in_err-put
returns-in_err-put g c = fails _ c.from_residual.result c.from_residual.ensures.1 (stop _ _ (nothing_given _ _ _) c.in_err-put.ensures)

pub returns : goal.returns
returns g c = last _ _ c.put-2.result (step _ _ (nothing_given _ _ _) c.in_ok-put.ensures) c.put-2.ensures
