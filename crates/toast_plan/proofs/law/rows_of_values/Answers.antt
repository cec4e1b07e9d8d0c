use Rattle.toast_plan.proofs.RowLaws.{is_row}
use Rattle.toast_plan.proofs.law.rows_of_values.Goals as goal

pub returns : goal.returns
returns c = λ columns table first vs h. is_row table first columns vs h.columns_are h.values_are h.fits h.numbers h.table_is h.range
