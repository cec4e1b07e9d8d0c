use Rattle.toast_plan.proofs.RowBytes.{fields_told}
use Rattle.toast_plan.proofs.law.rows_are_told.Goals as goal

pub returns-clause-fields : goal.returns-clause-fields
returns-clause-fields c = λ columns xs ys behind after are too e. (fields_told columns xs ys behind after are too e).fields

pub returns-clause-rest : goal.returns-clause-rest
returns-clause-rest c = λ columns xs ys behind after are too e. (fields_told columns xs ys behind after are too e).rest
