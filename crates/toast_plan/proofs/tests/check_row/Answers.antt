use Rattle.std.proofs.Common.{subst, arith}
use Rattle.toast_plan.specs.Choice.{IsPlanFor}
use Rattle.toast_plan.specs.Row.{value_lengths}
use Rattle.toast_plan.proofs.RowLaws.{outside_few}
use Rattle.toast_plan.proofs.tests.check_row.Goals as goal

pub row_bytes-taken-requires-clause-plan : goal.row_bytes-taken-requires-clause-plan
row_bytes-taken-requires-clause-plan g c = subst (λ ns. IsPlanFor c.as_slice-columns.result.now ns c.in-Ok.plan) c.lengths_of-lengths.ensures.lengths c.in-Ok.ensures.plan

pub row_bytes-taken-requires-clause-numbers : goal.row_bytes-taken-requires-clause-numbers
row_bytes-taken-requires-clause-numbers g c = omega (arith, outside_few c.as_slice-columns.result.now (value_lengths c.args.values.now))
