use Rattle.toast_plan.specs.Reading.{ArePlanned}
use Rattle.lo_image.specs.Reading.{are_planned}
use Rattle.lo_image.proofs.ColumnLaws.{same_tests}
use Rattle.lo_image.proofs.RowLaws.{planned_sound, planned_again}
use Rattle.lo_image.proofs.rows.are_planned.Goals as goal

pub returns : goal.returns
returns c = same_tests (ArePlanned c.args.columns.now c.args.cells.now) c.are_planned.result (are_planned c.args.columns.now c.args.cells.now) c.are_planned.ensures (λ e. planned_sound c.args.columns.now c.args.cells.now e) (λ h. planned_again c.args.columns.now c.args.cells.now h)
