use Rattle.std.proofs.Common.{◌+◌, drop, ap, arith}
use Rattle.lo_image.specs.Image.{column_form, columns_form}
use Rattle.lo_image.proofs.Loop.{item_at}
use Rattle.lo_image.proofs.WritingLaws.{step_by, stop_by, fails}
use Rattle.lo_image.proofs.put_columns.put_columns.Goals as goal

pub returns-in_err-put_column : goal.returns-in_err-put_column
returns-in_err-put_column g c = fails _ c.from_residual.result c.from_residual.ensures.1 (stop_by (column_form c.column-item.result) (columns_form (drop (c.loop-column.column-index + 1) c.args.columns.now)) (columns_form (drop c.loop-column.column-index c.args.columns.now)) (ap columns_form (item_at c.args.columns.now c.loop-column.column-index c.column-item.result c.column-item.is (omega arith))) c.loop-column.invariant c.in_err-put_column.ensures)

pub loop-column-preserved : goal.loop-column-preserved
loop-column-preserved g c = step_by (column_form c.column-item.result) (columns_form (drop (c.loop-column.column-index + 1) c.args.columns.now)) (columns_form (drop c.loop-column.column-index c.args.columns.now)) (ap columns_form (item_at c.args.columns.now c.loop-column.column-index c.column-item.result c.column-item.is (omega arith))) c.loop-column.invariant c.in_ok-put_column.ensures
