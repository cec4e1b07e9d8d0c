use Rattle.toast_plan.specs.Reading.{cell_lengths}
use Rattle.toast_plan.proofs.ValueLengths.{are_short}
use Rattle.lo_image.proofs.plans.are_planned.Goals as goal

pub put_lengths-requires-clause-short : goal.put_lengths-requires-clause-short
put_lengths-requires-clause-short c = are_short c.args.columns.now (cell_lengths c.args.cells.now) c.requires.lengths
