use Rattle.std.proofs.Common.{arith}
use Rattle.toast_plan.specs.Reading.{cell_length}
use Rattle.toast_plan.proofs.ValueLengths.{short_at}
use Rattle.lo_image.proofs.plans.put_lengths.Goals as goal

pub cell_length-requires : goal.cell_length-requires
cell_length-requires c = short_at cell_length c.args.cells.now c.loop-index.index c.index-cells-index.result c.requires.short c.index-cells-index.is (omega arith)
