use Rattle.std.proofs.Common.{arith}
use Rattle.toast_plan.specs.Reading.{cell_length}
use Rattle.toast_plan.proofs.ValueLengths.{short_at}
use Rattle.toast_plan.proofs.reading.put_lengths.Goals as goal

pub cell_length-requires : goal.cell_length-requires
cell_length-requires c = short_at cell_length c.args.cells.now c.loop-place.place c.index-cells-place.result c.requires.short c.index-cells-place.is (omega arith)
