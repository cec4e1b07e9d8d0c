use Rattle.std.proofs.Common.{arith}
use Rattle.toast_plan.specs.Row.{value_length}
use Rattle.toast_plan.proofs.ValueLengths.{short_at}
use Rattle.toast_plan.proofs.lengths.put_lengths.Goals as goal

pub value_length-requires : goal.value_length-requires
value_length-requires c = short_at value_length c.args.values.now c.loop-index.index c.index-values-index.result c.requires.short c.index-values-index.is (omega arith)
