use Rattle.std.proofs.Common.{◌<◌, refl, arith}
use Rattle.toast_plan.specs.Layout.{up_to_8}
use Rattle.toast_plan.specs.Choice.{planned_length}
use Rattle.toast_plan.specs.Row.{value_lengths}
use Rattle.lo_restore.proofs.tables_counted.plan_of.Goals as goal

pub unreachable-requires : goal.unreachable-requires
unreachable-requires c =
    let big : 8160 < up_to_8 (planned_length c.args.columns.now (value_lengths c.args.values.now)) = rw c.lengths_of-lengths.ensures.lengths at (c.in_default.ensures.too_big.0 refl) in
    omega (arith, c.requires.row.fits)

pub returns : goal.returns
returns c = rw c.lengths_of-lengths.ensures.lengths at c.in-Ok.ensures.plan
