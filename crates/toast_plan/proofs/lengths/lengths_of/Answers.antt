use Rattle.std.proofs.Common.{length, replicate, None, Option, ℕ, sym, ◌∙◌}
use Rattle.std.proofs.lemmas.List.{length-take-le}
use Rattle.toast_plan.specs.Row.{value_lengths}
use Rattle.toast_plan.proofs.ValueLengths.{are_short, values_have_lengths}
use Rattle.toast_plan.proofs.RowLaws.{values_same}
use Rattle.toast_plan.proofs.lengths.lengths_of.Goals as goal

pub put_lengths-requires-clause-room : goal.put_lengths-requires-clause-room
put_lengths-requires-clause-room c =
    length-take-le (length c.args.columns.now) (replicate {A = Option ℕ} 32 None) c.requires.few ∙ sym (values_same c.args.columns.now c.args.values.now c.requires.fit)

pub put_lengths-requires-clause-short : goal.put_lengths-requires-clause-short
put_lengths-requires-clause-short c = are_short c.args.columns.now (value_lengths c.args.values.now) (values_have_lengths c.args.columns.now c.args.values.now c.requires.fit)

pub returns-clause-fit : goal.returns-clause-fit
returns-clause-fit c = values_have_lengths c.args.columns.now c.args.values.now c.requires.fit
