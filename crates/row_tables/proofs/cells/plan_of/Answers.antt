use Rattle.std.proofs.Common.{◌≡◌, ◌++◌, List, ℕ, length, take, drop, Option, None, replicate, sym, subst, ◌∙◌, arith}
use Rattle.std.specs.Prelude.{IfErr}
use Rattle.std.proofs.lemmas.List.{length-take-le, take_at}
use Rattle.toast_plan.specs.Choice.{planned_length, refused_size, too_long}
use Rattle.toast_plan.specs.Layout.{up_to_8}
use Rattle.row_tables.specs.Cells.{cell_lengths}
use Rattle.row_tables.proofs.Lengths.{cells_fit, cells_same, refused_row, refused_small}
use Rattle.row_tables.proofs.cells.plan_of.Goals as goal

abbrev none_of : List (Option ℕ)
none_of = replicate {A = Option ℕ} 32 None

pub slice_bounds-lengths-end : goal.slice_bounds-lengths-end
slice_bounds-lengths-end c = omega (arith, cells_same c.args.columns.now c.args.row.now c.requires.lengths, c.requires.columns.few)

pub slice_bounds-put_lengths-end : goal.slice_bounds-put_lengths-end
slice_bounds-put_lengths-end c = sym (length-take-le (length c.args.row.now) none_of (omega (arith, cells_same c.args.columns.now c.args.row.now c.requires.lengths, c.requires.columns.few)))

pub put_lengths-requires-clause-room : goal.put_lengths-requires-clause-room
put_lengths-requires-clause-room c = length-take-le (length c.args.row.now) none_of (omega (arith, cells_same c.args.columns.now c.args.row.now c.requires.lengths, c.requires.columns.few))

pub put_lengths-requires-clause-short : goal.put_lengths-requires-clause-short
put_lengths-requires-clause-short c = cells_fit c.args.columns.now c.args.row.now c.requires.lengths

pub map_err-requires : goal.map_err-requires
map_err-requires c e is =
    let n : length c.put_lengths.new.lengths ≡ length c.args.row.now = c.put_lengths.auto.lengths ∙ length-take-le (length c.args.row.now) none_of (omega (arith, cells_same c.args.columns.now c.args.row.now c.requires.lengths, c.requires.columns.few)) in
    let front : take (length c.args.row.now) (c.put_lengths.new.lengths ++ drop (length c.args.row.now) none_of) ≡ cell_lengths c.args.row.now = take_at c.put_lengths.new.lengths (drop (length c.args.row.now) none_of) (length c.args.row.now) n ∙ c.put_lengths.ensures in
    refused_small c.args.columns.now (cell_lengths c.args.row.now) c.plan.result e c.requires.columns c.requires.lengths (subst (λ ns. IfErr c.plan.result (λ f. f.size ≡ up_to_8 (planned_length c.args.columns.now ns))) front c.plan.ensures.rounded) is

pub returns-clause-err : goal.returns-clause-err
returns-clause-err c =
    let n : length c.put_lengths.new.lengths ≡ length c.args.row.now = c.put_lengths.auto.lengths ∙ length-take-le (length c.args.row.now) none_of (omega (arith, cells_same c.args.columns.now c.args.row.now c.requires.lengths, c.requires.columns.few)) in
    let front : take (length c.args.row.now) (c.put_lengths.new.lengths ++ drop (length c.args.row.now) none_of) ≡ cell_lengths c.args.row.now = take_at c.put_lengths.new.lengths (drop (length c.args.row.now) none_of) (length c.args.row.now) n ∙ c.put_lengths.ensures in
    refused_row c.args.columns.now c.args.row.now c.plan.result c.map_err.result c.map_err.ensures.cases (subst (λ ns. refused_size c.plan.result ≡ too_long c.args.columns.now ns) front c.plan.ensures.refused)
