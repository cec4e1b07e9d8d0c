use Rattle.std.proofs.Common.{◌≡◌, [], List, length, sym, ap, ◌∙◌, arith}
use Rattle.std.proofs.lemmas.Result.{err_from_is_err_and}
use Rattle.std.specs.Vec.Iter.{into_iter_items}
use Rattle.lo_base.specs.declared.value.Cell.{Cell}
use Rattle.lo_image.specs.Readers.{with_front, each}
use Rattle.lo_image.specs.Reading.{column_value_at, next_columns, row_values_at}
use Rattle.lo_image.proofs.Loop.{each_on, each_ends, each_done, nothing_left}
use Rattle.lo_image.proofs.values.row_values_at.Goals as goal

pub returns-in_err-value : goal.returns-in_err-value
returns-in_err-value c =
    let p = err_from_is_err_and c.from_residual.result c.from_residual.ensures.1 in
    let at = c.loop-cell in
    let total = row_values_at c.args.columns.now c.args.row c.args.bytes.now in
    let steps = c.in-Some.ensures.steps.0 in
    let has = ap (λ (xs : List Cell). with_front at.values (each column_value_at next_columns at.left.now xs at.rest.now)) (sym steps) ∙ at.invariant.0 in
    rw (p.1, p.2) (each_ends c.in_err-value.field-0.0 column_value_at next_columns at.left.now at.values c.in-Some.cell (into_iter_items c.next.new.self) at.rest.now total (rw c.kind_in.ensures at c.in_err-value.ensures) has)

pub loop-cell-preserved : goal.loop-cell-preserved
loop-cell-preserved c =
    let at = c.loop-cell in
    let total = row_values_at c.args.columns.now c.args.row c.args.bytes.now in
    let steps = c.in-Some.ensures.steps.0 in
    let has = ap (λ (xs : List Cell). with_front at.values (each column_value_at next_columns at.left.now xs at.rest.now)) (sym steps) ∙ at.invariant.0 in (
      rw c.next_columns-left.ensures (each_on column_value_at next_columns at.left.now at.values c.in-Some.cell (into_iter_items c.next.new.self) at.rest.now c.in_ok-value.value c.in_ok-value.after.now total c.push.new.self (rw c.kind_in.ensures at c.in_ok-value.ensures) c.in_ok-push.ensures.ok has),
      (let was = at.invariant.1 in let gone = c.in-Some.ensures.steps.1 in let short = ap length steps in omega arith),
    )

pub returns : goal.returns
returns c =
    let at = c.loop-cell in
    let none = c.in-None.ensures.steps in
    let empty : into_iter_items at.cell-iterator ≡ [] = nothing_left (into_iter_items at.cell-iterator) (sym at.invariant.1 ∙ none.0) in
    each_done column_value_at next_columns at.left.now at.values at.rest.now (row_values_at c.args.columns.now c.args.row c.args.bytes.now) (ap (λ (xs : List Cell). with_front at.values (each column_value_at next_columns at.left.now xs at.rest.now)) (sym empty) ∙ at.invariant.0)
