use Rattle.std.proofs.Common.{◌≡◌, [], List, length, sym, ap, ◌∙◌, arith}
use Rattle.std.proofs.lemmas.Result.{err_from_is_err_and}
use Rattle.std.specs.Vec.Iter.{into_iter_items}
use Rattle.lo_base.specs.declared.value.Cell.{Cell}
use Rattle.lo_image.specs.Readers.{with_front, each}
use Rattle.lo_image.specs.Reading.{row_values_at, same_columns, rows_values_at}
use Rattle.lo_image.proofs.Loop.{each_on, each_ends, each_done, nothing_left}
use Rattle.lo_image.proofs.values.rows_values_at.Goals as goal

pub returns-in_err-values : goal.returns-in_err-values
returns-in_err-values c =
    let p = err_from_is_err_and c.from_residual.result c.from_residual.ensures.1 in
    let at = c.loop-row in
    let total = rows_values_at c.args.columns.now c.args.rows c.args.bytes.now in
    let steps = c.in-Some.ensures.steps.0 in
    let has = ap (λ (xs : List (List Cell)). with_front at.filled (each (row_values_at) same_columns c.args.columns.now xs at.rest.now)) (sym steps) ∙ at.invariant.0 in
    rw (p.1, p.2) (each_ends c.in_err-values.field-0.0 (row_values_at) same_columns c.args.columns.now at.filled c.in-Some.row (into_iter_items c.next.new.self) at.rest.now total c.in_err-values.ensures has)

pub loop-row-preserved : goal.loop-row-preserved
loop-row-preserved c =
    let at = c.loop-row in
    let total = rows_values_at c.args.columns.now c.args.rows c.args.bytes.now in
    let steps = c.in-Some.ensures.steps.0 in
    let has = ap (λ (xs : List (List Cell)). with_front at.filled (each (row_values_at) same_columns c.args.columns.now xs at.rest.now)) (sym steps) ∙ at.invariant.0 in (
      (each_on (row_values_at) same_columns c.args.columns.now at.filled c.in-Some.row (into_iter_items c.next.new.self) at.rest.now c.in_ok-values.values c.in_ok-values.after.now total c.push.new.self c.in_ok-values.ensures c.in_ok-push.ensures.ok has),
      (let was = at.invariant.1 in let gone = c.in-Some.ensures.steps.1 in let short = ap length steps in omega arith),
    )

pub returns : goal.returns
returns c =
    let at = c.loop-row in
    let none = c.in-None.ensures.steps in
    let empty : into_iter_items at.row-iterator ≡ [] = nothing_left (into_iter_items at.row-iterator) (sym at.invariant.1 ∙ none.0) in
    each_done (row_values_at) same_columns c.args.columns.now at.filled at.rest.now (rows_values_at c.args.columns.now c.args.rows c.args.bytes.now) (ap (λ (xs : List (List Cell)). with_front at.filled (each (row_values_at) same_columns c.args.columns.now xs at.rest.now)) (sym empty) ∙ at.invariant.0)
