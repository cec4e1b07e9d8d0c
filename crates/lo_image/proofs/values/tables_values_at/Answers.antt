use Rattle.std.proofs.Common.{◌≡◌, [], List, length, sym, ap, ◌∙◌, arith}
use Rattle.std.proofs.lemmas.Result.{err_from_is_err_and}
use Rattle.std.specs.Vec.Iter.{into_iter_items}
use Rattle.lo_image.specs.declared.place.TableCells.{TableCells}
use Rattle.lo_image.specs.Readers.{with_front, each}
use Rattle.lo_image.specs.Reading.{table_values_at, no_state, tables_values_at}
use Rattle.lo_image.proofs.Loop.{each_on, each_ends, each_done, nothing_left}
use Rattle.lo_image.proofs.values.tables_values_at.Goals as goal

pub returns-in_err-table : goal.returns-in_err-table
returns-in_err-table c =
    let p = err_from_is_err_and c.from_residual.result c.from_residual.ensures.1 in
    let at = c.loop-table in
    let total = tables_values_at c.args.tables c.args.bytes.now in
    let steps = c.in-Some.ensures.steps.0 in
    let has = ap (λ (xs : List TableCells). with_front at.filled (each table_values_at no_state 0 xs at.rest.now)) (sym steps) ∙ at.invariant.0 in
    rw (p.1, p.2) (each_ends c.in_err-table.field-0.0 table_values_at no_state 0 at.filled c.in-Some.table (into_iter_items c.next.new.self) at.rest.now total c.in_err-table.ensures has)

pub loop-table-preserved : goal.loop-table-preserved
loop-table-preserved c =
    let at = c.loop-table in
    let total = tables_values_at c.args.tables c.args.bytes.now in
    let steps = c.in-Some.ensures.steps.0 in
    let has = ap (λ (xs : List TableCells). with_front at.filled (each table_values_at no_state 0 xs at.rest.now)) (sym steps) ∙ at.invariant.0 in (
      (each_on table_values_at no_state 0 at.filled c.in-Some.table (into_iter_items c.next.new.self) at.rest.now c.in_ok-table.table c.in_ok-table.after.now total c.push.new.self c.in_ok-table.ensures c.in_ok-push.ensures.ok has),
      (let was = at.invariant.1 in let gone = c.in-Some.ensures.steps.1 in let short = ap length steps in omega arith),
    )

pub returns : goal.returns
returns c =
    let at = c.loop-table in
    let none = c.in-None.ensures.steps in
    let empty : into_iter_items at.table-iterator ≡ [] = nothing_left (into_iter_items at.table-iterator) (sym at.invariant.1 ∙ none.0) in
    each_done table_values_at no_state 0 at.filled at.rest.now (tables_values_at c.args.tables c.args.bytes.now) (ap (λ (xs : List TableCells). with_front at.filled (each table_values_at no_state 0 xs at.rest.now)) (sym empty) ∙ at.invariant.0)
