use Rattle.std.proofs.Common.{rules, ◌≡◌, ◌∷◌, [], List, length, Some, refl, ap, sym, subst, ◌∙◌, arith, true, false}
use Rattle.std.specs.Prelude.{bytes_eq, slice_get}
use Rattle.std.specs.Vec.Iter.{into_iter_items}
use Rattle.std.proofs.lemmas.Option.{slice_get_read}
use Rattle.std.proofs.lemmas.Result.{IfOk-weaker}
use Rattle.lo_base.specs.declared.value.Cell.{Cell}
use Rattle.lo_machine.specs.FlatRows.{array_cell}
use Rattle.lo_machine.specs.Literals.{IsArrayOf}
use Rattle.lo_machine.proofs.ArraySought.{Seeks, array_here, none_left, seeks_next}
use Rattle.lo_machine.proofs.CellsTold.{column_left, nothing_left}
use Rattle.lo_machine.proofs.cells.array_of.Goals as goal

pub returns-then-eq-clause-ok : goal.returns-then-eq-clause-ok
returns-then-eq-clause-ok c =
    let at = c.loop-cell in
    let h : Seeks c.args.name.now c.args.columns.now c.args.row at.left.now (c.in-Some.cell ∷ into_iter_items c.next.new.self) = subst (λ (xs : List Cell). Seeks c.args.name.now c.args.columns.now c.args.row at.left.now xs) c.in-Some.ensures.steps.0 at.invariant.0 in
    let there : slice_get at.left.now 0 ≡ Some c.index-left-0.result = slice_get_read at.left.now (length at.left.now) 0 c.index-left-0.result refl (column_left at.left.now c.in-Some.cell (into_iter_items c.next.new.self) h.flat) c.index-left-0.is in
    let same : bytes_eq c.index-left-0.result.name c.args.name.now ≡ true = search rules in
    λ values is.
    IfOk-weaker c.array_of_cell.result (λ a. array_cell c.index-left-0.result.kind c.in-Some.cell ≡ Some a) (IsArrayOf c.args.name.now c.args.columns.now values)
    (λ a found. array_here c.args.name.now c.args.columns.now c.args.row c.in-Some.cell (into_iter_items c.next.new.self) c.index-left-0.result at.left.now there h same a found values is)
    c.array_of_cell.ensures.ok

pub loop-cell-preserved-else-eq : goal.loop-cell-preserved-else-eq
loop-cell-preserved-else-eq c =
    let at = c.loop-cell in
    let h : Seeks c.args.name.now c.args.columns.now c.args.row at.left.now (c.in-Some.cell ∷ into_iter_items c.next.new.self) = subst (λ (xs : List Cell). Seeks c.args.name.now c.args.columns.now c.args.row at.left.now xs) c.in-Some.ensures.steps.0 at.invariant.0 in
    let there : slice_get at.left.now 0 ≡ Some c.index-left-0.result = slice_get_read at.left.now (length at.left.now) 0 c.index-left-0.result refl (column_left at.left.now c.in-Some.cell (into_iter_items c.next.new.self) h.flat) c.index-left-0.is in
    let other : bytes_eq c.index-left-0.result.name c.args.name.now ≡ false = search rules in (
      (rw c.next_columns-left.ensures (seeks_next c.args.name.now c.args.columns.now c.args.row c.in-Some.cell (into_iter_items c.next.new.self) c.index-left-0.result at.left.now there h other)),
      (let was = at.invariant.1 in let gone = c.in-Some.ensures.steps.1 in let short = ap length c.in-Some.ensures.steps.0 in omega arith),
    )

pub loop-cell-preserved-else-eq-2 : goal.loop-cell-preserved-else-eq-2
loop-cell-preserved-else-eq-2 c =
    let at = c.loop-cell in
    let h : Seeks c.args.name.now c.args.columns.now c.args.row at.left.now (c.in-Some.cell ∷ into_iter_items c.next.new.self) = subst (λ (xs : List Cell). Seeks c.args.name.now c.args.columns.now c.args.row at.left.now xs) c.in-Some.ensures.steps.0 at.invariant.0 in
    let there : slice_get at.left.now 0 ≡ Some c.index-left-0.result = slice_get_read at.left.now (length at.left.now) 0 c.index-left-0.result refl (column_left at.left.now c.in-Some.cell (into_iter_items c.next.new.self) h.flat) c.index-left-0.is in
    let other : bytes_eq c.index-left-0.result.name c.args.name.now ≡ false = search rules in (
      (rw c.next_columns-left.ensures (seeks_next c.args.name.now c.args.columns.now c.args.row c.in-Some.cell (into_iter_items c.next.new.self) c.index-left-0.result at.left.now there h other)),
      (let was = at.invariant.1 in let gone = c.in-Some.ensures.steps.1 in let short = ap length c.in-Some.ensures.steps.0 in omega arith),
    )

pub loop-cell-preserved : goal.loop-cell-preserved
loop-cell-preserved c =
    let at = c.loop-cell in
    let h : Seeks c.args.name.now c.args.columns.now c.args.row at.left.now (c.in-Some.cell ∷ into_iter_items c.next.new.self) = subst (λ (xs : List Cell). Seeks c.args.name.now c.args.columns.now c.args.row at.left.now xs) c.in-Some.ensures.steps.0 at.invariant.0 in
    let there : slice_get at.left.now 0 ≡ Some c.index-left-0.result = slice_get_read at.left.now (length at.left.now) 0 c.index-left-0.result refl (column_left at.left.now c.in-Some.cell (into_iter_items c.next.new.self) h.flat) c.index-left-0.is in
    let other : bytes_eq c.index-left-0.result.name c.args.name.now ≡ false = search rules in (
      (rw c.next_columns-left.ensures (seeks_next c.args.name.now c.args.columns.now c.args.row c.in-Some.cell (into_iter_items c.next.new.self) c.index-left-0.result at.left.now there h other)),
      (let was = at.invariant.1 in let gone = c.in-Some.ensures.steps.1 in let short = ap length c.in-Some.ensures.steps.0 in omega arith),
    )

pub returns-clause-err : goal.returns-clause-err
returns-clause-err c =
    let at = c.loop-cell in
    let empty : into_iter_items at.cell-iterator ≡ [] = nothing_left (into_iter_items at.cell-iterator) (sym at.invariant.1 ∙ c.in-None.ensures.steps.0) in
    let h : Seeks c.args.name.now c.args.columns.now c.args.row at.left.now [] = subst (λ (xs : List Cell). Seeks c.args.name.now c.args.columns.now c.args.row at.left.now xs) empty at.invariant.0 in
    λ values is. none_left c.args.name.now c.args.columns.now c.args.row at.left.now h values ∙ ap Some (sym c.refused.ensures)
