use Rattle.std.proofs.Common.{◌≡◌, ◌∷◌, [], List, length, ap, sym, subst, ◌∙◌, arith}
use Rattle.std.specs.Vec.Iter.{into_iter_items}
use Rattle.lo_base.specs.declared.value.Cell.{Cell}
use Rattle.lo_restore.proofs.CellValues.{Turning, nothing_left, turning_ends, turning_next}
use Rattle.lo_restore.proofs.tables_saved.values_of.Goals as goal

pub loop-cell-preserved : goal.loop-cell-preserved
loop-cell-preserved c =
    let at = c.loop-cell in
    let h : Turning c.args.cells (c.in-Some.cell ∷ into_iter_items c.next.new.self) at.row = subst (λ (xs : List Cell). Turning c.args.cells xs at.row) c.in-Some.ensures.steps.0 at.invariant.turning in
    record {
      turning = rw c.in_ok-push.ensures.ok (turning_next c.args.cells c.in-Some.cell (into_iter_items c.next.new.self) at.row c.value_of.result h c.value_of.ensures.cell c.value_of.ensures.range);
      count = let was = at.invariant.count in let gone = c.in-Some.ensures.steps.1 in let short = ap length c.in-Some.ensures.steps.0 in omega arith;
    }

pub returns : goal.returns
returns c =
    let at = c.loop-cell in
    let empty : into_iter_items at.cell-iterator ≡ [] = nothing_left (into_iter_items at.cell-iterator) (sym at.invariant.count ∙ c.in-None.ensures.steps.0) in
    record { cells = turning_ends c.args.cells (into_iter_items at.cell-iterator) at.row at.invariant.turning empty; range = at.invariant.turning.range }
