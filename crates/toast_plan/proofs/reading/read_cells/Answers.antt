use Rattle.std.proofs.Common.{◌≡◌, ◌++◌, ◌∷◌, [], Some, drop, sym, ◌∙◌, arith}
use Rattle.std.proofs.lemmas.List.{drop-drop}
use Rattle.toast_plan.specs.Reading.{cell_front, cells_front}
use Rattle.toast_plan.proofs.ReadingLaws.{reads_on, pushed}
use Rattle.toast_plan.proofs.reading.read_cells.Goals as goal

pub loop-column-preserved : goal.loop-column-preserved
loop-column-preserved c =
    let at = c.loop-column.at in
    let rest = drop at c.args.bytes.now in
    let taken = c.in_ok-cell.taken in
    let found : cell_front c.column-item.result.kind rest ≡ Some (c.in_ok-cell.cell, drop taken rest) = rw c.split_at.ensures.back at c.in_ok-cell.ensures.read in
    let whole = cells_front c.args.columns.now c.args.bytes.now in
    let on = reads_on c.loop-column.cells c.in_ok-cell.cell c.args.columns.now c.loop-column.column-index c.column-item.result rest (drop taken rest) whole c.column-item.is (omega arith) found c.loop-column.invariant.rest in
    let added : c.push.new.self ≡ c.loop-column.cells ++ c.in_ok-cell.cell ∷ [] = pushed c.push.result (c.push.new.self ≡ c.loop-column.cells ++ c.in_ok-cell.cell ∷ []) (sym c.is_err.ensures.value ∙ c.if-is_err.false) c.push.ensures.ok in
    record {
      rest = rw (added, ← drop-drop taken at c.args.bytes.now) on;
      within = omega (arith, c.in_ok-cell.ensures.within, c.split_at.ensures.back_len);
    }
