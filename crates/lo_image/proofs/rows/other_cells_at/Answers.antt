use Rattle.std.proofs.Common.{sym, ap, ◌∙◌, arith}
use Rattle.std.proofs.lemmas.Result.{err_from_is_err_and}
use Rattle.lo_image.specs.Readers.{with_front, each}
use Rattle.lo_image.specs.Reading.{cell_at, after_cell, after_column_cell, after_cells}
use Rattle.lo_image.proofs.Loop.{index_on, index_ends, index_done}
use Rattle.lo_image.proofs.TableLists.{after_cells-pushed}
use Rattle.lo_image.proofs.rows.other_cells_at.Goals as goal

pub returns-in_err-cell-clause-read : goal.returns-in_err-cell-clause-read
returns-in_err-cell-clause-read c =
    let p = err_from_is_err_and c.from_residual.result c.from_residual.ensures.1 in
    let at = c.loop-column in
    let total = with_front c.args.front (each (cell_at c.args.table) after_column_cell c.args.value c.args.columns.now c.args.bytes.now) in
    rw (p.1, p.2) (index_ends c.in_err-cell.field-0.0 (cell_at c.args.table) after_column_cell at.next at.cells c.column-item.result c.args.columns.now at.column-index at.rest.now total c.column-item.is (omega arith) c.in_err-cell.ensures.read at.invariant.0)

pub loop-column-preserved : goal.loop-column-preserved
loop-column-preserved c =
    let at = c.loop-column in
    let total = with_front c.args.front (each (cell_at c.args.table) after_column_cell c.args.value c.args.columns.now c.args.bytes.now) in
    let added = c.in_ok-push.ensures.ok in (
      rw c.after_cell-next.ensures (index_on (cell_at c.args.table) after_column_cell at.next at.cells c.column-item.result c.args.columns.now at.column-index at.rest.now c.in_ok-cell.cell c.in_ok-cell.after.now total c.push.new.self c.column-item.is (omega arith) c.in_ok-cell.ensures.read added at.invariant.0),
      c.after_cell-next.ensures ∙ ap (λ (v : _). after_cell v c.in_ok-cell.cell) at.invariant.1 ∙ sym (after_cells-pushed c.args.value at.cells c.in_ok-cell.cell) ∙ ap (after_cells c.args.value) (sym added),
    )

pub returns-clause-read : goal.returns-clause-read
returns-clause-read c =
    let at = c.loop-column in
    index_done (cell_at c.args.table) after_column_cell at.next at.cells c.args.columns.now at.column-index at.rest.now _ (omega arith) at.invariant.0
