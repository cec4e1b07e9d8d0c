use Rattle.std.proofs.Common.{sym, ap, ◌∙◌}
use Rattle.std.proofs.lemmas.Result.{err_from_is_err_and}
use Rattle.lo_image.specs.Reading.{row_at, after_cells, after_row, rows_at, after_rows}
use Rattle.lo_image.proofs.Loop.{read_on, ends, is_done}
use Rattle.lo_image.proofs.TableLists.{after_rows-pushed}
use Rattle.lo_image.proofs.rows.rows_at.Goals as goal

pub returns-in_err-row-clause-read : goal.returns-in_err-row-clause-read
returns-in_err-row-clause-read c =
    let p = err_from_is_err_and c.from_residual.result c.from_residual.ensures.1 in
    let at = c.loop in
    rw (p.1, p.2) (ends c.in_err-row.field-0.0 (row_at c.args.columns.now c.args.table) after_row at.place at.rows c.args.count at.counter at.rest.now (rows_at c.args.columns.now c.args.table c.args.value c.args.count c.args.bytes.now) c.loop-test.true c.in_err-row.ensures.read at.invariant.0)

pub loop-preserved : goal.loop-preserved
loop-preserved c =
    let at = c.loop in
    let added = c.in_ok-push.ensures.ok in
    let place = c.in_ok-row.ensures.place in (
      rw place (read_on (row_at c.args.columns.now c.args.table) after_row at.place at.rows c.args.count at.counter at.rest.now c.in_ok-row.row c.in_ok-row.after.now (rows_at c.args.columns.now c.args.table c.args.value c.args.count c.args.bytes.now) c.push.new.self c.loop-test.true c.in_ok-row.ensures.read added at.invariant.0),
      rw place (ap (λ (v : _). after_cells v c.in_ok-row.row) at.invariant.1 ∙ sym (after_rows-pushed c.args.value at.rows c.in_ok-row.row) ∙ ap (after_rows c.args.value) (sym added)),
    )

pub returns-clause-read : goal.returns-clause-read
returns-clause-read c =
    let at = c.loop in
    is_done (row_at c.args.columns.now c.args.table) after_row at.place at.rows c.args.count at.counter at.rest.now (rows_at c.args.columns.now c.args.table c.args.value c.args.count c.args.bytes.now) c.loop-test.false at.invariant.0
