use Rattle.std.proofs.Common.{rules, arith}
use Rattle.std.proofs.lemmas.Result.{err_from_is_err_and}
use Rattle.lo_script.specs.ReplyText.{cell_text}
use Rattle.lo_script.proofs.PrintedFronts.{stopped_at}
use Rattle.lo_script.proofs.reply.append_cells.Goals as goal

pub returns-in_err-append_spaced_cell-clause-err : goal.returns-in_err-append_spaced_cell-clause-err
returns-in_err-append_spaced_cell-clause-err c =
    let p = err_from_is_err_and c.from_residual.result c.from_residual.ensures.1 in
    rw p.1
    (stopped_at cell_text c.args.cells.now c.loop-cell.cell-index c.cell-item.result c.cell-item.result c.args.out.now c.loop-cell.out c.append_spaced_cell.new.out
    (search (rules, arith)) (search rules) c.loop-cell.invariant c.in_err-append_spaced_cell.ensures.err)
