use Rattle.std.proofs.Common.{◌≡◌, [], List, ap, sym, subst, ◌∙◌}
use Rattle.std.specs.Vec.Iter.{into_iter_items}
use Rattle.lo_base.specs.declared.value.Cell.{Cell}
use Rattle.lo_machine.specs.FlatRows.{told_cells}
use Rattle.lo_machine.proofs.CellsTold.{Telling, all_told, nothing_left, told_end}
use Rattle.lo_machine.proofs.cells.reply_cells.Goals as goal

pub returns : goal.returns
returns c =
    let at = c.loop-cell in
    let empty : into_iter_items at.cell-iterator ≡ [] = nothing_left (into_iter_items at.cell-iterator) (sym at.invariant.1 ∙ c.in-None.ensures.steps.0) in
    λ values is.
    told_end c.args.columns.now c.args.row at.left.now at.cells (subst (λ (xs : List Cell). Telling c.args.columns.now c.args.row at.left.now xs at.cells) empty at.invariant.0)
    ∙ ap (told_cells c.args.columns.now) is
    ∙ all_told c.args.columns.now values
