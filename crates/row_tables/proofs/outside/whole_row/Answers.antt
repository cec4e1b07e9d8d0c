use Rattle.std.proofs.Common.{rules, ◌≤◌, ◌∙◌, false, length, sym, ap, subst}
use Rattle.std.proofs.lemmas.List.{take_all}
use Rattle.row_tables.specs.Cells.{brought, whole_row}
use Rattle.row_tables.specs.Outside.{HasItsValue}
use Rattle.row_tables.proofs.WholeCells.{each_or, whole_more}
use Rattle.row_tables.proofs.outside.whole_row.Goals as goal

pub loop-cell-init : goal.loop-cell-init
loop-cell-init c = λ told has. c.in_ok-whole.ensures.items

pub loop-cell-preserved : goal.loop-cell-preserved
loop-cell-preserved c = λ told has.
    let row = c.args.row.now in
    let i = c.loop-cell.cell-index in
    let has_own : HasItsValue told c.args.core.now.xacts c.args.snap.now c.args.chunks.now c.cell-item.result = subst (HasItsValue told c.args.core.now.xacts c.args.snap.now c.args.chunks.now) (sym c.cell-item.is) (each_or (HasItsValue told c.args.core.now.xacts c.args.snap.now c.args.chunks.now) row i c.cell-item.result c.loop-cell-test.true has) in
    whole_more told row i c.cell-item.result c.in_ok-whole_cell.field-0 c.loop-cell.whole.items c.push.new.self.items c.loop-cell-test.true (c.loop-cell.invariant told has) c.in_ok-push.ensures.items (c.in_ok-whole_cell.ensures told has_own ∙ ap (brought told false) c.cell-item.is)

pub returns : goal.returns
returns c = λ told has.
    let past : length c.args.row.now ≤ c.loop-cell.cell-index = search rules in
    c.loop-cell.invariant told has ∙ ap (whole_row told) (take_all c.loop-cell.cell-index c.args.row.now past)
