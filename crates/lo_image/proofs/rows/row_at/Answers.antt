use Rattle.std.proofs.Common.{ap, sym, ◌∙◌, arith}
use Rattle.lo_image.specs.Reading.{are_planned}
use Rattle.lo_image.proofs.ColumnLaws.{some_columns}
use Rattle.lo_image.proofs.RowLaws.{cells_reads, row_has_lengths, row_unplanned, row_planned}
use Rattle.lo_image.proofs.rows.row_at.Goals as goal

pub cells_at-requires : goal.cells_at-requires
cells_at-requires c = some_columns c.args.columns.now c.requires

pub are_planned-requires : goal.are_planned-requires
are_planned-requires c =
    let t = (cells_reads c.args.columns.now c.args.table c.args.place).takes c.args.bytes.now _ (λ i. omega (arith, c.type_inv.bytes i)) c.in_ok-cells.ensures.read in
    let h = row_has_lengths c.args.columns.now c.args.table c.args.place _ c.requires t.1 in
    rw c.items.ensures (record { columns = c.requires; same = h.1; lengths = h.0 })

pub returns-then-not-are_planned-clause-read : goal.returns-then-not-are_planned-clause-read
returns-then-not-are_planned-clause-read c =
    rw c.fails.ensures (row_unplanned c.args.columns.now c.args.table c.args.place c.args.bytes.now (c.in_ok-cells.cells, c.in_ok-cells.rest.now) c.in_ok-cells.ensures.read (ap (are_planned c.args.columns.now) (sym c.items.ensures) ∙ sym c.are_planned.ensures ∙ c.if-not-are_planned.true))

pub returns-clause-read : goal.returns-clause-read
returns-clause-read c =
    row_planned c.args.columns.now c.args.table c.args.place c.args.bytes.now (c.in_ok-cells.cells, c.in_ok-cells.rest.now) c.in_ok-cells.ensures.read (ap (are_planned c.args.columns.now) (sym c.items.ensures) ∙ sym c.are_planned.ensures ∙ c.if-not-are_planned.false)
