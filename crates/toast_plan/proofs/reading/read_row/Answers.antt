use Rattle.std.proofs.Common.{◌≡◌, Some, None, drop, refl, sym, ap, subst, arith}
use Rattle.std.proofs.lemmas.Bool.{false≢true}
use Rattle.toast_plan.specs.declared.reading.ReadRow.{ReadRow}
use Rattle.toast_plan.specs.Reading.{cells_front, AreRowCells}
use Rattle.toast_plan.proofs.CellLaws.{no_row, cells_same, cells_have_lengths, row_found, refused, granted}
use Rattle.toast_plan.proofs.ReadingLaws.{cells_take}
use Rattle.toast_plan.proofs.reading.read_row.Goals as goal

pub returns-in-Err-NoRow-clause-none : goal.returns-in-Err-NoRow-clause-none
returns-in-Err-NoRow-clause-none c =
    let none : cells_front c.args.columns.now c.args.bytes.now ≡ None = rw c.in-Err-NoRow.field-0-is at c.in-Err-NoRow.ensures.read in
    no_row c.args.columns.now c.args.bytes.now none

pub returns-in-Err-NoRow-clause-read_back : goal.returns-in-Err-NoRow-clause-read_back
returns-in-Err-NoRow-clause-read_back c = λ fs rest row e. absurd (returns-in-Err-NoRow-clause-none c fs rest row e)

pub are_row_cells-requires-clause-same : goal.are_row_cells-requires-clause-same
are_row_cells-requires-clause-same c =
    let bytes = c.args.bytes.now in
    let t = cells_take c.args.columns.now bytes (c.in-Ok.found.0, drop c.in-Ok.found.1 bytes) (λ i. omega (arith, c.type_inv.bytes i)) c.in-Ok.ensures.read in
    rw c.items.ensures (cells_same c.args.columns.now bytes c.in-Ok.found.0 (drop c.in-Ok.found.1 bytes) t)

pub are_row_cells-requires-clause-lengths : goal.are_row_cells-requires-clause-lengths
are_row_cells-requires-clause-lengths c =
    let bytes = c.args.bytes.now in
    let t = cells_take c.args.columns.now bytes (c.in-Ok.found.0, drop c.in-Ok.found.1 bytes) (λ i. omega (arith, c.type_inv.bytes i)) c.in-Ok.ensures.read in
    rw c.items.ensures (cells_have_lengths c.args.columns.now bytes c.in-Ok.found.0 (drop c.in-Ok.found.1 bytes) t)

pub returns-then-not-are_row_cells-clause-none : goal.returns-then-not-are_row_cells-clause-none
returns-then-not-are_row_cells-clause-none c =
    let none : AreRowCells c.args.columns.now c.in-Ok.found.0 → ⊥ = λ are. false≢true (c.if-not-are_row_cells.ensures.1 (subst (AreRowCells c.args.columns.now) (sym c.items.ensures) are)) in
    refused c.args.columns.now c.args.bytes.now c.in-Ok.found.0 c.in-Ok.found.1 c.in-Ok.ensures.read none

pub returns-then-not-are_row_cells-clause-read_back :
    goal.returns-then-not-are_row_cells-clause-read_back
returns-then-not-are_row_cells-clause-read_back c = λ fs rest row e. absurd (returns-then-not-are_row_cells-clause-none c fs rest row e)

pub returns-clause-found : goal.returns-clause-found
returns-clause-found c =
    let bytes = c.args.bytes.now in
    let t = cells_take c.args.columns.now bytes (c.in-Ok.found.0, drop c.in-Ok.found.1 bytes) (λ i. omega (arith, c.type_inv.bytes i)) c.in-Ok.ensures.read in
    let are : AreRowCells c.args.columns.now c.in-Ok.found.0 = subst (AreRowCells c.args.columns.now) c.items.ensures (c.if-not-are_row_cells.ensures.0 refl) in
    row_found c.args.columns.now bytes c.in-Ok.found.0 c.in-Ok.found.1 c.in-Ok.ensures.within t are

pub returns-clause-read_back : goal.returns-clause-read_back
returns-clause-read_back c = λ fs rest row e.
    ap (λ (r : ReadRow). Some r) (granted c.args.columns.now c.args.bytes.now c.in-Ok.found.0 c.in-Ok.found.1 fs rest c.in-Ok.ensures.within c.in-Ok.ensures.read row e)
