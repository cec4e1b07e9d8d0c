use Rattle.std.proofs.Common.{rules, ◌≢◌, length}
use Rattle.std.proofs.lemmas.Bool.{false≢true}
use Rattle.lo_machine.proofs.CellsTold.{flat_counted}
use Rattle.lo_machine.proofs.cells.are_flat.Goals as goal

pub returns-then-columns-row : goal.returns-then-columns-row
returns-then-columns-row c =
    let apart : length c.args.columns.now ≢ length c.args.row.now = search rules in
    ((λ is. absurd (false≢true is)), (λ flat. absurd (apart (flat_counted c.args.columns.now c.args.row.now flat))))
