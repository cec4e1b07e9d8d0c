use Rattle.std.proofs.Common.{subst, w64}
use Rattle.std.proofs.lemmas.Int.{to_z-of_z}
use Rattle.lo_base.specs.declared.refusal.Denied.{Denied}
use Rattle.row_tables.specs.RowRules.{get_row}
use Rattle.row_tables.specs.World.{RefusesIn, world}
use Rattle.lo_restore.proofs.RowsThere.{cells_told, row_not_refused}
use Rattle.lo_machine.proofs.scanning.row_there.Goals as goal

pub unreachable-requires : goal.unreachable-requires
unreachable-requires c =
    let x = c.args.core.now.xacts in
    let w = world x c.args.tables.now 0 in
    let refuses = subst (λ (d : Denied). RefusesIn (get_row c.args.table.now c.args.id) w c.args.snap.now d) c.in-Err-By.field-0-is (rw (to_z-of_z w64 c.args.id c.ranges.id) at (c.in-Err-By.ensures.err 0)) in
    row_not_refused x c.args.tables.now c.args.snap.now 0 c.args.table.now c.args.id c.requires.there c.in-Err-By.field-0-0 refuses

pub returns-in-Ok : goal.returns-in-Ok
returns-in-Ok c ys stand = cells_told c.args.core.now.xacts c.args.tables.now c.args.snap.now 0 c.args.table.now c.args.id c.in-Ok.row (rw (to_z-of_z w64 c.args.id c.ranges.id) at (c.in-Ok.ensures.ok 0)) ys stand
