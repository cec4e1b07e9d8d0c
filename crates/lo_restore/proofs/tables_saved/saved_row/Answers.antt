use Rattle.std.proofs.Common.{◌≡◌, List, sym, subst, ◌∙◌, w64}
use Rattle.std.proofs.lemmas.Int.{to_z-of_z}
use Rattle.std.specs.List.{AllByRecursion}
use Rattle.std.proofs.lemmas.Result.{IfOk-weaker}
use Rattle.lo_base.specs.declared.refusal.Denied.{Denied}
use Rattle.lo_base.specs.declared.value.Cell.{Cell}
use Rattle.row_tables.specs.RowRules.{get_row}
use Rattle.row_tables.specs.Values.{cells_of}
use Rattle.row_tables.specs.World.{RefusesIn, world}
use Rattle.lo_restore.specs.TablesSaved.{HasValueIn, row_values}
use Rattle.lo_restore.proofs.CellValues.{have_values, one_row}
use Rattle.lo_restore.proofs.RowsSaved.{edits_seen}
use Rattle.lo_restore.proofs.RowsThere.{cells_told, row_not_refused}
use Rattle.lo_restore.proofs.tables_saved.saved_row.Goals as goal

pub values_of-requires : goal.values_of-requires
values_of-requires c =
    let x = c.args.core.now.xacts in
    let v = c.args.snap.now in
    let has = c.requires.there in
    let same = cells_told x c.args.tables.now v 0 c.args.name.now c.args.id c.in-Ok.cells (rw (to_z-of_z w64 c.args.id c.ranges.id) at (c.in-Ok.ensures.ok 0)) has.edits has.stand in
    subst (λ (cells : List Cell). AllByRecursion HasValueIn cells) (sym same) (have_values (row_values (edits_seen v has.edits) c.args.name.now c.args.id))

pub unreachable-requires : goal.unreachable-requires
unreachable-requires c =
    let x = c.args.core.now.xacts in
    let w = world x c.args.tables.now 0 in
    let refuses = subst (λ (d : Denied). RefusesIn (get_row c.args.name.now c.args.id) w c.args.snap.now d) c.in-Err-By.field-0-is (rw (to_z-of_z w64 c.args.id c.ranges.id) at (c.in-Err-By.ensures.err 0)) in
    row_not_refused x c.args.tables.now c.args.snap.now 0 c.args.name.now c.args.id c.requires.there c.in-Err-By.field-0-0 refuses

pub returns-in-Ok-clause-row : goal.returns-in-Ok-clause-row
returns-in-Ok-clause-row c ys stand =
    let x = c.args.core.now.xacts in
    let v = c.args.snap.now in
    let same = cells_told x c.args.tables.now v 0 c.args.name.now c.args.id c.in-Ok.cells (rw (to_z-of_z w64 c.args.id c.ranges.id) at (c.in-Ok.ensures.ok 0)) ys stand in
    let vs = row_values (edits_seen v ys) c.args.name.now c.args.id in
    IfOk-weaker c.values_of.result (λ row. cells_of row ≡ c.in-Ok.cells) (λ row. row ≡ vs) (λ row is. one_row row vs (is ∙ same)) c.values_of.ensures.cells
