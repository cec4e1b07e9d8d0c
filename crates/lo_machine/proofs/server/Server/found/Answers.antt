use Rattle.std.proofs.Common.{◌≡◌, ℕ, ℤ, true, List, map, ap, sym, subst, ◌∙◌}
use Rattle.std.specs.List.{AllByRecursion}
use Rattle.std.proofs.lemmas.Result.{IfOk-weaker}
use Rattle.lo_base.specs.declared.refusal.Denied.{Denied}
use Rattle.lo_model.specs.Database.{Table}
use Rattle.lo_model.specs.Edit.{Deed, Edit}
use Rattle.lo_model.specs.Listing.{has_row}
use Rattle.lo_restore.specs.TablesSaved.{row_values}
use Rattle.lo_restore.proofs.RowsSaved.{edits_seen}
use Rattle.lo_restore.proofs.RowsThere.{ids_not_refused, ids_there, ids_told}
use Rattle.row_tables.specs.Catalog.{columns_in, table_in}
use Rattle.row_tables.specs.RowRules.{ids_row}
use Rattle.row_tables.specs.Standing.{StandFor, tables_in}
use Rattle.row_tables.specs.World.{RefusesIn, world}
use Rattle.lo_machine.specs.Server.{StandsFor}
use Rattle.lo_machine.specs.State.{State, edits, view_of}
use Rattle.lo_machine.specs.SweepRows.{found_in, rows_of}
use Rattle.lo_machine.proofs.ScannedRows.{its_columns, no_columns, nothing_under, numbers_of, numbers_same, rows_there, table_known}
use Rattle.lo_machine.proofs.server.Server.found.Goals as goal

pub returns-in_default : goal.returns-in_default
returns-in_default c st stands =
    let t = c.args.table.now in
    let rows = rows_of st c.args.s t in
    let none = no_columns (table_in t (tables_in c.args.self.now.tables)) c.in_default.ensures.columns in
    let none_there = ap (λ (ts : List Table). columns_in (table_in t ts)) (sym stands.has.tables) ∙ none in
    c.new.ensures ∙ (sym (nothing_under c.args.column.now rows) ∙ ap (λ cs. numbers_of cs c.args.column.now rows) (sym none_there))

pub unreachable-requires : goal.unreachable-requires
unreachable-requires c =
    let e = c.args.self.now in
    let x = e.core.xacts in
    let t = c.args.table.now in
    let v = c.current_look-snap.result in
    let has = table_known t e.tables c.in-Some.columns.now c.in-Some.ensures.columns in
    let refuses = subst (λ (d : Denied). RefusesIn (ids_row t) (world x e.tables 0) v d) c.in-Err-By.field-0-is (c.in-Err-By.ensures.err 0) in
    ids_not_refused x e.tables v 0 t has (edits c.requires.stands.state) c.requires.stands.stands.has.rows c.in-Err-By.field-0-0 refuses

pub numbers_in_rows-requires-clause-there : goal.numbers_in_rows-requires-clause-there
numbers_in_rows-requires-clause-there c =
    let e = c.args.self.now in
    let x = e.core.xacts in
    let t = c.args.table.now in
    let v = c.current_look-snap.result in
    let ys = edits c.requires.stands.state in
    let stand = c.requires.stands.stands.has.rows in
    let has = table_known t e.tables c.in-Some.columns.now c.in-Some.ensures.columns in
    let are = c.items.ensures ∙ ids_told x e.tables v 0 t c.in-Ok.ids (c.in-Ok.ensures.ok 0) ys stand in
    rows_there x e.tables v t c.in-Some.columns.now c.args.column.now has ys stand c.items.result.now (subst (λ (is : List ℤ). AllByRecursion (λ i. has_row (edits_seen v ys) t i ≡ true) is) (sym are) (ids_there t (edits_seen v ys)))

pub returns : goal.returns
returns c =
    let e = c.args.self.now in
    let x = e.core.xacts in
    let t = c.args.table.now in
    let v = c.current_look-snap.result in
    let columns = c.in-Some.columns.now in
    let ids = c.items.result.now in
    IfOk-weaker c.numbers_in_rows.result
    (λ (found : List ℕ). (ys : List (Edit Deed)) → StandFor x e.tables ys → found ≡ numbers_of columns c.args.column.now (map (row_values (edits_seen v ys) t) ids))
    (λ (found : List ℕ). (st : State) → StandsFor e st → found ≡ found_in st c.args.s t c.args.column.now)
    (λ found is st stands.
    let known = its_columns (table_in t (tables_in e.tables)) columns c.in-Some.ensures.columns ∙ ap (λ (ts : List Table). columns_in (table_in t ts)) stands.has.tables in
    let are = c.items.ensures ∙ ids_told x e.tables v 0 t c.in-Ok.ids (c.in-Ok.ensures.ok 0) (edits st) stands.has.rows in
    is (edits st) stands.has.rows ∙ numbers_same columns (columns_in (table_in t st.database.tables)) c.args.column.now t (edits_seen v (edits st)) (view_of st c.args.s) ids known (c.current_look-snap.ensures.view st stands) are)
    c.numbers_in_rows.ensures
