use Rattle.std.proofs.Common.{[], ◌∷◌, sym, subst, ◌∙◌}
use Rattle.std.proofs.lemmas.Result.{on_ok_weaker}
use Rattle.lo_base.specs.declared.refusal.Denied.{Denied}
use Rattle.lo_model.specs.Opening.{table_deeds}
use Rattle.toast_plan.specs.Columns.{IsTableColumns}
use Rattle.row_tables.specs.RowRules.{create_table_row}
use Rattle.row_tables.specs.World.{Denies, world}
use Rattle.lo_opening.specs.Opening.{marks_of}
use Rattle.lo_restore.specs.Tables.{named_of, rows_of}
use Rattle.lo_restore.proofs.TablesAdded.{copy_made, do_both, rows_next, table_unrefused}
use Rattle.lo_restore.proofs.tables_restored.restore_table.Goals as goal

pub create_table-requires : goal.create_table-requires
create_table-requires c = record {
  ready = c.requires.can.done.ready;
  columns = subst IsTableColumns (sym (c.in_ok-columns.ensures ∙ c.items-2.ensures)) c.requires.can.is.columns;
}

pub restore_rows-requires : goal.restore_rows-requires
restore_rows-requires c =
    let x = c.args.core.now.xacts in
    let made = copy_made x c.args.s c.requires.alone c.args.tables.now c.create_table.new.self c.args.table.now c.in_ok-name.name c.in_ok-columns.columns (c.in_ok-name.ensures ∙ c.items.ensures) (c.in_ok-columns.ensures ∙ c.items-2.ensures) c.in-Ok.ensures.ok c.in-Ok.ensures.keeps in
    record { alone = c.requires.alone; can = rows_next x c.args.s c.requires.alone c.args.tables.now c.create_table.new.self c.args.table.now c.requires.can made }

pub unreachable-requires : goal.unreachable-requires
unreachable-requires c =
    let x = c.args.core.now.xacts in
    let old = world x c.args.tables.now c.args.s in
    let new = world x c.create_table.new.self c.args.s in
    let denied = subst (λ (d : Denied). Denies (create_table_row c.in_ok-name.name c.in_ok-columns.columns) old new d) c.in-Err-By.field-0-is c.in-Err-By.ensures.err in
    table_unrefused x c.args.s c.requires.alone c.args.tables.now c.args.table.now c.requires.can c.in_ok-name.name c.in_ok-columns.columns (c.in_ok-name.ensures ∙ c.items.ensures) (c.in_ok-columns.ensures ∙ c.items-2.ensures) c.in-Err-By.field-0-0 new denied

pub returns-in-Ok : goal.returns-in-Ok
returns-in-Ok c =
    let x = c.args.core.now.xacts in
    let t = c.args.table.now in
    let made = copy_made x c.args.s c.requires.alone c.args.tables.now c.create_table.new.self t c.in_ok-name.name c.in_ok-columns.columns (c.in_ok-name.ensures ∙ c.items.ensures) (c.in_ok-columns.ensures ∙ c.items-2.ensures) c.in-Ok.ensures.ok c.in-Ok.ensures.keeps in
    record {
      ok = on_ok_weaker c.restore_rows.result (λ more. do_both x c.args.s (named_of t ∷ []) [] [] (table_deeds marks_of (rows_of t)) c.args.tables.now c.create_table.new.self c.restore_rows.new.tables made more) c.restore_rows.ensures.ok;
      core = c.restore_rows.ensures.core;
    }
