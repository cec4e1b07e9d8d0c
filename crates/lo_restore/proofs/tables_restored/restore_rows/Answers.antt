use Rattle.std.proofs.Common.{◌+◌, [], ◌∷◌, List, drop, refl, sym, subst, ◌∙◌}
use Rattle.lo_base.specs.declared.refusal.Denied.{Denied}
use Rattle.lo_base.specs.declared.value.Value.{Value}
use Rattle.row_versions.specs.declared.base.Core.{Core}
use Rattle.row_tables.specs.Calls.{FitTable}
use Rattle.row_tables.specs.RowRules.{insert_row}
use Rattle.row_tables.specs.World.{Denies, Refuses, world}
use Rattle.lo_restore.specs.TablesRestored.{CanTakeRows, IsAlone}
use Rattle.lo_restore.proofs.ListsLeft.{next_left, nothing_left}
use Rattle.lo_restore.proofs.TablesAdded.{row_fits, row_unrefused}
use Rattle.lo_restore.proofs.TablesLeft.{RowsDone, rows_begin, rows_end, rows_step}
use Rattle.lo_restore.proofs.tables_restored.restore_rows.Goals as goal

pub insert-requires : goal.insert-requires
insert-requires c =
    let at = c.loop-row in
    let t = c.args.table.now in
    let alone : IsAlone at.core.xacts c.args.s = subst (λ (k : Core). IsAlone k.xacts c.args.s) (sym at.invariant.same) c.requires.alone in
    let left = next_left t.rows c.items-row-items.result.now at.row-index c.row-item.result c.items-row-items.ensures c.loop-row-test.true c.row-item.is in
    let can : CanTakeRows at.core.xacts c.args.s at.tables t (c.row-item.result ∷ drop (at.row-index + 1) t.rows) = subst (λ (rows : List (List Value)). CanTakeRows at.core.xacts c.args.s at.tables t rows) left at.invariant.done.can in
    record {
      ready = can.done.ready;
      «open» = alone.begun;
      fit = subst (λ (vs : List Value). FitTable at.tables t.name vs) (sym c.items.ensures) (row_fits at.core.xacts c.args.s alone at.tables t c.row-item.result (drop (at.row-index + 1) t.rows) can);
    }

pub unreachable-requires : goal.unreachable-requires
unreachable-requires c =
    let at = c.loop-row in
    let t = c.args.table.now in
    let alone : IsAlone at.core.xacts c.args.s = subst (λ (k : Core). IsAlone k.xacts c.args.s) (sym at.invariant.same) c.requires.alone in
    let left = next_left t.rows c.items-row-items.result.now at.row-index c.row-item.result c.items-row-items.ensures c.loop-row-test.true c.row-item.is in
    let can : CanTakeRows at.core.xacts c.args.s at.tables t (c.row-item.result ∷ drop (at.row-index + 1) t.rows) = subst (λ (rows : List (List Value)). CanTakeRows at.core.xacts c.args.s at.tables t rows) left at.invariant.done.can in
    let old = world at.core.xacts at.tables c.args.s in
    let new = world c.insert.new.core.xacts c.insert.new.self c.args.s in
    let denied = subst (λ (d : Denied). Denies (insert_row t.name c.items.result.now) old new d) c.in-Err-By.field-0-is c.in-Err-By.ensures.err in
    let refused = subst (λ (vs : List Value). Refuses (insert_row t.name vs) old new c.in-Err-By.field-0-0) c.items.ensures denied in
    row_unrefused at.core.xacts c.args.s alone at.tables t c.row-item.result (drop (at.row-index + 1) t.rows) can c.in-Err-By.field-0-0 new refused

pub loop-row-init : goal.loop-row-init
loop-row-init c = record { same = refl; done = rows_begin c.args.core.now.xacts c.args.s c.args.table.now c.args.tables.now c.requires.can }

pub loop-row-preserved : goal.loop-row-preserved
loop-row-preserved c =
    let at = c.loop-row in
    let t = c.args.table.now in
    let alone : IsAlone at.core.xacts c.args.s = subst (λ (k : Core). IsAlone k.xacts c.args.s) (sym at.invariant.same) c.requires.alone in
    let left = next_left t.rows c.items-row-items.result.now at.row-index c.row-item.result c.items-row-items.ensures c.loop-row-test.true c.row-item.is in
    let done : RowsDone at.core.xacts c.args.s t c.args.tables.now at.tables (c.row-item.result ∷ drop (at.row-index + 1) t.rows) = subst (λ (rows : List (List Value)). RowsDone at.core.xacts c.args.s t c.args.tables.now at.tables rows) left at.invariant.done in
    record {
      same = c.in-Ok.ensures.core ∙ at.invariant.same;
      done = rows_step at.core c.insert.new.core c.args.s t c.args.tables.now at.tables c.insert.new.self c.row-item.result c.items.result.now (drop (at.row-index + 1) t.rows) c.in-Ok.ensures.core c.items.ensures alone done c.in-Ok.ensures.ok c.in-Ok.ensures.keeps;
    }

pub returns : goal.returns
returns c =
    let at = c.loop-row in
    let t = c.args.table.now in
    let none = nothing_left t.rows c.items-row-items.result.now at.row-index c.items-row-items.ensures c.loop-row-test.false in
    let done = subst (λ (rows : List (List Value)). RowsDone at.core.xacts c.args.s t c.args.tables.now at.tables rows) none at.invariant.done in
    record {
      ok = rows_end c.args.core.now.xacts c.args.s t c.args.tables.now at.tables (subst (λ (k : Core). RowsDone k.xacts c.args.s t c.args.tables.now at.tables []) at.invariant.same done);
      core = at.invariant.same;
    }
