use Rattle.std.proofs.Common.{◌+◌, [], List, drop, refl, sym, subst, ◌∙◌}
use Rattle.row_versions.specs.declared.base.Core.{Core}
use Rattle.lo_opening.specs.declared.opening.TableData.{TableData}
use Rattle.lo_restore.specs.TablesRestored.{IsAlone}
use Rattle.lo_restore.proofs.ListsLeft.{next_left, none_left}
use Rattle.lo_restore.proofs.TablesLeft.{TablesDone, table_next, tables_begin, tables_end, tables_turn}
use Rattle.lo_restore.proofs.tables_restored.restore_tables.Goals as goal

pub restore_table-requires : goal.restore_table-requires
restore_table-requires c =
    let at = c.loop-table in
    let list = c.args.list.now in
    let left = next_left list list at.table-index c.table-item.result refl c.loop-table-test.true c.table-item.is in
    let done = subst (λ (ts : List TableData). TablesDone at.core.xacts c.args.s list at.tables ts) left at.invariant.done in
    record {
      alone = subst (λ (k : Core). IsAlone k.xacts c.args.s) (sym at.invariant.same) c.requires.alone;
      can = table_next at.core.xacts c.args.s list at.tables c.table-item.result (drop (at.table-index + 1) list) done;
    }

pub loop-table-init : goal.loop-table-init
loop-table-init c = record { same = refl; done = tables_begin c.args.core.now.xacts c.args.s c.args.list.now c.args.tables.now c.requires.none c.requires.rules c.requires.few }

pub loop-table-preserved : goal.loop-table-preserved
loop-table-preserved c =
    let at = c.loop-table in
    let list = c.args.list.now in
    let left = next_left list list at.table-index c.table-item.result refl c.loop-table-test.true c.table-item.is in
    let done = subst (λ (ts : List TableData). TablesDone at.core.xacts c.args.s list at.tables ts) left at.invariant.done in
    let same = c.in_ok-restore_table.ensures.core in
    record {
      same = same ∙ at.invariant.same;
      done = subst (λ (k : Core). TablesDone k.xacts c.args.s list c.restore_table.new.tables (drop (at.table-index + 1) list)) (sym same)
          (tables_turn at.core.xacts c.args.s list at.tables c.restore_table.new.tables c.table-item.result (drop (at.table-index + 1) list) done c.in_ok-restore_table.ensures.ok);
    }

pub returns : goal.returns
returns c =
    let at = c.loop-table in
    let list = c.args.list.now in
    let none = none_left list at.table-index c.loop-table-test.false in
    let done = subst (λ (ts : List TableData). TablesDone at.core.xacts c.args.s list at.tables ts) none at.invariant.done in
    record {
      ok = tables_end c.args.core.now.xacts c.args.s list at.tables (subst (λ (k : Core). TablesDone k.xacts c.args.s list at.tables []) at.invariant.same done);
      core = at.invariant.same;
    }
