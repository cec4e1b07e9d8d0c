use Rattle.std.proofs.Common.{◌≤◌, List, length, sym, subst, arith}
use Rattle.lo_model.specs.Listing.{by_name, tables_in_order}
use Rattle.row_tables.specs.Standing.{tables_in}
use Rattle.lo_opening.specs.declared.opening.TableData.{TableData}
use Rattle.lo_restore.proofs.ListsLeft.{none_left}
use Rattle.lo_restore.proofs.NamesSaved.{TablesRead, few_in_order, has_table, in_name_order, no_name_left, tables_begin, tables_end, tables_turn}
use Rattle.lo_restore.proofs.tables_saved.all_tables.Goals as goal

pub loop-k-init : goal.loop-k-init
loop-k-init c = subst (λ (list : List TableData). TablesRead c.args.core.now.xacts c.args.tables.now c.args.snap.now 0 list) (sym c.new-list.ensures) (tables_begin c.args.core.now.xacts c.args.tables.now c.args.snap.now)

pub saved_table-requires : goal.saved_table-requires
saved_table-requires c = record {
  kept = c.requires.kept;
  goes = c.requires.goes;
  can = c.requires.can;
  there = has_table c.args.core.now.xacts c.args.tables.now c.args.snap.now c.requires.can c.loop-k.k c.in-Some.name.now c.in-Some.ensures;
}

pub returns-in_default : goal.returns-in_default
returns-in_default c =
    let x = c.args.core.now.xacts in
    let at = c.loop-k in
    let none = no_name_left (tables_in_order (tables_in c.args.tables.now)) at.k (sym c.in_default.ensures) in
    let rows = tables_end x c.args.tables.now c.args.snap.now at.k at.list at.invariant none in
    record {
      rows = rows;
      order = in_name_order x c.args.tables.now c.args.snap.now c.requires.can at.list (rows c.requires.can.edits c.requires.can.stand) at.invariant.each;
      few = omega (arith, at.invariant.count, c.loop-k-test.true);
    }

pub loop-k-preserved : goal.loop-k-preserved
loop-k-preserved c =
    let at = c.loop-k in
    rw c.in_ok-push.ensures.ok (tables_turn c.args.core.now.xacts c.args.tables.now c.args.snap.now c.requires.can at.k at.list c.in-Some.name.now c.in_ok-saved_table.field-0 c.in-Some.ensures at.invariant c.in_ok-saved_table.ensures.table c.in_ok-saved_table.ensures.rows c.in_ok-saved_table.ensures.is)

pub returns : goal.returns
returns c =
    let x = c.args.core.now.xacts in
    let at = c.loop-k in
    let few : length (tables_in_order (tables_in c.args.tables.now)) ≤ at.k = omega (arith, few_in_order by_name (tables_in c.args.tables.now), c.requires.can.tables_are.few, c.loop-k-test.false) in
    let none = none_left (tables_in_order (tables_in c.args.tables.now)) at.k few in
    let rows = tables_end x c.args.tables.now c.args.snap.now at.k at.list at.invariant none in
    record {
      rows = rows;
      order = in_name_order x c.args.tables.now c.args.snap.now c.requires.can at.list (rows c.requires.can.edits c.requires.can.stand) at.invariant.each;
      few = omega (arith, at.invariant.count);
    }
