use Rattle.std.proofs.Common.{◌≡◌, ◌≤◌, None, List, length, sym, subst, ◌∙◌, arith}
use Rattle.lo_opening.specs.declared.opening.TableData.{TableData}
use Rattle.lo_opening.specs.Opening.{AreTables}
use Rattle.lo_restore.specs.Tries.{sample}
use Rattle.lo_restore.proofs.RestoredTables.{can_save}
use Rattle.lo_restore.proofs.Samples.{sample_rules}
use Rattle.lo_restore.proofs.TablesBegin.{alone_begun, tables_begun}
use Rattle.lo_restore.proofs.tests.tables.saved_again.Goals as goal

pub restore_tables-requires : goal.restore_tables-requires
restore_tables-requires c =
    let x = c.in_ok-core.core.xacts in
    let opens = c.in_ok-core.ensures in
    let list : c.items.result.now ≡ sample = c.items.ensures ∙ c.requires in
    let made = c.in_ok-tables.ensures in
    let few : length sample ≤ 1000 = omega arith in
    record {
      alone = alone_begun c.args.s x opens;
      none = tables_begun c.args.s x opens c.in_ok-tables.tables made.none (made.stand x) (made.goes x) (made.open x) made.cursors;
      rules = subst (λ (ts : List TableData). AreTables None 1 1 ts) (sym list) sample_rules;
      few = subst (λ (ts : List TableData). length ts ≤ 1000) (sym list) few;
    }

pub saved_tables-requires : goal.saved_tables-requires
saved_tables-requires c =
    let x = c.in_ok-core.core.xacts in
    let list : c.items.result.now ≡ sample = c.items.ensures ∙ c.requires in
    let same = c.in_ok-restore_tables.ensures.core in
    let done = c.in_ok-restore_tables.ensures.ok in
    let alone = alone_begun c.args.s x c.in_ok-core.ensures in
    let rules : AreTables None 1 1 c.items.result.now = subst (λ (ts : List TableData). AreTables None 1 1 ts) (sym list) sample_rules in
    let few : length sample ≤ 1000 = omega arith in
    let few_items : length c.items.result.now ≤ 1000 = subst (λ (ts : List TableData). length ts ≤ 1000) (sym list) few in
    record {
      kept = c.snapshot-snap.ensures.kept (rw same alone.begun);
      goes = rw same done.ready.goes;
      can = rw (c.snapshot-snap.ensures.view, same) (can_save x c.args.s c.restore_tables.new.tables c.items.result.now rules few_items done);
    }
