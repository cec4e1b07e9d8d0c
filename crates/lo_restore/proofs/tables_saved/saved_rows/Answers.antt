use Rattle.std.proofs.Common.{◌≡◌, ◌+◌, ℤ, pos, List, drop, get_or, rules, sym, ap, subst, ◌∙◌, arith, w64, to_z, of_z}
use Rattle.std.specs.List.{AllByRecursion}
use Rattle.lo_base.specs.declared.refusal.Denied.{Denied}
use Rattle.lo_base.specs.declared.value.Value.{Value}
use Rattle.row_tables.specs.RowRules.{ids_row}
use Rattle.row_tables.specs.World.{RefusesIn, world}
use Rattle.lo_restore.specs.TablesSaved.{HasRowThere, row_values}
use Rattle.lo_restore.proofs.ListsLeft.{next_got, none_left}
use Rattle.lo_restore.proofs.RowsSaved.{RowsRead, edits_seen, reading_begins, reading_ends, reading_next}
use Rattle.lo_restore.proofs.RowsThere.{ids_not_refused, ids_told}
use Rattle.lo_restore.proofs.tables_saved.saved_rows.Goals as goal

pub ids-requires : goal.ids-requires
ids-requires c = record { kept = c.requires.kept; goes = c.requires.goes }

pub unreachable-requires : goal.unreachable-requires
unreachable-requires c =
    let x = c.args.core.now.xacts in
    let w = world x c.args.tables.now 0 in
    let refuses = subst (λ (d : Denied). RefusesIn (ids_row c.args.name.now) w c.args.snap.now d) c.in-Err-By.field-0-is (c.in-Err-By.ensures.err 0) in
    ids_not_refused x c.args.tables.now c.args.snap.now 0 c.args.name.now c.requires.there c.requires.can.edits c.requires.can.stand c.in-Err-By.field-0-0 refuses

pub loop-id-init : goal.loop-id-init
loop-id-init c =
    let x = c.args.core.now.xacts in
    let ids = c.items-id-items.result.now in
    let are = c.items-id-items.ensures ∙ ids_told x c.args.tables.now c.args.snap.now 0 c.args.name.now c.in-Ok.ids (c.in-Ok.ensures.ok 0) c.requires.can.edits c.requires.can.stand in
    subst (λ (rows : List (List Value)). RowsRead x c.args.tables.now c.args.snap.now c.args.name.now ids ids rows) (sym c.new-rows.ensures) (reading_begins x c.args.tables.now c.args.snap.now c.args.name.now c.requires.can c.requires.there ids are)

pub saved_row-requires : goal.saved_row-requires
saved_row-requires c =
    let x = c.args.core.now.xacts in
    let ids = c.items-id-items.result.now in
    let id = get_or ids c.loop-id.id-index (pos 0) in
    let left = next_got ids c.loop-id.id-index (pos 0) c.loop-id-test.true in
    let there = subst (λ (is : List ℤ). AllByRecursion (HasRowThere x c.args.tables.now c.args.snap.now c.args.name.now) is) left c.loop-id.invariant.there in
    let same : to_z w64 (of_z w64 id) ≡ id = search rules in
    record {
      kept = c.requires.kept;
      goes = c.requires.goes;
      there = subst (λ (i : ℤ). HasRowThere x c.args.tables.now c.args.snap.now c.args.name.now i) (sym same) there.0;
    }

pub loop-id-preserved : goal.loop-id-preserved
loop-id-preserved c =
    let x = c.args.core.now.xacts in
    let v = c.args.snap.now in
    let ids = c.items-id-items.result.now in
    let id = get_or ids c.loop-id.id-index (pos 0) in
    let left = next_got ids c.loop-id.id-index (pos 0) c.loop-id-test.true in
    let reads = subst (λ (is : List ℤ). RowsRead x c.args.tables.now v c.args.name.now ids is c.loop-id.rows) left c.loop-id.invariant in
    let same : to_z w64 (of_z w64 id) ≡ id = search rules in
    rw c.in_ok-push.ensures.ok (reading_next x c.args.tables.now v c.args.name.now ids id (drop (c.loop-id.id-index + 1) ids) c.loop-id.rows c.in_ok-saved_row.field-0 reads
    (λ ys stand. c.in_ok-saved_row.ensures.row ys stand ∙ ap (row_values (edits_seen v ys) c.args.name.now) same)
    c.in_ok-saved_row.ensures.range)

pub returns : goal.returns
returns c =
    let x = c.args.core.now.xacts in
    let v = c.args.snap.now in
    let at = c.loop-id in
    let ids = c.items-id-items.result.now in
    let none = none_left ids at.id-index c.loop-id-test.false in
    record {
      rows = λ ys stand. reading_ends x c.args.tables.now v c.args.name.now ids (drop at.id-index ids) at.rows at.invariant none ys stand (c.items-id-items.ensures ∙ ids_told x c.args.tables.now v 0 c.args.name.now c.in-Ok.ids (c.in-Ok.ensures.ok 0) ys stand);
      range = at.invariant.range;
      few = omega (arith, at.invariant.count);
    }
