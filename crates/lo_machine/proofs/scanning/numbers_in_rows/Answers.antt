use Rattle.std.proofs.Common.{rules, ◌≡◌, ℕ, ℤ, pos, ◌+◌, List, ◌++◌, drop, get_or, sym, ap, subst, ◌∙◌, append-nil, w64, to_z, of_z}
use Rattle.lo_restore.specs.TablesSaved.{row_values}
use Rattle.lo_restore.proofs.ListsLeft.{next_got, none_left}
use Rattle.lo_restore.proofs.RowsSaved.{edits_seen}
use Rattle.row_tables.specs.Values.{cells_of}
use Rattle.lo_machine.proofs.ScannedRows.{Scanning, scanning_ends, scanning_next}
use Rattle.lo_machine.proofs.scanning.numbers_in_rows.Goals as goal

pub loop-id-preserved-in_default : goal.loop-id-preserved-in_default
loop-id-preserved-in_default c =
    let x = c.args.core.now.xacts in
    let v = c.args.snap.now in
    let t = c.args.table.now in
    let ids = c.args.ids.now in
    let found = c.loop-id.found in
    let id = get_or ids c.loop-id.id-index (pos 0) in
    let left = next_got ids c.loop-id.id-index (pos 0) c.loop-id-test.true in
    let scanning = subst (λ (is : List ℤ). Scanning x c.args.tables.now v t c.args.columns.now c.args.column.now ids is found) left c.loop-id.invariant in
    let same : to_z w64 (of_z w64 id) ≡ id = search rules in
    scanning_next x c.args.tables.now v t c.args.columns.now c.args.column.now ids id (drop (c.loop-id.id-index + 1) ids) found found scanning
    (λ ys stand.
    let row = c.items.ensures ∙ (c.in_ok-row.ensures ys stand ∙ ap (λ (i : ℤ). cells_of (row_values (edits_seen v ys) t i)) same) in
    sym (append-nil found) ∙ ap (λ (ns : List ℕ). found ++ ns) (sym (c.in_default.ensures (row_values (edits_seen v ys) t id) row)))

pub loop-id-preserved : goal.loop-id-preserved
loop-id-preserved c =
    let x = c.args.core.now.xacts in
    let v = c.args.snap.now in
    let t = c.args.table.now in
    let ids = c.args.ids.now in
    let found = c.loop-id.found in
    let id = get_or ids c.loop-id.id-index (pos 0) in
    let left = next_got ids c.loop-id.id-index (pos 0) c.loop-id-test.true in
    let scanning = subst (λ (is : List ℤ). Scanning x c.args.tables.now v t c.args.columns.now c.args.column.now ids is found) left c.loop-id.invariant in
    let same : to_z w64 (of_z w64 id) ≡ id = search rules in
    scanning_next x c.args.tables.now v t c.args.columns.now c.args.column.now ids id (drop (c.loop-id.id-index + 1) ids) found c.push.new.self scanning
    (λ ys stand.
    let row = c.items.ensures ∙ (c.in_ok-row.ensures ys stand ∙ ap (λ (i : ℤ). cells_of (row_values (edits_seen v ys) t i)) same) in
    c.in_ok-push.ensures.ok ∙ ap (λ (ns : List ℕ). found ++ ns) (sym (c.in-Some.ensures (row_values (edits_seen v ys) t id) row)))

pub returns : goal.returns
returns c ys stand =
    let ids = c.args.ids.now in
    scanning_ends c.args.core.now.xacts c.args.tables.now c.args.snap.now c.args.table.now c.args.columns.now c.args.column.now ids (drop c.loop-id.id-index ids) c.loop-id.found c.loop-id.invariant (none_left ids c.loop-id.id-index c.loop-id-test.false) ys stand
