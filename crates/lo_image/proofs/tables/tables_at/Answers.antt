use Rattle.std.proofs.Common.{length, ◌+◌, subst}
use Rattle.std.proofs.lemmas.Result.{err_from_is_err_and}
use Rattle.lo_image.specs.declared.place.TableCells.{TableCells}
use Rattle.lo_image.specs.Reading.{TablePlace, table_at, after_table, tables_at}
use Rattle.lo_image.specs.Tables.{place_of, last_name}
use Rattle.lo_image.proofs.Loop.{HasRead, read_on, ends, is_done}
use Rattle.lo_image.proofs.TableLists.{next_place}
use Rattle.lo_image.proofs.tables.tables_at.Goals as goal

pub returns-in_err-table-clause-read : goal.returns-in_err-table-clause-read
returns-in_err-table-clause-read c =
    let p = err_from_is_err_and c.from_residual.result c.from_residual.ensures.1 in
    let at = c.loop in
    rw (p.1, p.2) (ends c.in_err-table.field-0.0 table_at after_table (place_of (last_name at.tables) (length at.tables + 1) at.value) at.tables c.args.count at.counter at.rest.now (tables_at c.args.count c.args.bytes.now) c.loop-test.true (rw (c.items-in-loop.ensures, c.items.ensures) at c.in_err-table.ensures.read) at.invariant)

pub loop-preserved : goal.loop-preserved
loop-preserved c =
    let at = c.loop in
    let added = c.in_ok-push.ensures.ok in
    let total = tables_at c.args.count c.args.bytes.now in
    let p = place_of (last_name at.tables) (length at.tables + 1) at.value in
    let one = read_on table_at after_table p at.tables c.args.count at.counter at.rest.now c.in_ok-table.table c.in_ok-table.after.now total c.push.new.self c.loop-test.true (rw (c.items-in-loop.ensures, c.items.ensures) at c.in_ok-table.ensures.read) added at.invariant in
    subst (λ (s : TablePlace). HasRead TableCells TablePlace table_at after_table s c.push.new.self c.args.count (at.counter + 1) c.in_ok-table.after.now total)
    (next_place at.tables c.push.new.self c.in_ok-table.table at.value c.in_ok-table.next added c.in_ok-table.ensures.value) one

pub returns-clause-read : goal.returns-clause-read
returns-clause-read c =
    let at = c.loop in
    is_done table_at after_table (place_of (last_name at.tables) (length at.tables + 1) at.value) at.tables c.args.count at.counter at.rest.now (tables_at c.args.count c.args.bytes.now) c.loop-test.false at.invariant
