use Rattle.std.proofs.Common.{[], List, ◌+◌, sym, subst, arith}
use Rattle.std.proofs.lemmas.Result.{err_from_is_err_and}
use Rattle.lo_base.specs.declared.column.Column.{Column}
use Rattle.lo_image.specs.Readers.{many}
use Rattle.lo_image.specs.Reading.{column_at, after_column}
use Rattle.lo_image.proofs.Loop.{HasRead, read_on, ends, is_done}
use Rattle.lo_image.proofs.ColumnLaws.{counted_are}
use Rattle.lo_image.proofs.columns.counted_columns_at.Goals as goal

pub returns-in_err-column-clause-read : goal.returns-in_err-column-clause-read
returns-in_err-column-clause-read c =
    let p = err_from_is_err_and c.from_residual.result c.from_residual.ensures.1 in
    rw (p.1, p.2) (ends c.in_err-column.field-0.0 column_at after_column c.loop.columns c.loop.columns c.args.count c.loop.counter c.loop.rest.now (many column_at after_column [] c.args.count c.args.bytes.now) c.loop-test.true (rw c.items.ensures at c.in_err-column.ensures) c.loop.invariant)

pub loop-preserved : goal.loop-preserved
loop-preserved c =
    let total = many column_at after_column [] c.args.count c.args.bytes.now in
    let one = read_on column_at after_column c.loop.columns c.loop.columns c.args.count c.loop.counter c.loop.rest.now c.in_ok-column.column c.in_ok-column.after.now total c.push.new.self c.loop-test.true (rw c.items.ensures at c.in_ok-column.ensures) c.in_ok-push.ensures.ok c.loop.invariant in
    subst (λ (s : List Column). HasRead Column (List Column) column_at after_column s c.push.new.self c.args.count (c.loop.counter + 1) c.in_ok-column.after.now total) (sym c.in_ok-push.ensures.ok) one

pub returns-clause-read : goal.returns-clause-read
returns-clause-read c = is_done column_at after_column c.loop.columns c.loop.columns c.args.count c.loop.counter c.loop.rest.now (many column_at after_column [] c.args.count c.args.bytes.now) c.loop-test.false c.loop.invariant

pub returns-clause-columns : goal.returns-clause-columns
returns-clause-columns c =
    let read = is_done column_at after_column c.loop.columns c.loop.columns c.args.count c.loop.counter c.loop.rest.now (many column_at after_column [] c.args.count c.args.bytes.now) c.loop-test.false c.loop.invariant in
    counted_are c.args.count c.args.bytes.now (c.loop.columns, c.loop.rest.now) c.requires.some c.requires.few (λ i. omega (arith, c.type_inv.bytes i)) read
