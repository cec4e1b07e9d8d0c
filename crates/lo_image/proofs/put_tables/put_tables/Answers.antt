use Rattle.std.proofs.Common.{◌+◌, drop, refl, arith}
use Rattle.lo_opening.specs.Opening.{rows_outside}
use Rattle.lo_image.specs.Image.{table_form, tables_form}
use Rattle.lo_image.proofs.Left.{tables_at, table_chunks_left, tables_left}
use Rattle.lo_image.proofs.WritingLaws.{nothing_given, step_by, stop_by, fails}
use Rattle.lo_image.proofs.put_tables.put_tables.Goals as goal

pub loop-place-init : goal.loop-place-init
loop-place-init g c = record { puts = nothing_given _ _ _; tables = c.requires.tables; chunks = omega arith }

pub returns-in_err-next-clause-puts : goal.returns-in_err-next-clause-puts
returns-in_err-next-clause-puts g c =
    let ts = c.args.tables.now in
    let i = c.loop-place.place in
    let t = c.index-tables-place.result in
    let value = c.loop-place.next.value in
    let next = value + rows_outside t.columns t.rows in
    let left = tables_left (i + 1) value next ts i t c.index-tables-place.is (omega arith) refl in
    fails _ c.from_residual.result c.from_residual.ensures.1 (stop_by (table_form (i + 1) value t) (tables_form (i + 1 + 1) next (drop (i + 1) ts)) _ left c.loop-place.invariant.puts c.in_err-next.ensures.puts)

pub loop-place-preserved : goal.loop-place-preserved
loop-place-preserved g c =
    let ts = c.args.tables.now in
    let i = c.loop-place.place in
    let t = c.index-tables-place.result in
    let value = c.loop-place.next.value in
    let next = c.in_ok-next.next.value in
    let left = tables_left (i + 1) value next ts i t c.index-tables-place.is (omega arith) c.in_ok-next.ensures.value in
    record {
      puts = step_by (table_form (i + 1) value t) (tables_form (i + 1 + 1) next (drop (i + 1) ts)) _ left c.loop-place.invariant.puts c.in_ok-next.ensures.puts;
      tables = rw c.in_ok-next.ensures.value (tables_at value ts i t c.index-tables-place.is (omega arith) c.loop-place.invariant.tables).1;
      chunks = omega (arith, c.in_ok-next.ensures.chunks, c.loop-place.invariant.chunks, table_chunks_left ts i t c.index-tables-place.is (omega arith));
    }
