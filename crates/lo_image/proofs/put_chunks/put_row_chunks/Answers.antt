use Rattle.std.proofs.Common.{◌+◌, false, drop, get_or, refl, arith}
use Rattle.std.specs.Int.{from_bool}
use Rattle.toast_plan.proofs.FieldSteps.{count_at}
use Rattle.lo_image.specs.Image.{marked_form, row_chunks_form}
use Rattle.lo_image.proofs.Left.{row_left}
use Rattle.lo_image.proofs.WritingLaws.{nothing_given, step_by, stop_by, fails}
use Rattle.lo_image.proofs.put_chunks.put_row_chunks.Goals as goal

pub loop-place-init : goal.loop-place-init
loop-place-init g c = record { puts = nothing_given _ _ _; value = refl }

pub returns-in_err-put_marked-clause-puts : goal.returns-in_err-put_marked-clause-puts
returns-in_err-put_marked-clause-puts g c =
    let vs = c.args.values.now in
    let os = c.args.marks.now in
    let i = c.loop-place.place in
    let v = c.index-values-place.result in
    let o = get_or os i false in
    let left = row_left c.loop-place.number (from_bool o) vs os i v c.index-values-place.is (omega arith) (omega arith) refl in
    fails _ c.from_residual.result c.from_residual.ensures.1 (stop_by (marked_form c.loop-place.number v o) (row_chunks_form (c.loop-place.number + from_bool o) (drop (i + 1) vs) (drop (i + 1) os)) _ left c.loop-place.invariant.puts c.in_err-put_marked.ensures)

pub loop-place-preserved : goal.loop-place-preserved
loop-place-preserved g c =
    let vs = c.args.values.now in
    let os = c.args.marks.now in
    let i = c.loop-place.place in
    let v = c.index-values-place.result in
    let o = get_or os i false in
    let next = c.from-number.result in
    let left = row_left c.loop-place.number next vs os i v c.index-values-place.is (omega arith) (omega arith) c.from-number.ensures in
    record {
      puts = step_by (marked_form c.loop-place.number v o) (row_chunks_form (c.loop-place.number + next) (drop (i + 1) vs) (drop (i + 1) os)) _ left c.loop-place.invariant.puts c.in_ok-put_marked.ensures;
      value = omega (arith, c.loop-place.invariant.value, count_at next os i (omega arith) c.from-number.ensures);
    }
