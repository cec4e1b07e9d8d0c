use Rattle.std.proofs.Common.{◌≡◌, ◌+◌, ◌≤◌, ◌++◌, false, get_or, length, drop, ap, ◌∙◌, length-append, arith}
use Rattle.toast_plan.specs.Row.{field_form, row_form, field_of, fields_of}
use Rattle.toast_plan.proofs.FieldSteps.{form_at, count_at, front_at, rest_at, range_at}
use Rattle.toast_plan.proofs.writing.put_fields.Goals as goal

pub loop-place-preserved : goal.loop-place-preserved
loop-place-preserved c =
    let vs = c.args.values.now in
    let os = c.args.outside.now in
    let i = c.loop-place.place in
    let step = c.from-number-in-loop-place.result in
    let piece = field_form (field_of c.args.table c.loop-place.number c.index-values-place.result (get_or os i false)) in
    let others = row_form (fields_of c.args.table c.loop-place.number (drop i vs) (drop i os)) in
    let rest = row_form (fields_of c.args.table (c.loop-place.number + step) (drop (i + 1) vs) (drop (i + 1) os)) in
    let all = row_form (fields_of c.args.table c.args.first vs os) in
    let parts : others ≡ piece ++ rest = form_at c.args.table c.loop-place.number step vs os i c.index-values-place.result c.index-values-place.is (omega arith) (omega arith) c.from-number-in-loop-place.ensures in
    let lengths : length others ≡ length piece + length rest = ap length parts ∙ length-append piece rest in
    let within : c.loop-place.at ≤ length c.loop-place.out = omega arith in
    record {
      front = front_at c.loop-place.at c.put_field-at.result piece c.loop-place.out c.put_field-at.new.out others rest all within c.put_field-at.ensures.end c.put_field-at.ensures.written parts c.loop-place.invariant.front;
      rest = rest_at c.loop-place.at c.put_field-at.result piece c.loop-place.out c.put_field-at.new.out c.args.out.now within c.put_field-at.ensures.end c.put_field-at.ensures.written c.loop-place.invariant.rest;
      same = c.put_field-at.auto.out ∙ c.loop-place.invariant.same;
      end = omega (arith, lengths, c.put_field-at.ensures.end, c.loop-place.invariant.end);
      numbers = omega (arith, count_at step os i (omega arith) c.from-number-in-loop-place.ensures, c.loop-place.invariant.numbers);
      range = range_at vs i c.index-values-place.result c.index-values-place.is (omega arith) c.loop-place.invariant.range c.put_field-at.ensures.range;
    }
