use Rattle.std.proofs.lemmas.Result.{err_from_is_err_and}
use Rattle.lo_image.specs.Reading.{object_at, after_object, objects_at}
use Rattle.lo_image.proofs.Loop.{read_on, ends, is_done}
use Rattle.lo_image.proofs.objects.objects_at.Goals as goal

pub returns-in_err-object-clause-read : goal.returns-in_err-object-clause-read
returns-in_err-object-clause-read c =
    let p = err_from_is_err_and c.from_residual.result c.from_residual.ensures.1 in
    rw (p.1, p.2) (ends c.in_err-object.field-0.0 (object_at) after_object c.loop.place c.loop.objects c.args.count c.loop.counter c.loop.rest.now (objects_at c.args.held c.args.count c.args.bytes.now) c.loop-test.true c.in_err-object.ensures.read c.loop.invariant)

pub loop-preserved : goal.loop-preserved
loop-preserved c =
    rw c.after_object-place.ensures (read_on (object_at) after_object c.loop.place c.loop.objects c.args.count c.loop.counter c.loop.rest.now c.in_ok-object.object c.in_ok-object.after.now (objects_at c.args.held c.args.count c.args.bytes.now) c.push.new.self c.loop-test.true c.in_ok-object.ensures.read c.in_ok-push.ensures.ok c.loop.invariant)

pub returns-clause-read : goal.returns-clause-read
returns-clause-read c = is_done (object_at) after_object c.loop.place c.loop.objects c.args.count c.loop.counter c.loop.rest.now (objects_at c.args.held c.args.count c.args.bytes.now) c.loop-test.false c.loop.invariant
