use Rattle.std.proofs.Common.{◌+◌, drop, ap, arith}
use Rattle.lo_image.specs.Image.{object_form, objects_form}
use Rattle.lo_image.proofs.Loop.{item_at}
use Rattle.lo_image.proofs.WritingLaws.{step_by, stop_by, fails}
use Rattle.lo_image.proofs.put_objects.put_objects.Goals as goal

pub returns-in_err-put_object : goal.returns-in_err-put_object
returns-in_err-put_object g c = fails _ c.from_residual.result c.from_residual.ensures.1 (stop_by (object_form c.object-item.result) (objects_form (drop (c.loop-object.object-index + 1) c.args.objects.now)) (objects_form (drop c.loop-object.object-index c.args.objects.now)) (ap objects_form (item_at c.args.objects.now c.loop-object.object-index c.object-item.result c.object-item.is (omega arith))) c.loop-object.invariant c.in_err-put_object.ensures)

pub loop-object-preserved : goal.loop-object-preserved
loop-object-preserved g c = step_by (object_form c.object-item.result) (objects_form (drop (c.loop-object.object-index + 1) c.args.objects.now)) (objects_form (drop c.loop-object.object-index c.args.objects.now)) (ap objects_form (item_at c.args.objects.now c.loop-object.object-index c.object-item.result c.object-item.is (omega arith))) c.loop-object.invariant c.in_ok-put_object.ensures
