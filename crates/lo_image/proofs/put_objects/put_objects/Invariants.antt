use Rattle.std.proofs.Common.{drop}
use Rattle.lo_image.specs.Writing.{written, HasLeft}
use Rattle.lo_image.specs.Image.{objects_form}
use Rattle.lo_image.proofs.put_objects.put_objects.Given as goal

abbrev pub invariant-loop-object : goal.invariant-loop-object
invariant-loop-object g l = HasLeft (written g.F.Files l.initial.files l.initial.buffer) (written g.F.Files l.files l.buffer) l.name (objects_form l.objects) (objects_form (drop l.object-index l.objects))
