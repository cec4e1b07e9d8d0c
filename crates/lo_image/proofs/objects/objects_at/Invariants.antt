use Rattle.lo_image.specs.Reading.{object_at, after_object, objects_at}
use Rattle.lo_image.proofs.Loop.{HasRead}
use Rattle.lo_image.proofs.objects.objects_at.Given as goal

abbrev pub invariant-loop : goal.invariant-loop
invariant-loop l = HasRead _ _ object_at after_object l.place l.objects l.count l.counter l.rest (objects_at l.held l.count l.bytes)
