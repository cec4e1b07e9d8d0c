use Rattle.std.proofs.Common.{◌≡◌}
use Rattle.lo_restore.proofs.ObjectLoads.{Restoring}
use Rattle.lo_restore.proofs.objects.restore_objects.Given as goal

abbrev pub invariant-loop-object : goal.invariant-loop-object
invariant-loop-object l = (l.core ≡ l.fn.core) × Restoring l.core.xacts l.s l.object-index l.objects l.fn.pages l.pages
