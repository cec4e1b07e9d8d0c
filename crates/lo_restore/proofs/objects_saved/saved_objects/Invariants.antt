use Rattle.std.proofs.Common.{◌-◌}
use Rattle.lo_restore.proofs.ObjectSaves.{Gathering}
use Rattle.lo_restore.proofs.objects_saved.saved_objects.Given as goal

abbrev pub invariant-loop-oid : goal.invariant-loop-oid
invariant-loop-oid l = Gathering l.core.xacts l.snap l.pages l.held l.from l.sum l.objects

abbrev pub decreases-loop-oid : goal.decreases-loop-oid
decreases-loop-oid l = 4294967296 - l.from
