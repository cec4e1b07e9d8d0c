use Rattle.std.proofs.Common.{◌-◌}
use Rattle.lo_machine.proofs.ScannedObjects.{Listing}
use Rattle.lo_machine.proofs.scanning.numbers_of_objects.Given as goal

abbrev pub invariant-loop-oid : goal.invariant-loop-oid
invariant-loop-oid l = Listing l.core.xacts l.snap l.pages l.from l.list

abbrev pub decreases-loop-oid : goal.decreases-loop-oid
decreases-loop-oid l = 4294967296 - l.from
