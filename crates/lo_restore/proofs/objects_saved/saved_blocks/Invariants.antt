use Rattle.std.proofs.Common.{◌-◌}
use Rattle.lo_restore.proofs.ObjectSaves.{Collecting}
use Rattle.lo_restore.proofs.objects_saved.saved_blocks.Given as goal

abbrev pub invariant-loop-number : goal.invariant-loop-number
invariant-loop-number l = Collecting l.core.xacts l.snap l.pages l.oid l.from l.blocks

abbrev pub decreases-loop-number : goal.decreases-loop-number
decreases-loop-number l = 4294967296 - l.from
