use Rattle.std.proofs.Common.{◌≡◌}
use Rattle.lo_restore.proofs.ObjectLoads.{Writing}
use Rattle.lo_restore.proofs.objects.write_blocks.Given as goal

abbrev pub invariant-loop-block : goal.invariant-loop-block
invariant-loop-block l = (l.core ≡ l.fn.core) × Writing l.core.xacts l.s l.oid l.block-index l.blocks l.fn.pages l.pages
