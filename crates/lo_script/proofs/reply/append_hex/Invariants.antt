use Rattle.std.proofs.Common.{length}
use Rattle.lo_script.proofs.PrintedFronts.{Printed}
use Rattle.lo_script.proofs.reply.append_hex.Given as goal

abbrev pub invariant-loop-rest : goal.invariant-loop-rest
invariant-loop-rest l = Printed l.initial.out l.out l.bytes l.rest

abbrev pub decreases-loop-rest : goal.decreases-loop-rest
decreases-loop-rest l = length l.rest
