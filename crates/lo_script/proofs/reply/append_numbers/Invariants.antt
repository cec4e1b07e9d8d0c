use Rattle.std.proofs.Common.{drop}
use Rattle.std.specs.Fmt.{signed_decimal}
use Rattle.lo_script.specs.ReplyText.{spaced}
use Rattle.lo_script.proofs.PrintedFronts.{Leaves}
use Rattle.lo_script.proofs.reply.append_numbers.Given as goal

abbrev pub invariant-loop-n : goal.invariant-loop-n
invariant-loop-n l =
    Leaves l.initial.out l.out (spaced signed_decimal l.numbers) (spaced signed_decimal (drop l.n-index l.numbers))
