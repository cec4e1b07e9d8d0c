use Rattle.std.proofs.Common.{◌≡◌, replicate}
use Rattle.xact_core.specs.Opened.{nothing}
use Rattle.xact_core.proofs.xacts.Xacts.new.Given as goal

abbrev pub invariant-loop-number : goal.invariant-loop-number
invariant-loop-number l = l.sessions.items ≡ replicate l._number nothing
