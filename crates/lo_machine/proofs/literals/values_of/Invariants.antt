use Rattle.lo_machine.proofs.RowJudged.{Judged}
use Rattle.lo_machine.proofs.literals.values_of.Given as goal

abbrev pub invariant-loop-index : goal.invariant-loop-index
invariant-loop-index l = Judged l.own l.columns l.literals l.index l.values
