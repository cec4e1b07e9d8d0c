use Rattle.lo_machine.proofs.ChangesJudged.{ChangesJudged}
use Rattle.lo_machine.proofs.literals.changes_of.Given as goal

abbrev pub invariant-loop-index : goal.invariant-loop-index
invariant-loop-index l = ChangesJudged l.own l.columns l.changes l.index l.given
