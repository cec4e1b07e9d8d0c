use Rattle.lo_model.proofs.TouchLaws.{shared, met}
use Rattle.lo_model.proofs.law.conflicts.Goals as goal

pub returns-clause-shared : goal.returns-clause-shared
returns-clause-shared c = shared

pub returns-clause-met : goal.returns-clause-met
returns-clause-met c = met
