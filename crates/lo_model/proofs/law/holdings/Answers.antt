use Rattle.lo_model.proofs.HeldLaws.{held_is_read, held_once}
use Rattle.lo_model.proofs.law.holdings.Goals as goal

pub returns-clause-read : goal.returns-clause-read
returns-clause-read c = held_is_read

pub returns-clause-once : goal.returns-clause-once
returns-clause-once c = held_once
