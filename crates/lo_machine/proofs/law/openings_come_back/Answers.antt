use Rattle.lo_machine.proofs.OpeningsBack.{back}
use Rattle.lo_machine.proofs.law.openings_come_back.Goals as goal

pub returns : goal.returns
returns c = back
