use Rattle.lo_machine.proofs.KeptAlike.{views_alike}
use Rattle.lo_machine.proofs.law.kept_views_are_the_states.Goals as goal

pub returns : goal.returns
returns c = views_alike
