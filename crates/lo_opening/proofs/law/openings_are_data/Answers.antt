use Rattle.lo_opening.proofs.DataAgain.{data_again}
use Rattle.lo_opening.proofs.law.openings_are_data.Goals as goal

pub returns : goal.returns
returns c = data_again
