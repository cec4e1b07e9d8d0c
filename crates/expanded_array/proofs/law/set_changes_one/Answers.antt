use Rattle.expanded_array.proofs.SetLaws.{set_changes}
use Rattle.expanded_array.proofs.law.set_changes_one.Goals as goal

pub returns : goal.returns
returns c = set_changes
