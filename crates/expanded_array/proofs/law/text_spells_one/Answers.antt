use Rattle.expanded_array.proofs.Uniqueness.{spells_one}
use Rattle.expanded_array.proofs.law.text_spells_one.Goals as goal

pub returns : goal.returns
returns c = spells_one
