use Rattle.expanded_array.proofs.Uniqueness.{printed_spells}
use Rattle.expanded_array.proofs.law.printed_text_spells.Goals as goal

pub returns : goal.returns
returns c = printed_spells
