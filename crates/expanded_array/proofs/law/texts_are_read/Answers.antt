use Rattle.expanded_array.proofs.TextLaws.{text_read, text_shown}
use Rattle.expanded_array.proofs.law.texts_are_read.Goals as goal

pub returns : goal.returns
returns c = λ text a. (text_shown text a, text_read text a)
