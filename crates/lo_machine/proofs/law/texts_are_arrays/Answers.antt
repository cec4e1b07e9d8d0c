use Rattle.lo_machine.proofs.ArrayReplies.{reply_to-printed}
use Rattle.lo_machine.proofs.law.texts_are_arrays.Goals as goal

pub returns : goal.returns
returns c = reply_to-printed
