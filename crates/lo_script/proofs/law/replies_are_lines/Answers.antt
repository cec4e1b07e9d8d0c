use Rattle.lo_script.proofs.MachineReplies.{reply_to-one_line}
use Rattle.lo_script.proofs.law.replies_are_lines.Goals as goal

pub returns : goal.returns
returns c = reply_to-one_line
