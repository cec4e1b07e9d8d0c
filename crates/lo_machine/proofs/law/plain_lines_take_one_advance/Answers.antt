use Rattle.lo_machine.proofs.Orders.{served}
use Rattle.lo_machine.proofs.law.plain_lines_take_one_advance.Goals as goal

pub returns : goal.returns
returns c = served
