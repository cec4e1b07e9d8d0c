use Rattle.lo_machine.proofs.Orders.{whole}
use Rattle.lo_machine.proofs.law.orders_are_whole.Goals as goal

pub returns : goal.returns
returns c = whole
