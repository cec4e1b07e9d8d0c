use Rattle.std.proofs.Common.{arith}
use Rattle.toast_plan.proofs.Pieces.{small_bytes}
use Rattle.toast_plan.proofs.writing.put_outside.Goals as goal

pub returns-clause-written : goal.returns-clause-written
returns-clause-written c = rw (c.put_tagged.ensures.written, c.pointer_bytes-pointer.ensures)

pub returns-clause-small : goal.returns-clause-small
returns-clause-small c = small_bytes c.args.bytes.now (λ i. omega (arith, c.type_inv.bytes i))
