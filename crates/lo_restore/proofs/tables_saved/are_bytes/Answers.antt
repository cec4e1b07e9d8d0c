use Rattle.std.proofs.Common.{arith}
use Rattle.toast_plan.proofs.Pieces.{small_bytes}
use Rattle.lo_restore.proofs.tables_saved.are_bytes.Goals as goal

pub returns : goal.returns
returns c = small_bytes c.args._bytes.now (λ i. omega (arith, c.type_inv._bytes i))
