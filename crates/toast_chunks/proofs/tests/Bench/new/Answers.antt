use Rattle.std.proofs.Common.{subst}
use Rattle.std.specs.Prelude.{Result, IfOk}
use Rattle.xact_core.specs.Transactions.{Transactions}
use Rattle.lo_base.specs.declared.memory.NoMemory.{NoMemory}
use Rattle.toast_chunks.specs.declared.chunks.Chunks.{Chunks}
use Rattle.toast_chunks.specs.Values.{GoWith}
use Rattle.toast_chunks.proofs.tests.Bench.new.Goals as goal

pub returns-clause-goes : goal.returns-clause-goes
returns-clause-goes g c = subst (λ (r : Result Chunks NoMemory). IfOk r (λ (chunks : Chunks). (x : Transactions) → GoWith x chunks)) c.expect-2.ensures c.new-2.ensures.goes c.expect.result
