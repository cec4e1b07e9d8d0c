use Rattle.std.proofs.Common.{subst}
use Rattle.std.specs.Prelude.{Result, IfOk}
use Rattle.xact_core.specs.Transactions.{Transactions}
use Rattle.lo_base.specs.declared.memory.NoMemory.{NoMemory}
use Rattle.lo_pages.specs.declared.pages.Pages.{Pages}
use Rattle.lo_pages.specs.Standing.{GoWith}
use Rattle.lo_pages.proofs.tests.Bench.new.Goals as goal

pub returns-clause-goes : goal.returns-clause-goes
returns-clause-goes g c = subst (λ (r : Result Pages NoMemory). IfOk r (λ (pages : Pages). (x : Transactions) → GoWith x pages)) c.expect-2.ensures c.new-2.ensures.goes c.expect.result
