use Rattle.lo_calls.specs.Descriptors.{AreOpen}
use Rattle.lo_calls.proofs.Benching.{said}
use Rattle.lo_calls.proofs.bench.session_of.Goals as goal

pub returns-clause-open : goal.returns-clause-open
returns-clause-open g c = λ x. said (AreOpen x c.expect-2.result) c.new.result c.expect.result c.expect.ensures (c.new.ensures.open x c.expect-2.result)
