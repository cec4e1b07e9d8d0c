use Rattle.lo_calls.proofs.Beginning.{none_open}
use Rattle.lo_calls.proofs.descs.Descs.new.Goals as goal

pub returns-clause-open : goal.returns-clause-open
returns-clause-open c = λ x s. none_open x s (record { alloc = c.args.alloc; entries = c.new.result }) c.new.ensures.items
