use Rattle.std.proofs.Common.{w32}
use Rattle.std.proofs.lemmas.Int.{to_z-of_z}
use Rattle.lo_calls.proofs.Finding.{finds_writable}
use Rattle.lo_calls.proofs.session.LoSession.writable.Goals as goal

pub returns-in-None-clause-ok : goal.returns-in-None-clause-ok
returns-in-None-clause-ok c =
    let fd = to_z-of_z w32 c.args.fd c.ranges.fd in
    finds_writable c.args.fd c.args.self.now.descs c.in_ok-index.index c.index.result.now (rw fd at c.in_ok-index.ensures.ok) c.index.ensures c.in-None.is
