use Rattle.std.proofs.Common.{w32}
use Rattle.std.proofs.lemmas.Int.{to_z-of_z}
use Rattle.lo_calls.specs.World.{world}
use Rattle.lo_calls.proofs.Ending.{close_done}
use Rattle.lo_calls.proofs.Finding.{found_at}
use Rattle.lo_calls.proofs.Keeping.{keeps_same, ends_keeps}
use Rattle.lo_calls.proofs.session.LoSession.lo_close.Goals as goal

pub returns-in_err-index-clause-keeps : goal.returns-in_err-index-clause-keeps
returns-in_err-index-clause-keeps c store ready = keeps_same (world c.args.core.now.xacts store c.args.self.now) ready

pub index-requires : goal.index-requires
index-requires c = found_at _ c.args.self.now.descs c.in_ok-index.index c.in_ok-index.ensures.ok

pub returns-clause-ok : goal.returns-clause-ok
returns-clause-ok c store =
    let fd = to_z-of_z w32 c.args.fd c.ranges.fd in
    close_done c.args.fd (world c.args.core.now.xacts store c.args.self.now) c.close.new.xacts c.close.new.self c.in_ok-index.index c.index.result.now (rw fd at c.in_ok-index.ensures.ok) c.index.ensures c.close.ensures.ends.others c.close.ensures.left

pub returns-clause-keeps : goal.returns-clause-keeps
returns-clause-keeps c store ready = ends_keeps (world c.args.core.now.xacts store c.args.self.now) c.close.new.xacts c.close.new.self ready c.close.ensures.ends
