use Rattle.std.proofs.Common.{w32, w64, rules}
use Rattle.std.proofs.lemmas.Int.{to_z-of_z}
use Rattle.lo_machine.proofs.Dispatching.{call_ready, entry_reads}
use Rattle.lo_machine.proofs.RowsAlike.{open_alike}
use Rattle.lo_machine.proofs.server.Server.open_descriptor.Goals as goal

pub lo_open-requires : goal.lo_open-requires
lo_open-requires c = record { ready = call_ready c.args.s c.place.result c.args.self.now c.index_mut-session.result.now (record { place' = c.place.ensures.place; within = c.place.ensures.within; taken = c.index_mut-session.ensures.value }) c.requires; views = c.requires.views }

pub returns-in-Ok : goal.returns-in-Ok
returns-in-Ok c = entry_reads c.args.s c.place.result c.args.self.now c.index_mut-session.result.now
    (record { place' = c.place.ensures.place; within = c.place.ensures.within; taken = c.index_mut-session.ensures.value })
    c.requires c.lo_open.new.core _ (open_alike c.args.oid c.args.mode) _ c.lo_open.new.self c.lo_open.ensures.keeps (rw (to_z-of_z w64 c.from.result (search rules), c.from.ensures, to_z-of_z w32 c.in-Ok.fd (search rules)) (rw (to_z-of_z w32 c.args.mode c.ranges.mode) at c.in-Ok.ensures.ok)) tt

pub returns-in-Err : goal.returns-in-Err
returns-in-Err c = entry_reads c.args.s c.place.result c.args.self.now c.index_mut-session.result.now
    (record { place' = c.place.ensures.place; within = c.place.ensures.within; taken = c.index_mut-session.ensures.value })
    c.requires c.lo_open.new.core _ (open_alike c.args.oid c.args.mode) _ c.lo_open.new.self c.lo_open.ensures.keeps tt (rw (to_z-of_z w32 c.args.mode c.ranges.mode) at c.in-Err.ensures.err)
