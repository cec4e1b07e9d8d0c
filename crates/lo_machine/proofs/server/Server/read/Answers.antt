use Rattle.std.proofs.Common.{w32}
use Rattle.std.proofs.lemmas.Int.{to_z-of_z}
use Rattle.lo_machine.proofs.Dispatching.{call_ready, entry_reads}
use Rattle.lo_machine.proofs.RowsAlike.{read_alike}
use Rattle.lo_machine.proofs.server.Server.read.Goals as goal

pub lo_read-requires : goal.lo_read-requires
lo_read-requires c = record { ready = call_ready c.args.s c.place.result c.args.self.now c.index_mut-session.result.now (record { place' = c.place.ensures.place; within = c.place.ensures.within; taken = c.index_mut-session.ensures.value }) c.requires }

pub returns-in-Ok : goal.returns-in-Ok
returns-in-Ok c = entry_reads c.args.s c.place.result c.args.self.now c.index_mut-session.result.now
    (record { place' = c.place.ensures.place; within = c.place.ensures.within; taken = c.index_mut-session.ensures.value })
    c.requires c.args.self.now.core _ (read_alike c.args.fd c.args.length) _ c.lo_read.new.self c.lo_read.ensures.keeps (rw (to_z-of_z w32 c.args.fd c.ranges.fd, to_z-of_z w32 c.args.length c.ranges.length) at c.in-Ok.ensures.ok) tt

pub returns-in-Err : goal.returns-in-Err
returns-in-Err c = entry_reads c.args.s c.place.result c.args.self.now c.index_mut-session.result.now
    (record { place' = c.place.ensures.place; within = c.place.ensures.within; taken = c.index_mut-session.ensures.value })
    c.requires c.args.self.now.core _ (read_alike c.args.fd c.args.length) _ c.lo_read.new.self c.lo_read.ensures.keeps tt (rw (to_z-of_z w32 c.args.fd c.ranges.fd, to_z-of_z w32 c.args.length c.ranges.length) at c.in-Err.ensures.err)
