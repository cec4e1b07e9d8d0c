use Rattle.std.proofs.Common.{w32, w64, rules}
use Rattle.std.proofs.lemmas.Int.{to_z-of_z}
use Rattle.lo_machine.proofs.Dispatching.{call_ready, entry_answers}
use Rattle.lo_machine.proofs.RowsAlike.{write_alike}
use Rattle.lo_machine.proofs.server.Server.write.Goals as goal

pub lo_write-requires : goal.lo_write-requires
lo_write-requires c = record { ready = call_ready c.args.s c.place.result c.args.self.now c.index_mut-session.result.now (record { place' = c.place.ensures.place; within = c.place.ensures.within; taken = c.index_mut-session.ensures.value }) c.requires }

pub returns-in-Ok : goal.returns-in-Ok
returns-in-Ok c = entry_answers c.args.s c.place.result c.args.self.now c.index_mut-session.result.now
    (record { place' = c.place.ensures.place; within = c.place.ensures.within; taken = c.index_mut-session.ensures.value })
    c.requires c.lo_write.new.core c.lo_write.new.store _ (write_alike c.args.fd c.args.bytes.now) _ c.lo_write.new.self c.lo_write.ensures.keeps (rw (to_z-of_z w64 c.in-Ok.count (search rules)) (rw (to_z-of_z w32 c.args.fd c.ranges.fd) at c.in-Ok.ensures.ok)) tt

pub returns-in-Err : goal.returns-in-Err
returns-in-Err c = entry_answers c.args.s c.place.result c.args.self.now c.index_mut-session.result.now
    (record { place' = c.place.ensures.place; within = c.place.ensures.within; taken = c.index_mut-session.ensures.value })
    c.requires c.lo_write.new.core c.lo_write.new.store _ (write_alike c.args.fd c.args.bytes.now) _ c.lo_write.new.self c.lo_write.ensures.keeps tt (rw (to_z-of_z w32 c.args.fd c.ranges.fd) at c.in-Err.ensures.err)
