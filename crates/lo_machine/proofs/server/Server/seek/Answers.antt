use Rattle.std.proofs.Common.{w32, w64, rules}
use Rattle.std.proofs.lemmas.Int.{to_z-of_z}
use Rattle.lo_machine.proofs.Dispatching.{call_ready, entry_reads}
use Rattle.lo_machine.proofs.RowsAlike.{seek_alike}
use Rattle.lo_machine.proofs.server.Server.seek.Goals as goal

pub lo_lseek-requires : goal.lo_lseek-requires
lo_lseek-requires c = record { ready = call_ready c.args.s c.place.result c.args.self.now c.index_mut-session.result.now (record { place' = c.place.ensures.place; within = c.place.ensures.within; taken = c.index_mut-session.ensures.value }) c.requires }

pub returns-in-Ok : goal.returns-in-Ok
returns-in-Ok c = entry_reads c.args.s c.place.result c.args.self.now c.index_mut-session.result.now
    (record { place' = c.place.ensures.place; within = c.place.ensures.within; taken = c.index_mut-session.ensures.value })
    c.requires c.args.self.now.core _ (seek_alike c.args.wide c.args.fd c.args.offset c.args.whence) _ c.lo_lseek.new.self c.lo_lseek.ensures.keeps (rw (to_z-of_z w64 c.in-Ok.position (search rules)) (rw (to_z-of_z w32 c.args.fd c.ranges.fd, to_z-of_z w64 c.args.offset c.ranges.offset, to_z-of_z w32 c.args.whence c.ranges.whence) at c.in-Ok.ensures.ok)) tt

pub returns-in-Err : goal.returns-in-Err
returns-in-Err c = entry_reads c.args.s c.place.result c.args.self.now c.index_mut-session.result.now
    (record { place' = c.place.ensures.place; within = c.place.ensures.within; taken = c.index_mut-session.ensures.value })
    c.requires c.args.self.now.core _ (seek_alike c.args.wide c.args.fd c.args.offset c.args.whence) _ c.lo_lseek.new.self c.lo_lseek.ensures.keeps tt (rw (to_z-of_z w32 c.args.fd c.ranges.fd, to_z-of_z w64 c.args.offset c.ranges.offset, to_z-of_z w32 c.args.whence c.ranges.whence) at c.in-Err.ensures.err)
