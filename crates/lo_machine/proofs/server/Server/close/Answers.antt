use Rattle.std.proofs.Common.{w32}
use Rattle.std.proofs.lemmas.Int.{to_z-of_z}
use Rattle.lo_machine.proofs.Dispatching.{call_ready, entry_reads}
use Rattle.lo_machine.proofs.RowsAlike.{close_alike}
use Rattle.lo_machine.proofs.server.Server.close.Goals as goal

pub lo_close-requires : goal.lo_close-requires
lo_close-requires c = record { «open» = (call_ready c.args.s c.place.result c.args.self.now c.index_mut-session.result.now (record { place' = c.place.ensures.place; within = c.place.ensures.within; taken = c.index_mut-session.ensures.value }) c.requires).descriptors.held }

pub returns-in-Ok : goal.returns-in-Ok
returns-in-Ok c =
    let ready = call_ready c.args.s c.place.result c.args.self.now c.index_mut-session.result.now (record { place' = c.place.ensures.place; within = c.place.ensures.within; taken = c.index_mut-session.ensures.value }) c.requires in
    entry_reads c.args.s c.place.result c.args.self.now c.index_mut-session.result.now
    (record { place' = c.place.ensures.place; within = c.place.ensures.within; taken = c.index_mut-session.ensures.value })
    c.requires c.lo_close.new.core _ (close_alike c.args.fd) _ c.lo_close.new.self (c.lo_close.ensures.keeps c.args.self.now.store ready) (rw (to_z-of_z w32 c.args.fd c.ranges.fd) at (c.in-Ok.ensures.ok c.args.self.now.store)) tt

pub returns-in-Err : goal.returns-in-Err
returns-in-Err c =
    let ready = call_ready c.args.s c.place.result c.args.self.now c.index_mut-session.result.now (record { place' = c.place.ensures.place; within = c.place.ensures.within; taken = c.index_mut-session.ensures.value }) c.requires in
    entry_reads c.args.s c.place.result c.args.self.now c.index_mut-session.result.now
    (record { place' = c.place.ensures.place; within = c.place.ensures.within; taken = c.index_mut-session.ensures.value })
    c.requires c.lo_close.new.core _ (close_alike c.args.fd) _ c.lo_close.new.self (c.lo_close.ensures.keeps c.args.self.now.store ready) tt (rw (to_z-of_z w32 c.args.fd c.ranges.fd) at (c.in-Err.ensures.err c.args.self.now.store))
