use Rattle.std.proofs.Common.{w32, w64, rules}
use Rattle.std.proofs.lemmas.Int.{to_z-of_z}
use Rattle.lo_calls.specs.World.{world}
use Rattle.lo_calls.proofs.Keeping.{keeps_same}
use Rattle.lo_machine.proofs.Dispatching.{call_ready, store_reads}
use Rattle.lo_machine.proofs.RowsAlike.{tell_alike}
use Rattle.lo_machine.proofs.server.Server.tell.Goals as goal

pub returns-in-Ok : goal.returns-in-Ok
returns-in-Ok c =
    let ready = call_ready c.args.s c.place.result c.args.self.now c.index-session.result.now (record { place' = c.place.ensures.place; within = c.place.ensures.within; taken = c.index-session.ensures }) c.requires in
    store_reads c.args.s c.place.result c.args.self.now c.index-session.result.now
    (record { place' = c.place.ensures.place; within = c.place.ensures.within; taken = c.index-session.ensures })
    c.requires c.args.self.now.core _ (tell_alike c.args.wide c.args.fd) _ (keeps_same (world c.args.self.now.core.xacts c.args.self.now.store c.index-session.result.now) ready) (rw (to_z-of_z w64 c.in-Ok.position (search rules)) (rw (to_z-of_z w32 c.args.fd c.ranges.fd) at (c.in-Ok.ensures.ok c.args.self.now.core.xacts c.args.self.now.store ready))) tt

pub returns-in-Err : goal.returns-in-Err
returns-in-Err c =
    let ready = call_ready c.args.s c.place.result c.args.self.now c.index-session.result.now (record { place' = c.place.ensures.place; within = c.place.ensures.within; taken = c.index-session.ensures }) c.requires in
    store_reads c.args.s c.place.result c.args.self.now c.index-session.result.now
    (record { place' = c.place.ensures.place; within = c.place.ensures.within; taken = c.index-session.ensures })
    c.requires c.args.self.now.core _ (tell_alike c.args.wide c.args.fd) _ (keeps_same (world c.args.self.now.core.xacts c.args.self.now.store c.index-session.result.now) ready) tt (rw (to_z-of_z w32 c.args.fd c.ranges.fd) at (c.in-Err.ensures.err c.args.self.now.core.xacts c.args.self.now.store ready))
