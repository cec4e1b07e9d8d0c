use Rattle.std.proofs.Common.{w64}
use Rattle.std.proofs.lemmas.Int.{to_z-of_z}
use Rattle.lo_calls.specs.World.{world}
use Rattle.lo_calls.proofs.Keeping.{keeps_same}
use Rattle.lo_machine.proofs.Dispatching.{call_ready, store_reads}
use Rattle.lo_machine.proofs.RowsAlike.{get_alike}
use Rattle.lo_machine.proofs.server.Server.get.Goals as goal

pub lo_get-requires : goal.lo_get-requires
lo_get-requires c = record { ready = call_ready c.args.s c.place.result c.args.self.now c.index-session.result.now (record { place' = c.place.ensures.place; within = c.place.ensures.within; taken = c.index-session.ensures }) c.requires }

pub returns-in-Ok : goal.returns-in-Ok
returns-in-Ok c =
    let ready = call_ready c.args.s c.place.result c.args.self.now c.index-session.result.now (record { place' = c.place.ensures.place; within = c.place.ensures.within; taken = c.index-session.ensures }) c.requires in
    store_reads c.args.s c.place.result c.args.self.now c.index-session.result.now
    (record { place' = c.place.ensures.place; within = c.place.ensures.within; taken = c.index-session.ensures })
    c.requires c.args.self.now.core _ (get_alike c.args.oid c.args.from _) _ (keeps_same (world c.args.self.now.core.xacts c.args.self.now.store c.index-session.result.now) ready) (rw (to_z-of_z w64 c.args.from c.ranges.from) at c.in-Ok.ensures.ok) tt

pub returns-in-Err : goal.returns-in-Err
returns-in-Err c =
    let ready = call_ready c.args.s c.place.result c.args.self.now c.index-session.result.now (record { place' = c.place.ensures.place; within = c.place.ensures.within; taken = c.index-session.ensures }) c.requires in
    store_reads c.args.s c.place.result c.args.self.now c.index-session.result.now
    (record { place' = c.place.ensures.place; within = c.place.ensures.within; taken = c.index-session.ensures })
    c.requires c.args.self.now.core _ (get_alike c.args.oid c.args.from _) _ (keeps_same (world c.args.self.now.core.xacts c.args.self.now.store c.index-session.result.now) ready) tt (rw (to_z-of_z w64 c.args.from c.ranges.from) at c.in-Err.ensures.err)
