use Rattle.std.proofs.Common.{w64}
use Rattle.std.proofs.lemmas.Int.{to_z-of_z}
use Rattle.lo_machine.proofs.Dispatching.{call_ready, store_answers}
use Rattle.lo_machine.proofs.RowsAlike.{put_alike}
use Rattle.lo_machine.proofs.server.Server.put.Goals as goal

pub lo_put-requires : goal.lo_put-requires
lo_put-requires c = record { ready = call_ready c.args.s c.place.result c.args.self.now c.index-session.result.now (record { place' = c.place.ensures.place; within = c.place.ensures.within; taken = c.index-session.ensures }) c.requires }

pub returns-in-Ok : goal.returns-in-Ok
returns-in-Ok c = store_answers c.args.s c.place.result c.args.self.now c.index-session.result.now
    (record { place' = c.place.ensures.place; within = c.place.ensures.within; taken = c.index-session.ensures })
    c.requires c.lo_put.new.core c.lo_put.new.store _ (put_alike c.args.oid c.args.at c.args.bytes.now) _ c.lo_put.ensures.keeps (rw (to_z-of_z w64 c.args.at c.ranges.at) at c.in-Ok.ensures.ok) tt

pub returns-in-Err : goal.returns-in-Err
returns-in-Err c = store_answers c.args.s c.place.result c.args.self.now c.index-session.result.now
    (record { place' = c.place.ensures.place; within = c.place.ensures.within; taken = c.index-session.ensures })
    c.requires c.lo_put.new.core c.lo_put.new.store _ (put_alike c.args.oid c.args.at c.args.bytes.now) _ c.lo_put.ensures.keeps tt (rw (to_z-of_z w64 c.args.at c.ranges.at) at c.in-Err.ensures.err)
