use Rattle.std.proofs.Common.{w32, w64}
use Rattle.std.proofs.lemmas.Int.{to_z-of_z}
use Rattle.lo_machine.proofs.Dispatching.{call_ready, store_answers}
use Rattle.lo_machine.proofs.RowsAlike.{truncate_alike}
use Rattle.lo_machine.proofs.server.Server.truncate.Goals as goal

pub lo_truncate-requires : goal.lo_truncate-requires
lo_truncate-requires c = record { ready = call_ready c.args.s c.place.result c.args.self.now c.index-session.result.now (record { place' = c.place.ensures.place; within = c.place.ensures.within; taken = c.index-session.ensures }) c.requires }

pub returns-in-Ok : goal.returns-in-Ok
returns-in-Ok c = store_answers c.args.s c.place.result c.args.self.now c.index-session.result.now
    (record { place' = c.place.ensures.place; within = c.place.ensures.within; taken = c.index-session.ensures })
    c.requires c.lo_truncate.new.core c.lo_truncate.new.store _ (truncate_alike c.args.fd c.args.size) _ c.lo_truncate.ensures.keeps (rw (to_z-of_z w32 c.args.fd c.ranges.fd, to_z-of_z w64 c.args.size c.ranges.size) at c.in-Ok.ensures.ok) tt

pub returns-in-Err : goal.returns-in-Err
returns-in-Err c = store_answers c.args.s c.place.result c.args.self.now c.index-session.result.now
    (record { place' = c.place.ensures.place; within = c.place.ensures.within; taken = c.index-session.ensures })
    c.requires c.lo_truncate.new.core c.lo_truncate.new.store _ (truncate_alike c.args.fd c.args.size) _ c.lo_truncate.ensures.keeps tt (rw (to_z-of_z w32 c.args.fd c.ranges.fd, to_z-of_z w64 c.args.size c.ranges.size) at c.in-Err.ensures.err)
