use Rattle.lo_machine.proofs.Dispatching.{call_ready, entry_answers}
use Rattle.lo_machine.proofs.RowsAlike.{unlink_alike}
use Rattle.lo_machine.proofs.server.Server.unlink.Goals as goal

pub lo_unlink-requires : goal.lo_unlink-requires
lo_unlink-requires c = record { ready = call_ready c.args.s c.place.result c.args.self.now c.index_mut-session.result.now (record { place' = c.place.ensures.place; within = c.place.ensures.within; taken = c.index_mut-session.ensures.value }) c.requires }

pub returns-in-Ok : goal.returns-in-Ok
returns-in-Ok c = entry_answers c.args.s c.place.result c.args.self.now c.index_mut-session.result.now
    (record { place' = c.place.ensures.place; within = c.place.ensures.within; taken = c.index_mut-session.ensures.value })
    c.requires c.lo_unlink.new.core c.lo_unlink.new.store _ (unlink_alike c.args.oid) _ c.lo_unlink.new.self c.lo_unlink.ensures.keeps c.in-Ok.ensures.ok tt

pub returns-in-Err : goal.returns-in-Err
returns-in-Err c = entry_answers c.args.s c.place.result c.args.self.now c.index_mut-session.result.now
    (record { place' = c.place.ensures.place; within = c.place.ensures.within; taken = c.index_mut-session.ensures.value })
    c.requires c.lo_unlink.new.core c.lo_unlink.new.store _ (unlink_alike c.args.oid) _ c.lo_unlink.new.self c.lo_unlink.ensures.keeps tt c.in-Err.ensures.err
