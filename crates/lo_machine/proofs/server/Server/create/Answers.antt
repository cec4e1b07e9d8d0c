use Rattle.std.proofs.Common.{w64, [], rules}
use Rattle.std.proofs.lemmas.Int.{to_z-of_z}
use Rattle.lo_machine.proofs.Dispatching.{call_ready, store_answers}
use Rattle.lo_machine.proofs.RowsAlike.{create_alike}
use Rattle.lo_machine.proofs.server.Server.create.Goals as goal

pub lo_create-requires : goal.lo_create-requires
lo_create-requires c = record { ready = call_ready c.args.s c.place.result c.args.self.now c.index-session.result.now (record { place' = c.place.ensures.place; within = c.place.ensures.within; taken = c.index-session.ensures }) c.requires }

pub returns-in-Ok : goal.returns-in-Ok
returns-in-Ok c = store_answers c.args.s c.place.result c.args.self.now c.index-session.result.now
    (record { place' = c.place.ensures.place; within = c.place.ensures.within; taken = c.index-session.ensures })
    c.requires c.lo_create.new.core c.lo_create.new.store _ (create_alike c.args.oid []) _ c.lo_create.ensures.keeps (rw (to_z-of_z w64 c.from.result (search rules), c.from.ensures) c.in-Ok.ensures.ok) tt

pub returns-in-Err : goal.returns-in-Err
returns-in-Err c = store_answers c.args.s c.place.result c.args.self.now c.index-session.result.now
    (record { place' = c.place.ensures.place; within = c.place.ensures.within; taken = c.index-session.ensures })
    c.requires c.lo_create.new.core c.lo_create.new.store _ (create_alike c.args.oid []) _ c.lo_create.ensures.keeps tt c.in-Err.ensures.err
