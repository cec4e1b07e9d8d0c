use Rattle.std.proofs.Common.{refl, ap}
use Rattle.row_versions.specs.declared.Core.{Core}
use Rattle.lo_calls.specs.World.{world}
use Rattle.lo_calls.proofs.Unlinking.{unlink_done, unlink_keeps}
use Rattle.lo_calls.proofs.Worlds.{store_keeps}
use Rattle.lo_calls.proofs.session.LoSession.lo_unlink.Goals as goal

pub returns-in_err-drop_object-clause-keeps : goal.returns-in_err-drop_object-clause-keeps
returns-in_err-drop_object-clause-keeps c =
    let old = world c.args.core.now.xacts c.args.store.now c.args.self.now in
    let new = world c.drop_object.new.core.xacts (record { pages = c.drop_object.new.self; counter = c.args.store.now.counter }) c.args.self.now in
    store_keeps old new (ap (λ (k : Core). k.xacts) c.drop_object.ensures.core) refl c.requires.ready c.drop_object.ensures.goes c.requires.ready.counter

pub returns-clause-ok : goal.returns-clause-ok
returns-clause-ok c = unlink_done c.args.oid (world c.args.core.now.xacts c.args.store.now c.args.self.now) c.drop_object.new.core.xacts c.close.new.xacts c.drop_object.new.self c.close.new.self (ap (λ (k : Core). k.xacts) c.drop_object.ensures.core) c.in_ok-drop_object.ensures.ok c.close.ensures.ends c.close.ensures.left

pub returns-clause-keeps : goal.returns-clause-keeps
returns-clause-keeps c = unlink_keeps c.args.oid (world c.args.core.now.xacts c.args.store.now c.args.self.now) c.drop_object.new.core.xacts c.close.new.xacts c.drop_object.new.self c.close.new.self (ap (λ (k : Core). k.xacts) c.drop_object.ensures.core) c.requires.ready c.drop_object.ensures.goes c.close.ensures.ends
