use Rattle.std.proofs.Common.{◌+◌, refl, ap, rules}
use Rattle.row_versions.specs.declared.Core.{Core}
use Rattle.lo_calls.specs.World.{world}
use Rattle.lo_calls.proofs.Keeping.{keeps_same}
use Rattle.lo_calls.proofs.Worlds.{store_keeps}
use Rattle.lo_calls.proofs.session.LoSession.lo_create.Goals as goal

pub returns-in_err-number-clause-keeps : goal.returns-in_err-number-clause-keeps
returns-in_err-number-clause-keeps c = keeps_same (world c.args.core.now.xacts c.args.store.now c.args.self.now) c.requires.ready

pub returns-in_err-create-clause-keeps : goal.returns-in_err-create-clause-keeps
returns-in_err-create-clause-keeps c =
    let old = world c.args.core.now.xacts c.args.store.now c.args.self.now in
    let new = world c.create.new.core.xacts (record { pages = c.create.new.self; counter = c.args.store.now.counter }) c.args.self.now in
    store_keeps old new (ap (λ (k : Core). k.xacts) c.create.ensures.core) refl c.requires.ready c.create.ensures.goes c.requires.ready.counter

pub returns-then-oid-eq0-clause-keeps : goal.returns-then-oid-eq0-clause-keeps
returns-then-oid-eq0-clause-keeps c =
    let old = world c.args.core.now.xacts c.args.store.now c.args.self.now in
    let new = world c.create.new.core.xacts (record { pages = c.create.new.self; counter = c.from.result + 1 }) c.args.self.now in
    store_keeps old new (ap (λ (k : Core). k.xacts) c.create.ensures.core) refl c.requires.ready c.create.ensures.goes (search rules)

pub returns-else-oid-eq0-clause-keeps : goal.returns-else-oid-eq0-clause-keeps
returns-else-oid-eq0-clause-keeps c =
    let old = world c.args.core.now.xacts c.args.store.now c.args.self.now in
    let new = world c.create.new.core.xacts (record { pages = c.create.new.self; counter = c.args.store.now.counter }) c.args.self.now in
    store_keeps old new (ap (λ (k : Core). k.xacts) c.create.ensures.core) refl c.requires.ready c.create.ensures.goes c.requires.ready.counter
