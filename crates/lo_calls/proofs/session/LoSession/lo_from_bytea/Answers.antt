use Rattle.std.proofs.Common.{◌+◌, ◌∙◌, refl, ap, sym, subst, arith, rules}
use Rattle.row_versions.specs.declared.Core.{Core}
use Rattle.xact_core.specs.Transactions.{Transactions}
use Rattle.lo_pages.specs.Standing.{GoWith}
use Rattle.lo_pages.specs.Steps.{HasAlone}
use Rattle.lo_calls.specs.World.{world}
use Rattle.lo_calls.proofs.Creating.{create_denied, write_denied, create_done, picked_counter, named_counter}
use Rattle.lo_calls.proofs.Refusing.{denied_by}
use Rattle.lo_calls.proofs.Keeping.{keeps_same}
use Rattle.lo_calls.proofs.Worlds.{store_keeps}
use Rattle.lo_calls.proofs.session.LoSession.lo_from_bytea.Goals as goal

pub returns-in_err-number-clause-keeps : goal.returns-in_err-number-clause-keeps
returns-in_err-number-clause-keeps c = keeps_same (world c.args.core.now.xacts c.args.store.now c.args.self.now) c.requires.ready

pub returns-in_err-create-clause-err : goal.returns-in_err-create-clause-err
returns-in_err-create-clause-err c =
    let old = world c.args.core.now.xacts c.args.store.now c.args.self.now in
    let new = world c.create.new.core.xacts (record { pages = c.create.new.self; counter = c.args.store.now.counter }) c.args.self.now in
    denied_by _ c.from_residual-in_err-create.result c.in_err-create.field-0.0 c.from_residual-in_err-create.ensures.1 (create_denied c.args.oid c.args.bytes.now old new c.in_ok-number.number c.in_ok-number.ensures.ok (ap (λ (k : Core). k.xacts) c.create.ensures.core) refl refl c.in_err-create.field-0.0 c.in_err-create.ensures.err)

pub returns-in_err-create-clause-keeps : goal.returns-in_err-create-clause-keeps
returns-in_err-create-clause-keeps c =
    let old = world c.args.core.now.xacts c.args.store.now c.args.self.now in
    let new = world c.create.new.core.xacts (record { pages = c.create.new.self; counter = c.args.store.now.counter }) c.args.self.now in
    store_keeps old new (ap (λ (k : Core). k.xacts) c.create.ensures.core) refl c.requires.ready c.create.ensures.goes c.requires.ready.counter

pub returns-in_err-write-clause-err : goal.returns-in_err-write-clause-err
returns-in_err-write-clause-err c =
    let old = world c.args.core.now.xacts c.args.store.now c.args.self.now in
    let new = world c.write.new.core.xacts (record { pages = c.write.new.self; counter = c.args.store.now.counter }) c.args.self.now in
    let same = ap (λ (k : Core). k.xacts) c.create.ensures.core in
    let alone = subst (λ (x : Transactions). HasAlone x c.args.self.now.s c.in_ok-number.number c.create.new.self) (sym same) c.in_ok-create.ensures.alone in
    denied_by _ c.from_residual-in_err-write.result c.in_err-write.field-0.0 c.from_residual-in_err-write.ensures.1 (write_denied c.args.oid c.args.bytes.now old new c.in_ok-number.number c.in_ok-number.ensures.ok (ap (λ (k : Core). k.xacts) c.write.ensures.core ∙ same) refl c.create.new.self c.create.new.core.xacts same refl c.create.ensures.left c.write.ensures.left c.in_err-write.field-0.0 (c.in_err-write.ensures.alone alone (omega (arith, c.requires.most))))

pub returns-in_err-write-clause-keeps : goal.returns-in_err-write-clause-keeps
returns-in_err-write-clause-keeps c =
    let old = world c.args.core.now.xacts c.args.store.now c.args.self.now in
    let new = world c.write.new.core.xacts (record { pages = c.write.new.self; counter = c.args.store.now.counter }) c.args.self.now in
    let same = ap (λ (k : Core). k.xacts) c.create.ensures.core in
    store_keeps old new (ap (λ (k : Core). k.xacts) c.write.ensures.core ∙ same) refl c.requires.ready (subst (λ (x : Transactions). GoWith x c.write.new.self) same c.write.ensures.goes) c.requires.ready.counter

pub returns-then-oid-eq0-clause-ok : goal.returns-then-oid-eq0-clause-ok
returns-then-oid-eq0-clause-ok c =
    let old = world c.args.core.now.xacts c.args.store.now c.args.self.now in
    let new = world c.write.new.core.xacts (record { pages = c.write.new.self; counter = c.from.result + 1 }) c.args.self.now in
    let same = ap (λ (k : Core). k.xacts) c.create.ensures.core in
    create_done c.args.oid c.args.bytes.now old new c.in_ok-number.number c.in_ok-number.ensures.ok (ap (λ (k : Core). k.xacts) c.write.ensures.core ∙ same) refl c.create.new.self c.create.new.core.xacts same (λ ys stands. ap (λ m. m + 1) c.from.ensures ∙ picked_counter c.args.oid c.args.bytes.now old new c.in_ok-number.number c.in_ok-number.ensures.ok c.if-oid-eq0.true ys stands) c.in_ok-create.ensures.ok c.in_ok-write.ensures.ok

pub returns-then-oid-eq0-clause-keeps : goal.returns-then-oid-eq0-clause-keeps
returns-then-oid-eq0-clause-keeps c =
    let old = world c.args.core.now.xacts c.args.store.now c.args.self.now in
    let new = world c.write.new.core.xacts (record { pages = c.write.new.self; counter = c.from.result + 1 }) c.args.self.now in
    let same = ap (λ (k : Core). k.xacts) c.create.ensures.core in
    store_keeps old new (ap (λ (k : Core). k.xacts) c.write.ensures.core ∙ same) refl c.requires.ready (subst (λ (x : Transactions). GoWith x c.write.new.self) same c.write.ensures.goes) (search rules)

pub returns-else-oid-eq0-clause-ok : goal.returns-else-oid-eq0-clause-ok
returns-else-oid-eq0-clause-ok c =
    let old = world c.args.core.now.xacts c.args.store.now c.args.self.now in
    let new = world c.write.new.core.xacts (record { pages = c.write.new.self; counter = c.args.store.now.counter }) c.args.self.now in
    let same = ap (λ (k : Core). k.xacts) c.create.ensures.core in
    create_done c.args.oid c.args.bytes.now old new c.in_ok-number.number c.in_ok-number.ensures.ok (ap (λ (k : Core). k.xacts) c.write.ensures.core ∙ same) refl c.create.new.self c.create.new.core.xacts same (λ ys stands. named_counter c.args.oid c.args.bytes.now old new c.in_ok-number.number c.in_ok-number.ensures.ok c.if-oid-eq0.false ys) c.in_ok-create.ensures.ok c.in_ok-write.ensures.ok

pub returns-else-oid-eq0-clause-keeps : goal.returns-else-oid-eq0-clause-keeps
returns-else-oid-eq0-clause-keeps c =
    let old = world c.args.core.now.xacts c.args.store.now c.args.self.now in
    let new = world c.write.new.core.xacts (record { pages = c.write.new.self; counter = c.args.store.now.counter }) c.args.self.now in
    let same = ap (λ (k : Core). k.xacts) c.create.ensures.core in
    store_keeps old new (ap (λ (k : Core). k.xacts) c.write.ensures.core ∙ same) refl c.requires.ready (subst (λ (x : Transactions). GoWith x c.write.new.self) same c.write.ensures.goes) c.requires.ready.counter
