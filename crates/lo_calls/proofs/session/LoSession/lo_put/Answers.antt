use Rattle.std.proofs.Common.{ℤ, refl, ap, sym, subst, w64}
use Rattle.std.proofs.lemmas.Int.{to_z-of_z}
use Rattle.lo_base.specs.declared.refusal.Denied.{Denied}
use Rattle.row_versions.specs.declared.Core.{Core}
use Rattle.lo_calls.specs.Arguments.{IsOffset, IsNoOffset}
use Rattle.lo_calls.specs.ObjectRows.{put_row}
use Rattle.lo_calls.specs.World.{world, Denies}
use Rattle.lo_calls.proofs.Putting.{put_missing, put_bad_offset, put_denied, put_done}
use Rattle.lo_calls.proofs.Refusing.{refused_by, denied_by}
use Rattle.lo_calls.proofs.Keeping.{keeps_same}
use Rattle.lo_calls.proofs.Worlds.{store_keeps}
use Rattle.lo_calls.proofs.session.LoSession.lo_put.Goals as goal

pub returns-then-not-exists-clause-err : goal.returns-then-not-exists-clause-err
returns-then-not-exists-clause-err c =
    let w = world c.args.core.now.xacts c.args.store.now c.args.self.now in
    subst (λ (d : Denied). Denies (put_row c.args.oid c.args.at c.args.bytes.now) w w d) (sym c.no_object.ensures) (put_missing c.args.oid c.args.at c.args.bytes.now w c.requires.ready c.snapshot-snap.result c.snapshot-snap.ensures.view c.exists.result c.exists.ensures c.if-not-exists.true)

pub returns-then-not-exists-clause-keeps : goal.returns-then-not-exists-clause-keeps
returns-then-not-exists-clause-keeps c = keeps_same (world c.args.core.now.xacts c.args.store.now c.args.self.now) c.requires.ready

pub returns-in_err-offset-clause-err : goal.returns-in_err-offset-clause-err
returns-in_err-offset-clause-err c =
    let w = world c.args.core.now.xacts c.args.store.now c.args.self.now in
    let at = to_z-of_z w64 c.args.at c.ranges.at in
    refused_by _ c.from_residual.result c.in_err-offset.field-0.0 c.from_residual.ensures.1 (put_bad_offset c.args.oid c.args.at c.args.bytes.now w c.requires.ready c.snapshot-snap.result c.snapshot-snap.ensures.view c.exists.result c.exists.ensures c.if-not-exists.false c.in_err-offset.field-0.0 (subst (λ (z : ℤ). IsNoOffset z c.in_err-offset.field-0.0) at c.in_err-offset.ensures.err))

pub returns-in_err-offset-clause-keeps : goal.returns-in_err-offset-clause-keeps
returns-in_err-offset-clause-keeps c = keeps_same (world c.args.core.now.xacts c.args.store.now c.args.self.now) c.requires.ready

pub returns-in_err-write-clause-err : goal.returns-in_err-write-clause-err
returns-in_err-write-clause-err c =
    let old = world c.args.core.now.xacts c.args.store.now c.args.self.now in
    let new = world c.write.new.core.xacts (record { pages = c.write.new.self; counter = c.args.store.now.counter }) c.args.self.now in
    let at = to_z-of_z w64 c.args.at c.ranges.at in
    denied_by _ c.from_residual-in_err-write.result c.in_err-write.field-0.0 c.from_residual-in_err-write.ensures.1 (put_denied c.args.oid c.args.at c.args.bytes.now old new c.in_ok-offset.offset (subst (λ (z : ℤ). IsOffset z c.in_ok-offset.offset) at c.in_ok-offset.ensures.ok) (ap (λ (k : Core). k.xacts) c.write.ensures.core) refl refl c.in_err-write.field-0.0 c.in_err-write.ensures.err)

pub returns-in_err-write-clause-keeps : goal.returns-in_err-write-clause-keeps
returns-in_err-write-clause-keeps c =
    let old = world c.args.core.now.xacts c.args.store.now c.args.self.now in
    let new = world c.write.new.core.xacts (record { pages = c.write.new.self; counter = c.args.store.now.counter }) c.args.self.now in
    store_keeps old new (ap (λ (k : Core). k.xacts) c.write.ensures.core) refl c.requires.ready c.write.ensures.goes c.requires.ready.counter

pub returns-clause-ok : goal.returns-clause-ok
returns-clause-ok c =
    let old = world c.args.core.now.xacts c.args.store.now c.args.self.now in
    let new = world c.write.new.core.xacts (record { pages = c.write.new.self; counter = c.args.store.now.counter }) c.args.self.now in
    let at = to_z-of_z w64 c.args.at c.ranges.at in
    put_done c.args.oid c.args.at c.args.bytes.now old new c.in_ok-offset.offset (subst (λ (z : ℤ). IsOffset z c.in_ok-offset.offset) at c.in_ok-offset.ensures.ok) (ap (λ (k : Core). k.xacts) c.write.ensures.core) refl refl c.in_ok-write.ensures.ok

pub returns-clause-keeps : goal.returns-clause-keeps
returns-clause-keeps c =
    let old = world c.args.core.now.xacts c.args.store.now c.args.self.now in
    let new = world c.write.new.core.xacts (record { pages = c.write.new.self; counter = c.args.store.now.counter }) c.args.self.now in
    store_keeps old new (ap (λ (k : Core). k.xacts) c.write.ensures.core) refl c.requires.ready c.write.ensures.goes c.requires.ready.counter
