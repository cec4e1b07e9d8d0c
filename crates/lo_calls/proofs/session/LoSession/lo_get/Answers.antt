use Rattle.std.proofs.Common.{ℤ, sym, subst, w64}
use Rattle.std.proofs.lemmas.Int.{to_z-of_z}
use Rattle.std.proofs.lemmas.Result.{IfOk-weaker, IfErr-weaker}
use Rattle.lo_base.specs.declared.refusal.Denied.{Denied}
use Rattle.lo_calls.specs.Arguments.{IsOffset, IsNoOffset}
use Rattle.lo_calls.specs.ObjectRows.{get_row}
use Rattle.lo_calls.specs.World.{world, Denies}
use Rattle.lo_calls.proofs.Getting.{get_missing, get_bad_offset, get_bad_limit, get_much, get_done}
use Rattle.lo_calls.proofs.Refusing.{refused_by}
use Rattle.lo_calls.proofs.session.LoSession.lo_get.Goals as goal

pub returns-then-not-exists-clause-err : goal.returns-then-not-exists-clause-err
returns-then-not-exists-clause-err c =
    let w = world c.args.core.now.xacts c.args.store.now c.args.self.now in
    subst (λ (d : Denied). Denies (get_row c.args.oid c.args.from c.args.length) w w d) (sym c.no_object.ensures) (get_missing c.args.oid c.args.from c.args.length w c.requires.ready c.snapshot-snap.result c.snapshot-snap.ensures.view c.exists.result c.exists.ensures c.if-not-exists.true)

pub returns-in_err-at-clause-err : goal.returns-in_err-at-clause-err
returns-in_err-at-clause-err c =
    let w = world c.args.core.now.xacts c.args.store.now c.args.self.now in
    let from = to_z-of_z w64 c.args.from c.ranges.from in
    refused_by _ c.from_residual.result c.in_err-at.field-0.0 c.from_residual.ensures.1 (get_bad_offset c.args.oid c.args.from c.args.length w c.requires.ready c.snapshot-snap.result c.snapshot-snap.ensures.view c.exists.result c.exists.ensures c.if-not-exists.false c.in_err-at.field-0.0 (subst (λ (z : ℤ). IsNoOffset z c.in_err-at.field-0.0) from c.in_err-at.ensures.err))

pub returns-in_err-most-clause-err : goal.returns-in_err-most-clause-err
returns-in_err-most-clause-err c =
    let w = world c.args.core.now.xacts c.args.store.now c.args.self.now in
    let from = to_z-of_z w64 c.args.from c.ranges.from in
    refused_by _ c.from_residual-in_err-most.result c.in_err-most.field-0.0 c.from_residual-in_err-most.ensures.1 (get_bad_limit c.args.oid c.args.from c.args.length w c.requires.ready c.snapshot-snap.result c.snapshot-snap.ensures.view c.exists.result c.exists.ensures c.if-not-exists.false c.in_ok-at.at (subst (λ (z : ℤ). IsOffset z c.in_ok-at.at) from c.in_ok-at.ensures.ok) c.in_err-most.field-0.0 c.in_err-most.ensures.err)

pub returns-clause-ok : goal.returns-clause-ok
returns-clause-ok c =
    let w = world c.args.core.now.xacts c.args.store.now c.args.self.now in
    let from = to_z-of_z w64 c.args.from c.ranges.from in
    IfOk-weaker c.read_bytes.result _ _ (get_done c.args.oid c.args.from c.args.length w c.requires.ready c.snapshot-snap.result c.snapshot-snap.ensures.view c.exists.result c.exists.ensures c.if-not-exists.false c.in_ok-at.at (subst (λ (z : ℤ). IsOffset z c.in_ok-at.at) from c.in_ok-at.ensures.ok) c.in_ok-most.most c.in_ok-most.ensures.ok) c.read_bytes.ensures.ok

pub returns-clause-err : goal.returns-clause-err
returns-clause-err c =
    let w = world c.args.core.now.xacts c.args.store.now c.args.self.now in
    let from = to_z-of_z w64 c.args.from c.ranges.from in
    IfErr-weaker c.read_bytes.result _ _ (get_much c.args.oid c.args.from c.args.length w c.requires.ready c.snapshot-snap.result c.snapshot-snap.ensures.view c.exists.result c.exists.ensures c.if-not-exists.false c.in_ok-at.at (subst (λ (z : ℤ). IsOffset z c.in_ok-at.at) from c.in_ok-at.ensures.ok) c.in_ok-most.most c.in_ok-most.ensures.ok) c.read_bytes.ensures.err
