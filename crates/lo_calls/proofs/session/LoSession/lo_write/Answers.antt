use Rattle.std.proofs.Common.{◌≡◌, ◌≤◌, ◌+◌, ap, refl, length, arith, pos, w32, w64, to_z}
use Rattle.std.proofs.lemmas.Int.{ints, to_z-of_z}
use Rattle.row_versions.specs.declared.base.Core.{Core}
use Rattle.lo_calls.specs.World.{world}
use Rattle.lo_calls.proofs.Finding.{found_at, found_is, found_writes}
use Rattle.lo_calls.proofs.Keeping.{keeps_same, moved_keeps}
use Rattle.lo_calls.proofs.Refusing.{failed_with}
use Rattle.lo_calls.proofs.Worlds.{store_keeps}
use Rattle.lo_calls.proofs.Writing.{write_denied, write_done}
use Rattle.lo_calls.proofs.session.LoSession.lo_write.Goals as goal

pub returns-in_err-index-clause-keeps : goal.returns-in_err-index-clause-keeps
returns-in_err-index-clause-keeps c = keeps_same (world c.args.core.now.xacts c.args.store.now c.args.self.now) c.requires.ready

pub index-descriptor-requires : goal.index-descriptor-requires
index-descriptor-requires c = found_at _ c.args.self.now.descs c.in_ok-index.index c.in_ok-index.ensures.ok.finds

pub returns-in_err-write-clause-err : goal.returns-in_err-write-clause-err
returns-in_err-write-clause-err c =
    let old = world c.args.core.now.xacts c.args.store.now c.args.self.now in
    let new = world c.write.new.core.xacts (record { pages = c.write.new.self; counter = c.args.store.now.counter }) c.args.self.now in
    let fd = to_z-of_z w32 c.args.fd c.ranges.fd in
    let found = rw fd at c.in_ok-index.ensures.ok in
    failed_with _ c.from_residual-in_err-write.result c.in_err-write.field-0.0 c.from_residual-in_err-write.ensures.1
    (write_denied c.args.fd c.args.bytes.now old c.index-descriptor.result.now (found_is c.args.fd c.args.self.now.descs c.in_ok-index.index c.index-descriptor.result.now found.finds c.index-descriptor.ensures) (found_writes c.args.fd c.args.self.now.descs c.in_ok-index.index c.index-descriptor.result.now found c.index-descriptor.ensures) new (ap (λ (k : Core). k.xacts) c.write.ensures.core) refl refl c.in_err-write.field-0.0 c.in_err-write.ensures.err)

pub returns-in_err-write-clause-keeps : goal.returns-in_err-write-clause-keeps
returns-in_err-write-clause-keeps c =
    let old = world c.args.core.now.xacts c.args.store.now c.args.self.now in
    let new = world c.write.new.core.xacts (record { pages = c.write.new.self; counter = c.args.store.now.counter }) c.args.self.now in
    store_keeps old new (ap (λ (k : Core). k.xacts) c.write.ensures.core) refl c.requires.ready c.write.ensures.goes c.requires.ready.counter

pub overflow_add-position : goal.overflow_add-position
overflow_add-position c =
    let near : c.index-descriptor.result.now.position + length c.args.bytes.now ≤ 4398046509056 = c.in_ok-write.ensures.small in
    record { fits = omega (arith, near) }

pub returns-clause-ok : goal.returns-clause-ok
returns-clause-ok c =
    let w = world c.args.core.now.xacts c.args.store.now c.args.self.now in
    let fd = to_z-of_z w32 c.args.fd c.ranges.fd in
    let found = rw fd at c.in_ok-index.ensures.ok in
    let near : c.index-descriptor.result.now.position + length c.args.bytes.now ≤ 4398046509056 = c.in_ok-write.ensures.small in
    let answer : to_z w64 (length c.args.bytes.now) ≡ pos (length c.args.bytes.now) = omega (arith, ints, near) in
    rw answer (write_done c.args.fd c.args.bytes.now w c.index-descriptor.result.now (found_is c.args.fd c.args.self.now.descs c.in_ok-index.index c.index-descriptor.result.now found.finds c.index-descriptor.ensures) (found_writes c.args.fd c.args.self.now.descs c.in_ok-index.index c.index-descriptor.result.now found c.index-descriptor.ensures) c.write.new.core.xacts c.write.new.self c.move_to.new.self (ap (λ (k : Core). k.xacts) c.write.ensures.core) c.in_ok-write.ensures.ok c.move_to.ensures.moved)

pub returns-clause-keeps : goal.returns-clause-keeps
returns-clause-keeps c =
    let w = world c.args.core.now.xacts c.args.store.now c.args.self.now in
    let near : c.index-descriptor.result.now.position + length c.args.bytes.now ≤ 4398046509056 = c.in_ok-write.ensures.small in
    let moved = moved_keeps w (record { pages = c.write.new.self; counter = c.args.store.now.counter }) c.move_to.new.self c.requires.ready c.write.ensures.goes c.requires.ready.counter c.move_to.ensures.holds (c.move_to.ensures.open c.args.core.now.xacts c.args.self.now.s (omega (arith, near)) c.requires.ready.descriptors) in
    rw c.write.ensures.core moved
