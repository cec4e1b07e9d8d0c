use Rattle.std.proofs.Common.{◌≡◌, pos, arith, w32, w64, to_z}
use Rattle.std.proofs.lemmas.Int.{ints, to_z-of_z}
use Rattle.lo_calls.specs.World.{world}
use Rattle.lo_calls.proofs.Finding.{found_at, found_is, found_number, found_among}
use Rattle.lo_calls.proofs.Keeping.{keeps_same, moved_keeps}
use Rattle.lo_calls.proofs.Refusing.{failed_with}
use Rattle.lo_calls.proofs.Seeking.{seek_bad, seek_range, seek_done}
use Rattle.lo_calls.proofs.session.LoSession.lo_lseek.Goals as goal

pub returns-in_err-index-clause-keeps : goal.returns-in_err-index-clause-keeps
returns-in_err-index-clause-keeps c = keeps_same (world c.args.core.now.xacts c.args.store.now c.args.self.now) c.requires.ready

pub index-descriptor-requires : goal.index-descriptor-requires
index-descriptor-requires c = found_at _ c.args.self.now.descs c.in_ok-index.index c.in_ok-index.ensures.ok

pub seek_base-requires-clause-open : goal.seek_base-requires-clause-open
seek_base-requires-clause-open c = found_among _ c.args.self.now.descs c.in_ok-index.index c.index-descriptor.result.now c.in_ok-index.ensures.ok c.index-descriptor.ensures

pub returns-in_err-base-clause-keeps : goal.returns-in_err-base-clause-keeps
returns-in_err-base-clause-keeps c = keeps_same (world c.args.core.now.xacts c.args.store.now c.args.self.now) c.requires.ready

pub returns-in_err-position-clause-err : goal.returns-in_err-position-clause-err
returns-in_err-position-clause-err c =
    let w = world c.args.core.now.xacts c.args.store.now c.args.self.now in
    let fd = to_z-of_z w32 c.args.fd c.ranges.fd in
    let whence = to_z-of_z w32 c.args.whence c.ranges.whence in
    let offset = to_z-of_z w64 c.args.offset c.ranges.offset in
    failed_with _ c.from_residual-in_err-position.result c.in_err-position.field-0.0 c.from_residual-in_err-position.ensures.1
    (seek_bad c.args.wide c.args.fd c.args.offset c.args.whence w c.index-descriptor.result.now (found_is c.args.fd c.args.self.now.descs c.in_ok-index.index c.index-descriptor.result.now (rw fd at c.in_ok-index.ensures.ok) c.index-descriptor.ensures) c.in_ok-base.base (rw whence at c.in_ok-base.ensures.ok) c.in_err-position.field-0.0 (rw offset at c.in_err-position.ensures.err))

pub returns-in_err-position-clause-keeps : goal.returns-in_err-position-clause-keeps
returns-in_err-position-clause-keeps c = keeps_same (world c.args.core.now.xacts c.args.store.now c.args.self.now) c.requires.ready

pub returns-in_err-check_range-clause-err : goal.returns-in_err-check_range-clause-err
returns-in_err-check_range-clause-err c =
    let w = world c.args.core.now.xacts c.args.store.now c.args.self.now in
    let fd = to_z-of_z w32 c.args.fd c.ranges.fd in
    let whence = to_z-of_z w32 c.args.whence c.ranges.whence in
    let offset = to_z-of_z w64 c.args.offset c.ranges.offset in
    failed_with _ c.from_residual-in_err-check_range.result c.in_err-check_range.field-0.0 c.from_residual-in_err-check_range.ensures.1
    (seek_range c.args.wide c.args.fd c.args.offset c.args.whence w c.index-descriptor.result.now (found_is c.args.fd c.args.self.now.descs c.in_ok-index.index c.index-descriptor.result.now (rw fd at c.in_ok-index.ensures.ok) c.index-descriptor.ensures) c.in_ok-base.base (rw whence at c.in_ok-base.ensures.ok) c.in_ok-position.position (rw offset at c.in_ok-position.ensures.ok) (found_number c.args.fd c.args.self.now.descs c.in_ok-index.index c.index-descriptor.result.now (rw fd at c.in_ok-index.ensures.ok) c.index-descriptor.ensures) c.in_err-check_range.field-0.0 (rw fd at c.in_err-check_range.ensures.err))

pub returns-in_err-check_range-clause-keeps : goal.returns-in_err-check_range-clause-keeps
returns-in_err-check_range-clause-keeps c = keeps_same (world c.args.core.now.xacts c.args.store.now c.args.self.now) c.requires.ready

pub returns-clause-ok : goal.returns-clause-ok
returns-clause-ok c =
    let w = world c.args.core.now.xacts c.args.store.now c.args.self.now in
    let fd = to_z-of_z w32 c.args.fd c.ranges.fd in
    let whence = to_z-of_z w32 c.args.whence c.ranges.whence in
    let offset = to_z-of_z w64 c.args.offset c.ranges.offset in
    let answer : to_z w64 c.in_ok-position.position ≡ pos c.in_ok-position.position = omega (arith, ints, c.in_ok-position.ensures.ok.within) in
    rw answer (seek_done c.args.wide c.args.fd c.args.offset c.args.whence w c.index-descriptor.result.now (found_is c.args.fd c.args.self.now.descs c.in_ok-index.index c.index-descriptor.result.now (rw fd at c.in_ok-index.ensures.ok) c.index-descriptor.ensures) c.in_ok-base.base (rw whence at c.in_ok-base.ensures.ok) c.in_ok-position.position (rw offset at c.in_ok-position.ensures.ok) (found_number c.args.fd c.args.self.now.descs c.in_ok-index.index c.index-descriptor.result.now (rw fd at c.in_ok-index.ensures.ok) c.index-descriptor.ensures) (rw fd at c.in_ok-check_range.ensures.ok) c.move_to.new.self c.move_to.ensures.moved)

pub returns-clause-keeps : goal.returns-clause-keeps
returns-clause-keeps c = moved_keeps (world c.args.core.now.xacts c.args.store.now c.args.self.now) c.args.store.now c.move_to.new.self c.requires.ready c.requires.ready.goes c.requires.ready.counter c.move_to.ensures.holds (c.move_to.ensures.open c.args.core.now.xacts c.args.self.now.s (omega (arith, c.in_ok-position.ensures.ok.within)) c.requires.ready.descriptors)
