use Rattle.std.proofs.Common.{◌≤◌, ◌+◌, length, arith, w32}
use Rattle.std.proofs.lemmas.Int.{to_z-of_z}
use Rattle.lo_calls.specs.Descriptors.{last_position}
use Rattle.lo_calls.specs.World.{world}
use Rattle.lo_calls.proofs.Fetching.{counted, read_much, read_done}
use Rattle.lo_calls.proofs.Finding.{found_at, found_is, found_among, found_position}
use Rattle.lo_calls.proofs.Keeping.{keeps_same, moved_keeps}
use Rattle.lo_calls.proofs.Looking.{hold_own, hold_among}
use Rattle.lo_calls.proofs.Refusing.{failed_with}
use Rattle.lo_calls.proofs.session.LoSession.lo_read.Goals as goal

pub returns-in_err-index-clause-keeps : goal.returns-in_err-index-clause-keeps
returns-in_err-index-clause-keeps c = keeps_same (world c.args.core.now.xacts c.args.store.now c.args.self.now) c.requires.ready

pub index-descriptor-requires : goal.index-descriptor-requires
index-descriptor-requires c = found_at _ c.args.self.now.descs c.in_ok-index.index c.in_ok-index.ensures.ok

pub view-snap-requires-clause-own : goal.view-snap-requires-clause-own
view-snap-requires-clause-own c = hold_own c.args.core.now.xacts c.args.self.now.s c.args.self.now.descs c.index-descriptor.result.now c.requires.ready.descriptors (found_among _ c.args.self.now.descs c.in_ok-index.index c.index-descriptor.result.now c.in_ok-index.ensures.ok c.index-descriptor.ensures)

pub view-snap-requires-clause-held : goal.view-snap-requires-clause-held
view-snap-requires-clause-held c = hold_among c.args.core.now.xacts c.args.self.now.descs c.index-descriptor.result.now c.requires.ready.descriptors.held (found_among _ c.args.self.now.descs c.in_ok-index.index c.index-descriptor.result.now c.in_ok-index.ensures.ok c.index-descriptor.ensures)

pub returns-in_err-bytes-clause-err : goal.returns-in_err-bytes-clause-err
returns-in_err-bytes-clause-err c =
    let w = world c.args.core.now.xacts c.args.store.now c.args.self.now in
    let fd = to_z-of_z w32 c.args.fd c.ranges.fd in
    let len = to_z-of_z w32 c.args.len c.ranges.len in
    let limit = counted c.args.len c.try_from.result c.unwrap_or-most.result c.ranges.len (rw len at c.try_from.ensures) c.unwrap_or-most.ensures in
    failed_with _ c.from_residual-in_err-bytes.result c.in_err-bytes.field-0.0 c.from_residual-in_err-bytes.ensures.1
    (read_much c.args.fd c.args.len w c.index-descriptor.result.now (found_is c.args.fd c.args.self.now.descs c.in_ok-index.index c.index-descriptor.result.now (rw fd at c.in_ok-index.ensures.ok) c.index-descriptor.ensures) c.view-snap.result c.view-snap.ensures c.unwrap_or-most.result limit c.in_err-bytes.field-0.0 c.in_err-bytes.ensures.err)

pub returns-in_err-bytes-clause-keeps : goal.returns-in_err-bytes-clause-keeps
returns-in_err-bytes-clause-keeps c = keeps_same (world c.args.core.now.xacts c.args.store.now c.args.self.now) c.requires.ready

pub overflow_add-position : goal.overflow_add-position
overflow_add-position c =
    let small = found_position _ c.args.self.now.descs c.in_ok-index.index c.index-descriptor.result.now c.args.core.now.xacts c.args.self.now.s c.in_ok-index.ensures.ok c.index-descriptor.ensures c.requires.ready.descriptors in
    let few = c.in_ok-bytes.ensures.ok.few in
    rw c.items.ensures (record { fits = omega arith })

pub returns-clause-ok : goal.returns-clause-ok
returns-clause-ok c =
    let w = world c.args.core.now.xacts c.args.store.now c.args.self.now in
    let fd = to_z-of_z w32 c.args.fd c.ranges.fd in
    let len = to_z-of_z w32 c.args.len c.ranges.len in
    let limit = counted c.args.len c.try_from.result c.unwrap_or-most.result c.ranges.len (rw len at c.try_from.ensures) c.unwrap_or-most.ensures in
    read_done c.args.fd c.args.len w c.index-descriptor.result.now (found_is c.args.fd c.args.self.now.descs c.in_ok-index.index c.index-descriptor.result.now (rw fd at c.in_ok-index.ensures.ok) c.index-descriptor.ensures) c.view-snap.result c.view-snap.ensures c.unwrap_or-most.result limit c.in_ok-bytes.bytes c.in_ok-bytes.ensures.ok c.move_to.new.self (rw c.items.ensures at c.move_to.ensures.moved)

pub returns-clause-keeps : goal.returns-clause-keeps
returns-clause-keeps c =
    let small = found_position _ c.args.self.now.descs c.in_ok-index.index c.index-descriptor.result.now c.args.core.now.xacts c.args.self.now.s c.in_ok-index.ensures.ok c.index-descriptor.ensures c.requires.ready.descriptors in
    let near : c.index-descriptor.result.now.position + length c.items.result.now ≤ last_position = rw c.items.ensures (c.in_ok-bytes.ensures.ok.near small) in
    moved_keeps (world c.args.core.now.xacts c.args.store.now c.args.self.now) c.args.store.now c.move_to.new.self c.requires.ready c.requires.ready.goes c.requires.ready.counter c.move_to.ensures.holds (c.move_to.ensures.open c.args.core.now.xacts c.args.self.now.s near c.requires.ready.descriptors)
