use Rattle.std.proofs.Common.{◌≡◌, ◌<◌, ◌∙◌, ℤ, ap, refl, sym, subst, length, arith, pos, w32, w64, to_z, of_z}
use Rattle.std.proofs.lemmas.Int.{ints, to_z-of_z}
use Rattle.lo_base.specs.declared.refusal.Cause.TheVariants.{BadMode}
use Rattle.lo_base.specs.declared.refusal.Denied.{Denied}
use Rattle.lo_base.specs.declared.refusal.Denied.TheVariants.{By}
use Rattle.lo_calls.specs.DescriptorRows.{open_row}
use Rattle.lo_calls.specs.World.{world, Denies}
use Rattle.lo_calls.proofs.Keeping.{keeps_same}
use Rattle.lo_calls.proofs.Opening.{open_missing, open_bad_mode, open_too_many, open_unrefused, open_done, open_keeps, open_room_keeps, free_small}
use Rattle.lo_calls.proofs.session.LoSession.lo_open.Goals as goal

pub returns-then-not-exists-clause-err : goal.returns-then-not-exists-clause-err
returns-then-not-exists-clause-err c =
    let w = world c.args.core.now.xacts c.args.store.now c.args.self.now in
    subst (λ (d : Denied). Denies (open_row c.args.oid c.args.mode) w w d) (sym c.no_object.ensures) (open_missing c.args.oid c.args.mode w c.requires.ready c.snapshot-snap.result c.snapshot-snap.ensures.view c.exists.result c.exists.ensures c.if-not-exists.true)

pub returns-then-not-exists-clause-keeps : goal.returns-then-not-exists-clause-keeps
returns-then-not-exists-clause-keeps c = keeps_same (world c.args.core.now.xacts c.args.store.now c.args.self.now) c.requires.ready

pub returns-then-not-is_mode-clause-err : goal.returns-then-not-is_mode-clause-err
returns-then-not-is_mode-clause-err c =
    let w = world c.args.core.now.xacts c.args.store.now c.args.self.now in
    let mode = to_z-of_z w32 c.args.mode c.ranges.mode in
    let subject : to_z w64 (of_z w64 c.from.result) ≡ c.args.mode = omega (arith, ints) in
    subst (λ (d : Denied). Denies (open_row c.args.oid c.args.mode) w w d) (sym (c.refused.ensures ∙ ap (λ (z : ℤ). By (record { cause = BadMode; subject = z })) subject)) (open_bad_mode c.args.oid c.args.mode w c.requires.ready c.snapshot-snap.result c.snapshot-snap.ensures.view c.exists.result c.exists.ensures c.if-not-exists.false (rw mode at (sym c.if-not-is_mode.ensures)))

pub returns-then-not-is_mode-clause-keeps : goal.returns-then-not-is_mode-clause-keeps
returns-then-not-is_mode-clause-keeps c = keeps_same (world c.args.core.now.xacts c.args.store.now c.args.self.now) c.requires.ready

pub returns-then-len-ge-MOST_DESCRIPTORS-clause-err : goal.returns-then-len-ge-MOST_DESCRIPTORS-clause-err
returns-then-len-ge-MOST_DESCRIPTORS-clause-err c =
    let w = world c.args.core.now.xacts c.args.store.now c.args.self.now in
    let mode = to_z-of_z w32 c.args.mode c.ranges.mode in
    subst (λ (d : Denied). Denies (open_row c.args.oid c.args.mode) w w d) (sym c.refused-then-len-ge-MOST_DESCRIPTORS.ensures) (open_too_many c.args.oid c.args.mode w c.requires.ready c.snapshot-snap.result c.snapshot-snap.ensures.view c.exists.result c.exists.ensures c.if-not-exists.false (rw mode at (sym c.if-not-is_mode.ensures)) (omega (arith, c.args.self.now.descs.entries.ok.0)))

pub returns-then-len-ge-MOST_DESCRIPTORS-clause-keeps : goal.returns-then-len-ge-MOST_DESCRIPTORS-clause-keeps
returns-then-len-ge-MOST_DESCRIPTORS-clause-keeps c = keeps_same (world c.args.core.now.xacts c.args.store.now c.args.self.now) c.requires.ready

pub returns-in_err-make_room-clause-keeps : goal.returns-in_err-make_room-clause-keeps
returns-in_err-make_room-clause-keeps c = open_room_keeps (world c.args.core.now.xacts c.args.store.now c.args.self.now) c.make_room.new.self c.requires.ready c.make_room.ensures.same

pub returns-in_err-hold-clause-keeps : goal.returns-in_err-hold-clause-keeps
returns-in_err-hold-clause-keeps c = rw c.in_err-hold.ensures.err (open_room_keeps (world c.args.core.now.xacts c.args.store.now c.args.self.now) c.make_room.new.self c.requires.ready c.make_room.ensures.same)

pub overflow_cast-result : goal.overflow_cast-result
overflow_cast-result c = record { sfits = omega (arith, c.free_number-number.ensures, free_small c.args.self.now.descs.entries.items, c.args.self.now.descs.entries.ok.0) }

pub returns-clause-ok : goal.returns-clause-ok
returns-clause-ok c =
    let w = world c.args.core.now.xacts c.args.store.now c.args.self.now in
    let mode = to_z-of_z w32 c.args.mode c.ranges.mode in
    let few : length c.args.self.now.descs.entries.items < 256 = omega (arith, c.args.self.now.descs.entries.ok.0) in
    let answer : to_z w32 c.free_number-number.result ≡ pos c.free_number-number.result = omega (arith, ints, c.free_number-number.ensures, free_small c.args.self.now.descs.entries.items) in
    rw answer (open_done c.args.oid c.args.mode w c.requires.ready c.hold_view.new.core.xacts c.in_ok-hold.hold (rw (mode, c.snapshot-snap.ensures.view) at c.in_ok-hold.ensures.ok) (record { alloc = c.make_room.new.self.alloc; entries = c.push_reserved.new.self }) (record { number = c.free_number-number.result; oid = c.args.oid; position = 0; level = c.levels.result; hold = c.in_ok-hold.hold }) (rw c.make_room.ensures.same at c.push_reserved.ensures.items) c.free_number-number.ensures refl refl c.levels.ensures.count refl few (open_unrefused c.args.oid c.args.mode w c.requires.ready c.snapshot-snap.result c.snapshot-snap.ensures.view c.exists.result c.exists.ensures c.if-not-exists.false (rw mode at (sym c.if-not-is_mode.ensures)) few))

pub returns-clause-keeps : goal.returns-clause-keeps
returns-clause-keeps c =
    let w = world c.args.core.now.xacts c.args.store.now c.args.self.now in
    let mode = to_z-of_z w32 c.args.mode c.ranges.mode in
    let few : length c.args.self.now.descs.entries.items < 256 = omega (arith, c.args.self.now.descs.entries.ok.0) in
    open_keeps c.args.oid c.args.mode w c.requires.ready c.hold_view.new.core.xacts c.in_ok-hold.hold (rw (mode, c.snapshot-snap.ensures.view) at c.in_ok-hold.ensures.ok) (record { alloc = c.make_room.new.self.alloc; entries = c.push_reserved.new.self }) (record { number = c.free_number-number.result; oid = c.args.oid; position = 0; level = c.levels.result; hold = c.in_ok-hold.hold }) (rw c.make_room.ensures.same at c.push_reserved.ensures.items) c.free_number-number.ensures refl refl c.levels.ensures.count refl few
