use Rattle.std.proofs.Common.{◌≡◌, ◌-◌, ℕ, Some, None, position, min, length, arith}
use Rattle.lo_outside.specs.Place.{has_name}
use Rattle.lo_outside.proofs.SettingBytes.{at_position, no_position}
use Rattle.lo_outside.proofs.mem_files.MemFilesFiles.read.Goals as goal

nothing_left : (room at : ℕ) → 0 ≡ min room (0 - at)
nothing_left room at = omega arith

pub returns-in_default-clause-count : goal.returns-in_default-clause-count
returns-in_default-clause-count c =
    let none : None ≡ position (has_name c.args.name.now) c.self.inside.files.items = rw (← c.as_bytes.ensures.value, ← c.deref.ensures.value) c.in_default.ensures in
    rw (← c.self.view_is, no_position _ _ none) (nothing_left (length c.args.out.now) c.args.at)

pub returns-clause-count : goal.returns-clause-count
returns-clause-count c =
    let at : Some c.in-Some.i ≡ position (has_name c.args.name.now) c.self.inside.files.items = rw (← c.as_bytes.ensures.value, ← c.deref.ensures.value) c.in-Some.ensures in
    rw (← c.self.view_is, at_position _ _ c.index.result.now _ at, ← c.index.ensures) c.read.ensures.count

pub returns-clause-filled : goal.returns-clause-filled
returns-clause-filled c =
    let at : Some c.in-Some.i ≡ position (has_name c.args.name.now) c.self.inside.files.items = rw (← c.as_bytes.ensures.value, ← c.deref.ensures.value) c.in-Some.ensures in
    rw (← c.self.view_is, at_position _ _ c.index.result.now _ at, ← c.index.ensures) c.read.ensures.filled
