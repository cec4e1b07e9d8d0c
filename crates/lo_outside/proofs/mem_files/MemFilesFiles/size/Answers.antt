use Rattle.std.proofs.Common.{◌≡◌, Some, None, position, refl}
use Rattle.lo_outside.specs.Place.{has_name}
use Rattle.lo_outside.proofs.SettingBytes.{at_position, no_position}
use Rattle.lo_outside.proofs.mem_files.MemFilesFiles.size.Goals as goal

pub returns-in_default-clause-size : goal.returns-in_default-clause-size
returns-in_default-clause-size c =
    let none : None ≡ position (has_name c.args.name.now) c.self.inside.files.items = rw (← c.as_bytes.ensures.value, ← c.deref.ensures.value) c.in_default.ensures in
    rw (← c.self.view_is, no_position _ _ none) refl

pub returns-clause-size : goal.returns-clause-size
returns-clause-size c =
    let at : Some c.in-Some.i ≡ position (has_name c.args.name.now) c.self.inside.files.items = rw (← c.as_bytes.ensures.value, ← c.deref.ensures.value) c.in-Some.ensures in
    rw (← c.self.view_is, at_position _ _ c.index.result.now _ at, c.len.ensures, ← c.index.ensures) refl
