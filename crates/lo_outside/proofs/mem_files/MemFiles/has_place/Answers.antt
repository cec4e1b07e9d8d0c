use Rattle.std.proofs.Common.{◌≡◌, ◌<◌, Bool, true, false, ap, sym, ◌∙◌, length, arith, position}
use Rattle.std.specs.Prelude.{◌||◌, not, is_some, nat_lt}
use Rattle.std.proofs.lemmas.Bool.Decides.{nat_tests}
use Rattle.lo_outside.specs.Place.{has_name}
use Rattle.lo_outside.proofs.Writing.{can_create}
use Rattle.lo_outside.proofs.mem_files.MemFiles.has_place.Goals as goal

pub returns-then-is_some : goal.returns-then-is_some
returns-then-is_some c =
    let there : is_some (position (has_name c.args.name.now) c.self.inside.files.items) ≡ true = rw (← c.as_bytes.ensures.value, ← c.deref.ensures.value, ← c.position_of.ensures, ← c.is_some.ensures) c.if-is_some.true in
    rw (← c.self.view_is, can_create c.self.inside.files.items _ _ c.self.inside.plan c.args.name.now c.if-name-le-NAME_ROOM.true, there) c.if-is_some.true

pub returns-else-is_some : goal.returns-else-is_some
returns-else-is_some c =
    let there : is_some (position (has_name c.args.name.now) c.self.inside.files.items) ≡ false = rw (← c.as_bytes.ensures.value, ← c.deref.ensures.value, ← c.position_of.ensures, ← c.is_some.ensures) c.if-is_some.false in
    rw (← c.self.view_is, can_create c.self.inside.files.items _ _ c.self.inside.plan c.args.name.now c.if-name-le-NAME_ROOM.true, there, c.is_empty.ensures) (grind (arith, nat_tests))
