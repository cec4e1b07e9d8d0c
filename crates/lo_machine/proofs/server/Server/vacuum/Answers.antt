use Rattle.std.proofs.Common.{refl, ◌∙◌}
use Rattle.lo_machine.proofs.BlockRequests.{vacuum_refused, vacuumed_does, vacuumed_sound}
use Rattle.lo_machine.proofs.server.Server.vacuum.Goals as goal

pub returns-then-is_open-clause-does : goal.returns-then-is_open-clause-does
returns-then-is_open-clause-does c = vacuum_refused c.args.s c.is_open.ensures.range.0 c.is_open.ensures.range.1 c.args.self.now c.refuse.new.self c.refuse.result (c.if-is_open.ensures.open refl) c.refuse.ensures.does

pub returns-clause-does : goal.returns-clause-does
returns-clause-does c =
    let core = c.vacuum.ensures.core in
    vacuumed_does c.args.self.now c.vacuum-2.new.core (c.vacuum-2.ensures.core ∙ core) c.vacuum.new.self c.vacuum-2.new.self c.vacuum-2.ensures.catalog c.vacuum-2.ensures.cursors
    c.vacuum.ensures.stand (rw core at c.vacuum-2.ensures.goes) (rw core at c.vacuum-2.ensures.stand) c.args.s c.is_open.ensures.range.0 c.is_open.ensures.range.1 (c.if-is_open.ensures.none refl)

pub returns-clause-sound : goal.returns-clause-sound
returns-clause-sound c =
    let core = c.vacuum.ensures.core in
    vacuumed_sound c.args.self.now c.vacuum-2.new.core (c.vacuum-2.ensures.core ∙ core) c.vacuum.new.self c.vacuum-2.new.self c.vacuum-2.ensures.catalog c.vacuum-2.ensures.cursors
    c.requires.sound c.vacuum.ensures.goes
