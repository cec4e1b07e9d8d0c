use Rattle.std.proofs.Common.{◌∷◌, ◌++◌, [], Some, refl}
use Rattle.lo_machine.specs.Server.{names_in}
use Rattle.lo_machine.proofs.LevelBegins.{begun_sound, begun_becomes}
use Rattle.lo_machine.proofs.LevelSteps.{first_more}
use Rattle.lo_machine.proofs.server.Server.save.Goals as goal

pub returns-clause-sound : goal.returns-clause-sound
returns-clause-sound c =
    let names = names_in c.args.self.now c.args.s in
    begun_sound c.args.s (Some c.args.name) (names ++ Some c.args.name ∷ []) c.args.self.now (record { xacts = c.push_level.new.self }) c.requires.sound refl (first_more names (Some c.args.name) c.requires.open) c.in-Ok.ensures.ok

pub returns-clause-ok : goal.returns-clause-ok
returns-clause-ok c =
    let names = names_in c.args.self.now c.args.s in
    begun_becomes c.args.s (Some c.args.name) (names ++ Some c.args.name ∷ []) c.args.self.now (record { xacts = c.push_level.new.self }) c.requires.sound refl (first_more names (Some c.args.name) c.requires.open) c.in-Ok.ensures.ok
