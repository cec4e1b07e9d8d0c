use Rattle.std.proofs.Common.{ℕ, List, [], ◌∷◌, ◌++◌, Option, None, refl, ap}
use Rattle.lo_machine.proofs.LevelBegins.{begun_sound, begun_becomes}
use Rattle.lo_machine.proofs.server.Server.open.Goals as goal

pub returns-clause-sound : goal.returns-clause-sound
returns-clause-sound c = begun_sound c.args.s None (None ∷ []) c.args.self.now (record { xacts = c.begin.new.self }) c.requires.sound (ap (λ (names : List (Option (List ℕ))). names ++ None ∷ []) c.requires.none) (λ first. refl) c.in-Ok.ensures.ok

pub returns-clause-ok : goal.returns-clause-ok
returns-clause-ok c = begun_becomes c.args.s None (None ∷ []) c.args.self.now (record { xacts = c.begin.new.self }) c.requires.sound (ap (λ (names : List (Option (List ℕ))). names ++ None ∷ []) c.requires.none) (λ first. refl) c.in-Ok.ensures.ok
