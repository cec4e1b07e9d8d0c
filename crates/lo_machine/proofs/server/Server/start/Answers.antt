use Rattle.std.proofs.Common.{ℕ, [], subst}
use Rattle.lo_model.specs.Levels.{committed}
use Rattle.lo_model.specs.Session.{idle_session}
use Rattle.lo_opening.specs.Meaning.{opening_of}
use Rattle.lo_machine.specs.Server.{Becomes, clock_of}
use Rattle.lo_machine.specs.Loading.{loading_session}
use Rattle.lo_machine.proofs.NewServer.{start_stands}
use Rattle.lo_machine.proofs.Steps.{ticked_rows, ticked_sound}
use Rattle.lo_machine.proofs.server.Server.start.Goals as goal

pub returns-clause-sound : goal.returns-clause-sound
returns-clause-sound c = ticked_sound c.end_committed.new.self c.tick.new.self c.tick.ensures.clock c.end_committed.ensures.sound

pub returns-clause-rows : goal.returns-clause-rows
returns-clause-rows c = ticked_rows c.end_committed.new.self c.tick.new.self c.tick.ensures.clock (c.end_committed.ensures.becomes.rows c.in_ok-server.ensures.rows)

pub returns-clause-stands : goal.returns-clause-stands
returns-clause-stands c =
    let old = c.in_ok-server.server in
    let new = c.end_committed.new.self in
    let becomes : Becomes loading_session [] (committed loading_session (clock_of old)) (λ session. idle_session) old new = subst (λ (s : ℕ). Becomes s [] (committed s (clock_of old)) (λ session. idle_session) old new) c.loader-s.ensures c.end_committed.ensures.becomes in
    start_stands (opening_of c.args.opening.now) old new c.in_ok-server.ensures becomes c.tick.new.self c.tick.ensures.clock
