use Rattle.std.proofs.Common.{ap, subst, sym, arith}
use Rattle.xact_core.specs.Transactions.{Transactions}
use Rattle.lo_machine.specs.Server.{StandsFor}
use Rattle.lo_machine.specs.State.{state_with}
use Rattle.lo_machine.proofs.Steps.{ticked_rows, ticked_sound, ticked_stands, with_xacts}
use Rattle.lo_machine.proofs.server.Server.tick.Goals as goal

pub tick-requires : goal.tick-requires
tick-requires c = omega (arith, c.requires.time)

pub returns-clause-sound : goal.returns-clause-sound
returns-clause-sound c = ticked_sound c.args.self.now c.tick.new.self c.tick.ensures.clock c.requires.sound

pub returns-clause-rows : goal.returns-clause-rows
returns-clause-rows c rows = ticked_rows c.args.self.now c.tick.new.self c.tick.ensures.clock rows

pub returns-clause-time : goal.returns-clause-time
returns-clause-time c = ap (λ (x : Transactions). x.clock) c.tick.ensures.clock

pub returns-clause-stands : goal.returns-clause-stands
returns-clause-stands c st s done leaves well fit =
    subst (λ (x : Transactions). StandsFor (with_xacts c.args.self.now x) (state_with st s done)) (sym c.tick.ensures.clock) (ticked_stands c.args.self.now st s done leaves well fit)
