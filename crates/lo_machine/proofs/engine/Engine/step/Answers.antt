use Rattle.std.proofs.Common.{◌≡◌, arith}
use Rattle.lo_machine.specs.Engine.{clock_of}
use Rattle.lo_machine.proofs.EngineSteps.{serves, stands_after}
use Rattle.lo_machine.proofs.engine.Engine.step.Goals as goal

pub tick-requires-clause-time : goal.tick-requires-clause-time
tick-requires-clause-time c =
    let time : clock_of c.outcome.new.self ≡ clock_of c.args.self.now = c.in-Ok.ensures.ok.time in
    omega (arith, time, c.requires.time)

pub returns-clause-sound : goal.returns-clause-sound
returns-clause-sound c = record {
  sound = record { server = c.tick.ensures.sound; sixteen = c.outcome.ensures.sound.sixteen };
  rows = c.tick.ensures.rows (c.in-Ok.ensures.ok.rows c.requires.sound.rows);
  stands = record {
    state = _;
    stands = stands_after c.args.self.now c.outcome.new.self c.tick.new.self c.args.s c.args.request.now c.in-Ok.reply c.requires.served c.has_ranges.ensures.array c.has_ranges.ensures.kept c.in-Ok.ensures.ok c.tick.ensures.stands c.requires.sound.stands.state c.requires.sound.stands.stands;
  };
}

pub returns-clause-serves : goal.returns-clause-serves
returns-clause-serves c = serves c.args.self.now c.outcome.new.self c.tick.new.self c.args.s c.args.request.now c.in-Ok.reply c.requires.served c.has_ranges.ensures.array c.has_ranges.ensures.kept c.in-Ok.ensures.ok c.tick.ensures.stands c.tick.ensures.time
