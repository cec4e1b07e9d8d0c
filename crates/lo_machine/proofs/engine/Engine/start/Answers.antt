use Rattle.lo_opening.specs.Meaning.{opening_of}
use Rattle.lo_machine.specs.Run.{start_from}
use Rattle.lo_machine.proofs.CleanupsKept.{all_over}
use Rattle.lo_machine.proofs.engine.Engine.start.Goals as goal

pub returns-clause-sound : goal.returns-clause-sound
returns-clause-sound c = record {
  sound = record { server = c.in_ok-start.ensures.sound; sixteen = c.in_ok-no_cleanups.ensures.sixteen };
  rows = c.in_ok-start.ensures.rows;
  stands = record {
    state = (start_from (opening_of c.args.opening.now)).state;
    stands = record { server = c.in_ok-start.ensures.stands; sweeps = all_over _ c.in_ok-no_cleanups.ensures };
  };
}

pub returns-clause-stands : goal.returns-clause-stands
returns-clause-stands c = record { server = c.in_ok-start.ensures.stands; sweeps = all_over _ c.in_ok-no_cleanups.ensures }
