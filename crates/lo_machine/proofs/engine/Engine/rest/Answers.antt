use Rattle.lo_machine.specs.Sweeping.{sweeps_of}
use Rattle.lo_machine.proofs.CleanupsKept.{IsOwn, own_for}
use Rattle.lo_machine.proofs.engine.Engine.rest.Goals as goal

pub returns : goal.returns
returns c st stands =
    let range = c.number.ensures in
    let own : IsOwn c.args.self.now c.args.s c.place.result c.index.result.now = record {
      low = rw range.same at range.range.0;
      high = rw range.same at range.range.1;
      at = c.place.ensures.place;
      sixteen = c.requires.sound.sound.sixteen;
      taken = c.index.ensures;
    } in
    c.rest_before_report.ensures (sweeps_of st c.args.s) (own_for c.args.self.now c.args.s c.place.result c.index.result.now own st stands)
