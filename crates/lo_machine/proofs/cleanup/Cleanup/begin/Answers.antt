use Rattle.std.proofs.Common.{refl, sym}
use Rattle.orphan_sweep.specs.History.{acts_of, begun}
use Rattle.lo_machine.proofs.CleanupsTold.{none_refused}
use Rattle.lo_machine.proofs.cleanup.Cleanup.begin.Goals as goal

pub returns : goal.returns
returns c = record {
  sweep = c.new.ensures;
  dry = refl;
  refused = sym (none_refused (acts_of (begun c.args.dry c.args.limit c.args.list c.args.scans)));
  answers = tt;
}
