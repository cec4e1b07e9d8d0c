use Rattle.std.proofs.Common.{arith}
use Rattle.lo_machine.specs.Fitting.{HasAssignRange}
use Rattle.lo_machine.proofs.Passed.{passed_all, passed_more}
use Rattle.lo_machine.proofs.ranges.have_changes.Goals as goal

pub loop-change-preserved : goal.loop-change-preserved
loop-change-preserved c = passed_more HasAssignRange c.args.changes.now c.loop-change.change-index c.change-item.result c.change-item.is (omega arith) c.loop-change.invariant c.has_range.ensures

pub returns : goal.returns
returns c = passed_all HasAssignRange c.args.changes.now c.loop-change.change-index (omega arith) c.loop-change.invariant
