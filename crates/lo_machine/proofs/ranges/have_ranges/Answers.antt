use Rattle.std.proofs.Common.{arith}
use Rattle.lo_machine.specs.Fitting.{HasLiteralRange}
use Rattle.lo_machine.proofs.Passed.{passed_all, passed_more}
use Rattle.lo_machine.proofs.ranges.have_ranges.Goals as goal

pub loop-literal-preserved : goal.loop-literal-preserved
loop-literal-preserved c = passed_more HasLiteralRange c.args.literals.now c.loop-literal.literal-index c.literal-item.result c.literal-item.is (omega arith) c.loop-literal.invariant c.has_range.ensures

pub returns : goal.returns
returns c = passed_all HasLiteralRange c.args.literals.now c.loop-literal.literal-index (omega arith) c.loop-literal.invariant
