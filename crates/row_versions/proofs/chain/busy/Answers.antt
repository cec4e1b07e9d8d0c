use Rattle.std.proofs.Common.{◌∙◌, sym, arith}
use Rattle.row_versions.proofs.Walking.{busy_next, busy_here}
use Rattle.row_versions.proofs.chain.busy.Goals as goal

pub returns-in-Some : goal.returns-in-Some
returns-in-Some g c = c.other.ensures ∙ busy_here c.args.core.now c.args.s c.args.entries.now c.loop-i.i c.index-entries-i.result c.in-Some.owner c.loop-i-test.true c.loop-i.invariant.0 c.index-entries-i.is (sym c.owner.ensures ∙ c.in-Some.is) c.loop-i.invariant.1 c.requires

pub loop-i-preserved : goal.loop-i-preserved
loop-i-preserved g c = (omega (arith, c.loop-i.invariant.0), busy_next c.args.core.now c.args.entries.now c.loop-i.i c.index-entries-i.result c.loop-i-test.true c.loop-i.invariant.0 c.index-entries-i.is (sym c.owner.ensures ∙ c.in_default.is) c.loop-i.invariant.1)
