use Rattle.std.proofs.Common.{◌∙◌, sym, arith}
use Rattle.row_versions.proofs.Walking.{find_next, find_here}
use Rattle.row_versions.proofs.chain.find.Goals as goal

pub returns-then-sees : goal.returns-then-sees
returns-then-sees g c = c.as_ref.ensures.value ∙ find_here c.args.core.now c.args.snap.now c.args.entries.now c.loop-i.i c.index-entries-i.result c.index-entries-i-then-sees.result c.loop-i-test.true c.loop-i.invariant.0 c.index-entries-i.is (sym c.sees.ensures ∙ c.if-sees.true) c.loop-i.invariant.1

pub loop-i-preserved : goal.loop-i-preserved
loop-i-preserved g c = (omega (arith, c.loop-i.invariant.0), find_next c.args.core.now c.args.snap.now c.args.entries.now c.loop-i.i c.index-entries-i.result c.loop-i-test.true c.loop-i.invariant.0 c.index-entries-i.is (sym c.sees.ensures ∙ c.if-sees.false) c.loop-i.invariant.1)
