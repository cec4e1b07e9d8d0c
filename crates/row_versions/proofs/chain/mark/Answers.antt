use Rattle.std.proofs.Common.{◌∙◌, sym, arith}
use Rattle.row_versions.proofs.Chaining.{mark_step, mark_end}
use Rattle.row_versions.proofs.chain.mark.Goals as goal

pub returns-then-sees : goal.returns-then-sees
returns-then-sees g c = mark_step c.args.core.now c.args.view.now c.args.entries.now.items c.loop-i.entries.items c.loop-i.i c.index.result.now c.index_mut.result.now c.loop-i.invariant (omega (arith, c.loop-i-test.true)) c.index.ensures (sym c.sees.ensures ∙ c.if-sees.true) c.index_mut.ensures.value

pub returns : goal.returns
returns g c = mark_end c.args.core.now c.args.view.now c.args.entries.now.items c.loop-i.entries.items c.loop-i.i c.loop-i.invariant c.loop-i-test.false
