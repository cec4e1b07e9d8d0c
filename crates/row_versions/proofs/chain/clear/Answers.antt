use Rattle.std.proofs.Common.{◌∙◌, arith}
use Rattle.row_versions.proofs.Chaining.{clear_step, cleared_all}
use Rattle.row_versions.proofs.chain.clear.Goals as goal

pub loop-i-preserved : goal.loop-i-preserved
loop-i-preserved g c = clear_step c.loop-i.i c.args.entries.now.items c.loop-i.entries.items c.index_mut.result.now c.loop-i.invariant (omega (arith, c.loop-i-test.true, c.len-i-end.ensures)) c.index_mut.ensures.value

pub returns : goal.returns
returns g c = c.loop-i.invariant ∙ cleared_all c.loop-i.i c.args.entries.now.items (omega (arith, c.loop-i-test.false, c.len-i-end.ensures))
