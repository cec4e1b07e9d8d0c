use Rattle.std.proofs.Common.{get_or}
use Rattle.std.proofs.lemmas.List.{get_or_default}
use Rattle.row_tables.proofs.Erasing.{erasing_free, erasing_next}
use Rattle.row_tables.proofs.outside.erase_all.Goals as goal

pub erase-requires-clause-free : goal.erase-requires-clause-free
erase-requires-clause-free c = erasing_free c.args.core.now.xacts c.args.s c.args.numbers.now c.loop-number.number-index (get_or c.args.numbers.now c.loop-number.number-index 0) c.args.chunks.now c.loop-number.chunks c.requires.once c.loop-number-test.true (get_or_default c.args.numbers.now c.loop-number.number-index 0 (get_or c.args.numbers.now c.loop-number.number-index 0) c.loop-number-test.true) c.loop-number.invariant c.requires.free

pub loop-number-preserved : goal.loop-number-preserved
loop-number-preserved c = erasing_next c.args.core.now.xacts c.args.s c.args.numbers.now c.loop-number.number-index (get_or c.args.numbers.now c.loop-number.number-index 0) c.args.chunks.now c.loop-number.chunks c.requires.once c.loop-number-test.true (get_or_default c.args.numbers.now c.loop-number.number-index 0 (get_or c.args.numbers.now c.loop-number.number-index 0) c.loop-number-test.true) c.loop-number.invariant c.erase.new.self c.in-Ok.ensures.ok c.in-Ok.ensures.only c.erase.ensures.left c.erase.ensures.goes
