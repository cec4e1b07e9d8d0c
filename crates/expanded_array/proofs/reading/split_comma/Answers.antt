use Rattle.std.proofs.Common.{arith}
use Rattle.std.proofs.lemmas.Bool.{eq-eqb}
use Rattle.expanded_array.proofs.SpellingLaws.{comma_at, comma_none}
use Rattle.expanded_array.proofs.reading.split_comma.Goals as goal

pub returns-then-byte-eq44-clause-parts : goal.returns-then-byte-eq44-clause-parts
returns-then-byte-eq44-clause-parts c = comma_at c.args.bytes.now c.loop-index.index c.loop-index-test.true c.loop-index.invariant (eq-eqb _ _ c.if-byte-eq44.true)

pub returns-clause-parts : goal.returns-clause-parts
returns-clause-parts c = comma_none c.args.bytes.now (λ k h. c.loop-index.invariant k (omega (arith, c.loop-index-test.false)))
