use Rattle.std.proofs.Common.{arith}
use Rattle.expanded_array.proofs.ColonLaws.{colon_found, colon_missed}
use Rattle.expanded_array.proofs.reading.before_colon.Goals as goal

pub returns-then-byte-eq58 : goal.returns-then-byte-eq58
returns-then-byte-eq58 c = λ front behind none e. colon_found c.args.bytes.now front behind c.loop-index.index none e c.loop-index.invariant c.if-byte-eq58.true

pub returns : goal.returns
returns c = λ front behind none e. absurd (colon_missed c.args.bytes.now front behind e (λ k h. c.loop-index.invariant k (omega (arith, c.loop-index-test.false))))
