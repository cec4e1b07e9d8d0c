use Rattle.std.proofs.Common.{arith, sym}
use Rattle.expanded_array.proofs.Places.{flag_plain, flag_sparse}
use Rattle.expanded_array.proofs.layout.is_present.Goals as goal

pub returns-then-start-eq-HEADER_LEN : goal.returns-then-start-eq-HEADER_LEN
returns-then-start-eq-HEADER_LEN c = sym (flag_plain c.args.bytes.now c.args.count c.args.start c.args.index c.if-start-eq-HEADER_LEN.true c.requires.within)

pub returns : goal.returns
returns c = sym (flag_sparse c.args.bytes.now c.args.count c.args.start c.args.index (record { each = λ i. omega (arith, c.type_inv.bytes i) }) c.if-start-eq-HEADER_LEN.false c.requires.within)
