-- The last byte, shifted, is 0 just where no bit is set behind the last element.
use Rattle.std.proofs.Common.{arith}
use Rattle.expanded_array.proofs.Bits.{clear_rest_test}
use Rattle.expanded_array.proofs.layout.has_clear_rest.Goals as goal

pub returns : goal.returns
returns c =
    clear_rest_test c.args.bitmap.now c.args.count c.from.result
    (record { each = λ i. omega (arith, c.type_inv.bitmap i) })
    c.requires.len c.requires.some c.from.ensures
