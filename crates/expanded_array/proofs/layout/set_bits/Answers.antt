use Rattle.std.proofs.Common.{◌<◌, ◌≤◌, get_or, count_ones, arith}
use Rattle.std.proofs.lemmas.Nat.{ones-le}
use Rattle.expanded_array.proofs.Bits.{ones_more}
use Rattle.expanded_array.proofs.layout.set_bits.Goals as goal

pub overflow_add-ones : goal.overflow_add-ones
overflow_add-ones c = omega (arith, ones-le 8 (get_or c.args.bytes.now c.loop-byte.byte-index 0) (omega (arith, c.type_inv.bytes c.loop-byte.byte-index)))

pub loop-byte-preserved : goal.loop-byte-preserved
loop-byte-preserved c =
    let small : get_or c.args.bytes.now c.loop-byte.byte-index 0 < 256 = omega (arith, c.type_inv.bytes c.loop-byte.byte-index) in
    let few : count_ones (get_or c.args.bytes.now c.loop-byte.byte-index 0) ≤ 8 = ones-le 8 (get_or c.args.bytes.now c.loop-byte.byte-index 0) small in
    (omega arith, omega (arith, ones_more c.args.bytes.now c.loop-byte.byte-index (omega arith) small))
