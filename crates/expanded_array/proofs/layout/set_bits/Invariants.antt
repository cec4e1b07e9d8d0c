use Rattle.std.proofs.Common.{◌≡◌, ◌+◌, ◌*◌, ◌≤◌, drop, count_ones}
use Rattle.expanded_array.specs.Layout.{number_of_bytes}
use Rattle.expanded_array.proofs.layout.set_bits.Given as goal

abbrev pub invariant-loop-byte : goal.invariant-loop-byte
invariant-loop-byte l =
    (l.ones ≤ 8 * l.byte-index)
    × (l.ones + count_ones (number_of_bytes (drop l.byte-index l.bytes)) ≡ count_ones (number_of_bytes l.bytes))
