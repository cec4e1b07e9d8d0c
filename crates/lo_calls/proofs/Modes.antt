-- The bits of a mode.
use Rattle.std.proofs.Common.{◌≡◌, ℕ, ◌*◌, ◌/◌, ◌%◌, arith, nat_eq, bit_and}
use Rattle.std.specs.Prelude.{not, ◌==◌}
use Rattle.std.proofs.lemmas.Bool.Decides.{nat_tests}
use Rattle.std.proofs.lemmas.Nat.Bits.{and_pow}

pub read_bit : (n : ℕ) → not (nat_eq (bit_and n 262144) 0) ≡ (n / 262144 % 2 == 1)
read_bit n = let is : bit_and n 262144 ≡ n / 262144 % 2 * 262144 = and_pow n 18 in rw is (grind (arith, nat_tests))

pub write_bit : (n : ℕ) → not (nat_eq (bit_and n 131072) 0) ≡ (n / 131072 % 2 == 1)
write_bit n = let is : bit_and n 131072 ≡ n / 131072 % 2 * 131072 = and_pow n 17 in rw is (grind (arith, nat_tests))
