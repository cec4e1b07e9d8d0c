-- What writing a row does to the bytes that it writes into.
use Rattle.std.specs.Prelude.{ℕ, ◌+◌, ◌<◌, ◌^◌, All, List, ◌++◌, length, take, drop}
use Rattle.std.specs.Int.{w64}
use Rattle.std.specs.Int.RustNames.{FitsSigned}
use Rattle.lo_base.specs.declared.value.Value.{Value}
use Rattle.lo_base.specs.declared.value.Value.TheVariants as values

-- the new bytes have the piece at the place `at`, and else the old ones
abbrev pub with_piece : ℕ → List ℕ → List ℕ → List ℕ
with_piece at piece old = take at old ++ (piece ++ drop (at + length piece) old)

-- the value has numbers of its types
abbrev pub HasRange : Value → Type 0
HasRange values.Null = Unit {0}
HasRange (values.Int z) = FitsSigned w64 z
HasRange (values.Oid n) = n < 2 ^ 32
HasRange (values.Bytes bytes) = All (λ b. b < 256) bytes
