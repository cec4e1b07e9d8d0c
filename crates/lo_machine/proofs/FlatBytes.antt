-- The flat bytes of an array that a variable may hold: bytes, and no more of them than a value can have.
use Rattle.std.proofs.Common.{◌≡◌, ◌≤◌, ◌<◌, ℕ, zero, suc, ℤ, ◌+◌, ◌-◌, ◌*◌, ◌/◌, ◌%◌, Bool, true, false, List, [], ◌∷◌, ◌++◌, length, Option, Some, None, arith}
use Rattle.std.specs.Prelude.{All, if◌then◌else◌, is_some}
use Rattle.std.specs.Int.{byte_at, bytes_low_first, cast_unsigned, w32}
use Rattle.std.proofs.lemmas.List.{length-append, length-map, length-replicate}
use Rattle.std.proofs.lemmas.List.Elements.{All-nil, All-cons, All-append, All-replicate}
use Rattle.expanded_array.specs.Array.{Array, Empty, Bounded, IsHeld}
use Rattle.expanded_array.specs.Flat.{bitmap, bitmap_len, data_offset, flat_bytes, has_absent, header, int4, low_bytes, number_of_flags, numbers, padding, presence, word}

abbrev pub AreBytes : List ℕ → Type 0
AreBytes bytes = All (λ (b : ℕ). b < 256) bytes

-- bytes

byte_small : (i n : ℕ) → byte_at i n < 256
byte_small zero n = omega arith
byte_small (suc i) n = omega arith

low_first : (i k n : ℕ) → AreBytes (bytes_low_first i k n)
low_first i zero n = All-nil (λ (b : ℕ). b < 256)
low_first i (suc k) n = All-cons (λ (b : ℕ). b < 256) (byte_at i n) (bytes_low_first (suc i) k n) (byte_small i n) (low_first (suc i) k n)

word_bytes : (n : ℕ) → AreBytes (word n)
word_bytes n = low_first 0 4 n

low_bytes_small : (k n : ℕ) → AreBytes (low_bytes k n)
low_bytes_small zero n = All-nil (λ (b : ℕ). b < 256)
low_bytes_small (suc k) n = All-cons (λ (b : ℕ). b < 256) (n % 256) (low_bytes k (n / 256)) (omega arith) (low_bytes_small k (n / 256))

both_bytes : (xs ys : List ℕ) → AreBytes xs → AreBytes ys → AreBytes (xs ++ ys)
both_bytes xs ys first second = All-append (λ (b : ℕ). b < 256) xs ys first second

numbers_bytes : (es : List (Option ℤ)) → AreBytes (numbers es)
numbers_bytes [] = All-nil (λ (b : ℕ). b < 256)
numbers_bytes (None ∷ es) = numbers_bytes es
numbers_bytes (Some z ∷ es) = both_bytes (int4 z) (numbers es) (word_bytes (cast_unsigned w32 z)) (numbers_bytes es)

header_bytes : (offset count : ℕ) (lower : ℤ) → AreBytes (header offset count lower)
header_bytes offset count lower =
    both_bytes (word 1) (word offset ++ (word 23 ++ (word count ++ int4 lower))) (word_bytes 1)
    (both_bytes (word offset) (word 23 ++ (word count ++ int4 lower)) (word_bytes offset)
    (both_bytes (word 23) (word count ++ int4 lower) (word_bytes 23)
    (both_bytes (word count) (int4 lower) (word_bytes count) (word_bytes (cast_unsigned w32 lower)))))

pub flat_are_bytes : (a : Array) → AreBytes (flat_bytes a)
flat_are_bytes Empty = both_bytes (word 0) (word 0 ++ word 23) (word_bytes 0) (both_bytes (word 0) (word 23) (word_bytes 0) (word_bytes 23))
flat_are_bytes (Bounded lower es) = by (has_absent (presence es))
  where
    by : (b : Bool) → AreBytes (if b then header (data_offset (length es)) (length es) lower ++ (bitmap (presence es) ++ (padding (length es) ++ numbers es)) else header 0 (length es) lower ++ numbers es)
    by true =
        both_bytes (header (data_offset (length es)) (length es) lower) (bitmap (presence es) ++ (padding (length es) ++ numbers es)) (header_bytes (data_offset (length es)) (length es) lower)
        (both_bytes (bitmap (presence es)) (padding (length es) ++ numbers es) (low_bytes_small (bitmap_len (length (presence es))) (number_of_flags (presence es)))
        (both_bytes (padding (length es)) (numbers es) (All-replicate (λ (b : ℕ). b < 256) (data_offset (length es) - (24 + bitmap_len (length es))) 0 (omega arith)) (numbers_bytes es)))
    by false = both_bytes (header 0 (length es) lower) (numbers es) (header_bytes 0 (length es) lower) (numbers_bytes es)

-- their number

low_bytes_count : (k n : ℕ) → length (low_bytes k n) ≡ k
low_bytes_count zero n = omega arith
low_bytes_count (suc k) n = omega (arith, low_bytes_count k (n / 256))

numbers_count : (es : List (Option ℤ)) → length (numbers es) ≤ 4 * length es
numbers_count [] = omega arith
numbers_count (None ∷ es) = omega (arith, numbers_count es)
numbers_count (Some z ∷ es) = omega (arith, numbers_count es, length-append (int4 z) (numbers es))

pub flat_count : (a : Array) → IsHeld a → length (flat_bytes a) ≤ 16777216
flat_count Empty held = omega arith
flat_count (Bounded lower es) held = by (has_absent (presence es))
  where
    few : length es ≤ 1048576
    few = held.few

    some_bits : length (bitmap (presence es)) ≡ bitmap_len (length (presence es))
    some_bits = low_bytes_count (bitmap_len (length (presence es))) (number_of_flags (presence es))

    by : (b : Bool) → length (if b then header (data_offset (length es)) (length es) lower ++ (bitmap (presence es) ++ (padding (length es) ++ numbers es)) else header 0 (length es) lower ++ numbers es) ≤ 16777216
    by true =
        omega (
          arith,
          few,
          some_bits,
          numbers_count es,
          length-map es is_some,
          length-append (header (data_offset (length es)) (length es) lower) (bitmap (presence es) ++ (padding (length es) ++ numbers es)),
          length-append (bitmap (presence es)) (padding (length es) ++ numbers es),
          length-append (padding (length es)) (numbers es),
          length-replicate {A = ℕ} (data_offset (length es) - (24 + bitmap_len (length es))) 0,
        )
    by false = omega (arith, few, numbers_count es, length-append (header 0 (length es) lower) (numbers es))
