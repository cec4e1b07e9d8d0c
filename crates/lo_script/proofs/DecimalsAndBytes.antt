-- Decimals and bytes: which tokens spell them.
use Rattle.std.proofs.Common.{◌≡◌, ℕ, ℤ, pos, negsuc, neg_ℤ, zero, suc, ◌/◌, ◌<◌, ◌≤◌, ◌^◌, ◌==◌, true, false, List, ◌++◌, length, take, drop, get_or, Some, None, refl, sym, ap, ◌∙◌, inl, inr, arith}
use Rattle.std.specs.Prelude.{Result, Ok, Err, ◌⊎◌, Bool, unwrap_or, bytes_eq, nat_le, nat_lt, Option, option_and_then, codes}
use Rattle.std.specs.Int.{w64}
use Rattle.std.specs.Int.Signed.{mag}
use Rattle.std.specs.Result.{result_ok}
use Rattle.std.specs.Fmt.{decimal, signed_decimal}
use Rattle.std.specs.Str.Parse.{signed_digits_value, ParsesSigned}
use Rattle.std.proofs.lemmas.Bool.Decides.{nat_tests}
use Rattle.std.proofs.lemmas.Fmt.{decimal_is_IsNumeral, decimal_digit, first_decimal, parse-signed_decimal, IsAscii-signed}
use Rattle.std.proofs.lemmas.Str.{IsUtf8-from_ascii}
use Rattle.std.proofs.lemmas.List.{take-append-drop}
use Rattle.std.specs.Str.{IsUtf8}
use Rattle.std.proofs.lemmas.Slice.Eq.{bytes_eq-Decides}
use Rattle.hex.specs.Hex.{IsBytes, decode_of}
use Rattle.hex.specs.declared.error.FromHexError.{FromHexError}
use Rattle.hex.proofs.HexLemmas.{decode_of-ok}
use Rattle.lo_machine.specs.Spelled.{sweep_limit}
use Rattle.lo_script.specs.Token.{integer_of, in_range, int8_of, int4_of, natural_to, oid_of, oid_limit, limit_of, of_at_most, bytes_of}

pub tested : (b : Bool) → (b ≡ true) ⊎ (b ≡ false)
tested true = inl refl
tested false = inr refl

pub some_injective : {A : Type 0} (a b : A) → Some a ≡ Some b → a ≡ b
some_injective a b h = ap (λ (o : Option _). unwrap_or o a) h

-- what a value that is read through a test says of both
pub and_then-some : {A R : Type 0} (f : A → Option R) (o : Option A) (r : R) → option_and_then f o ≡ Some r → (a : A) × (o ≡ Some a) × (f a ≡ Some r)
and_then-some f None r h = cc h
and_then-some f (Some a) r h = (a, refl, h)

-- the first digit of a number is no sign
first_digit : (n : ℕ) → n < 2 ^ 64 → 48 ≤ get_or (decimal n) 0 0
first_digit zero small = rw (decimal_digit 0 (omega arith)) (omega arith)
first_digit (suc n) small = omega (arith, first_decimal (suc n) (omega arith) small)

-- the value of a number's print
value_of_print : (n : ℤ) → mag n < 2 ^ 63 → signed_digits_value 10 (signed_decimal n) ≡ n
value_of_print (pos n) small =
    let first = first_digit n (omega (arith, small)) in
    let minus : (get_or (decimal n) 0 0 == 45) ≡ false = grind (arith, nat_tests, first) in
    let plus : (get_or (decimal n) 0 0 == 43) ≡ false = grind (arith, nat_tests, first) in
    rw (minus, plus) (ap pos (decimal_is_IsNumeral n (omega (arith, small))).1)
value_of_print (negsuc n) small = ap (λ (m : ℕ). neg_ℤ (pos m)) (decimal_is_IsNumeral (suc n) (omega (arith, small))).1

-- a token that is accepted prints its number
integer_of-prints : (token : List ℕ) (n : ℤ) → integer_of token ≡ Some n → token ≡ signed_decimal n
integer_of-prints token n h = elim (tested (bytes_eq (signed_decimal (signed_digits_value 10 token)) token)) [
  | inl same_text ↦
      let same = (bytes_eq-Decides (signed_decimal (signed_digits_value 10 token)) token).0 same_text in
      let found = rw same_text at h in
      let value = some_injective (signed_digits_value 10 token) n found in
      sym same ∙ ap signed_decimal value
  | inr other_text ↦ let none = rw other_text at h in cc none
]

-- a number's print is accepted
integer_of-decimal : (n : ℤ) → mag n < 2 ^ 63 → integer_of (signed_decimal n) ≡ Some n
integer_of-decimal n small = rw (value_of_print n small) (rw ((bytes_eq-Decides (signed_decimal n) (signed_decimal n)).1 refl) refl)

in_range-some : (half : ℕ) (m n : ℤ) → in_range half m ≡ Some n → (m ≡ n) × (mag n < half)
in_range-some half m n h = elim (tested (nat_lt (mag m) half)) [
  | inl within ↦
      let same : m ≡ n = some_injective m n (rw within at h) in
      (same, rw (← same) (grind (arith, nat_tests)))
  | inr beyond ↦ let none = rw beyond at h in cc none
]

pub in_range-within : (half : ℕ) (n : ℤ) → mag n < half → in_range half n ≡ Some n
in_range-within half n small = grind (arith, nat_tests)

-- a token that is accepted prints a number in the range
pub record Prints (half : ℕ) (token : List ℕ) (n : ℤ) : Type 0 where
  pub is : token ≡ signed_decimal n
  pub small : mag n < half

pub int8_of-prints : (token : List ℕ) (n : ℤ) → int8_of token ≡ Some n → Prints (2 ^ 63) token n
int8_of-prints token n h =
    let found = and_then-some (in_range (2 ^ 63)) (integer_of token) n h in
    let range = in_range-some (2 ^ 63) found.0 n found.2 in
    record { is = integer_of-prints token found.0 found.1 ∙ ap signed_decimal range.0; small = range.1 }

pub int4_of-prints : (token : List ℕ) (n : ℤ) → int4_of token ≡ Some n → Prints (2 ^ 31) token n
int4_of-prints token n h =
    let found = and_then-some (in_range (2 ^ 31)) (int8_of token) n h in
    let range = in_range-some (2 ^ 31) found.0 n found.2 in
    record { is = (int8_of-prints token found.0 found.1).is ∙ ap signed_decimal range.0; small = range.1 }

-- and so does a token of a number from 0 to a greatest one
pub record PrintsNatural (most : ℕ) (token : List ℕ) (n : ℕ) : Type 0 where
  pub is : token ≡ decimal n
  pub high : n ≤ most

natural_to-some : (most : ℕ) (n : ℤ) (m : ℕ) → natural_to most n ≡ Some m → (n ≡ pos m) × (m ≤ most)
natural_to-some most (negsuc n) m h = cc h
natural_to-some most (pos n) m h = elim (tested (nat_le n most)) [
  | inl within ↦
      let same : n ≡ m = some_injective n m (rw within at h) in
      (ap pos same, rw (← same) (grind (arith, nat_tests)))
  | inr beyond ↦ let none = rw beyond at h in cc none
]

natural-prints : (most : ℕ) (token : List ℕ) (n : ℕ) → option_and_then (natural_to most) (int8_of token) ≡ Some n → PrintsNatural most token n
natural-prints most token n h =
    let found = and_then-some (natural_to most) (int8_of token) n h in
    let range = natural_to-some most found.0 n found.2 in
    record { is = (int8_of-prints token found.0 found.1).is ∙ ap signed_decimal range.0; high = range.1 }

pub oid_of-prints : (token : List ℕ) (oid : ℕ) → oid_of token ≡ Some oid → PrintsNatural oid_limit token oid
oid_of-prints = natural-prints oid_limit

pub limit_of-prints : (token : List ℕ) (limit : ℕ) → limit_of token ≡ Some limit → PrintsNatural sweep_limit token limit
limit_of-prints = natural-prints sweep_limit

-- a number in the range prints as a token that is accepted
pub int8_of-decimal : (n : ℤ) → mag n < 2 ^ 63 → int8_of (signed_decimal n) ≡ Some n
int8_of-decimal n small = rw (integer_of-decimal n small) (in_range-within (2 ^ 63) n small)

pub int4_of-decimal : (n : ℤ) → mag n < 2 ^ 31 → int4_of (signed_decimal n) ≡ Some n
int4_of-decimal n small = rw (int8_of-decimal n (omega (arith, small))) (in_range-within (2 ^ 31) n small)

pub oid_of-decimal : (oid : ℕ) → oid ≤ oid_limit → oid_of (decimal oid) ≡ Some oid
oid_of-decimal oid high =
    let read : int8_of (decimal oid) ≡ Some (pos oid) = int8_of-decimal (pos oid) (omega (arith, high)) in
    rw read (grind (arith, nat_tests))

pub limit_of-decimal : (limit : ℕ) → limit ≤ sweep_limit → limit_of (decimal limit) ≡ Some limit
limit_of-decimal limit high =
    let read : int8_of (decimal limit) ≡ Some (pos limit) = int8_of-decimal (pos limit) (omega (arith, high)) in
    rw read (grind (arith, nat_tests))

-- where no number in the range prints as the token, none is accepted
int8_of-none_from : (token : List ℕ) (found : Option ℤ) → int8_of token ≡ found → ((n : ℤ) → mag n < 2 ^ 63 → token ≡ signed_decimal n → ⊥) → found ≡ None
int8_of-none_from token None is none = refl
int8_of-none_from token (Some n) is none = let p = int8_of-prints token n is in absurd (none n p.small p.is)

int8_of-none : (token : List ℕ) → ((n : ℤ) → mag n < 2 ^ 63 → token ≡ signed_decimal n → ⊥) → int8_of token ≡ None
int8_of-none token none = int8_of-none_from token (int8_of token) refl none

-- The number that `parse` gives, where it prints as the token.
read_as : {E : Type 0} (token : List ℕ) (r : Result ℤ E) (n : ℤ) → ParsesSigned w64 10 token r → mag n < 2 ^ 63 → token ≡ signed_decimal n → r ≡ Ok n
read_as token r n h small is = parse-signed_decimal w64 n token r (record { sfits = small }) small is h

pub not_parsed : {E : Type 0} (token : List ℕ) (r : Result ℤ E) → ParsesSigned w64 10 token r → result_ok r ≡ None → int8_of token ≡ None
not_parsed token r h none = int8_of-none token (λ n small is. let read : r ≡ Ok n = read_as token r n h small is in cc (none, read))

pub other_parsed : {E : Type 0} (token : List ℕ) (r : Result ℤ E) (m : ℤ) → ParsesSigned w64 10 token r → result_ok r ≡ Some m → bytes_eq (signed_decimal m) token ≡ false → int8_of token ≡ None
other_parsed token r m h some other = int8_of-none token (λ n small is.
    let read : r ≡ Ok n = read_as token r n h small is in
    let same : m ≡ n = some_injective m n (sym some ∙ ap result_ok read) in
    let test = (bytes_eq-Decides (signed_decimal m) token).1 (ap signed_decimal same ∙ sym is) in
    cc (test, other))

pub parsed : (token : List ℕ) (n : ℤ) → mag n < 2 ^ 63 → bytes_eq (signed_decimal n) token ≡ true → int8_of token ≡ Some n
parsed token n small same =
    let is : signed_decimal n ≡ token = (bytes_eq-Decides (signed_decimal n) token).0 same in
    rw (← is) (int8_of-decimal n small)

pub no_text : (token : List ℕ) → ¬ IsUtf8 token → int8_of token ≡ None
no_text token h = int8_of-none token (λ n small is. let text : IsUtf8 (signed_decimal n) = IsUtf8-from_ascii (signed_decimal n) (IsAscii-signed n small) in h (rw is text))

too_many_from : (most : ℕ) (digits : List ℕ) (found : Result (List ℕ) FromHexError) → decode_of digits ≡ found → most < length digits / 2 → option_and_then (of_at_most most) (result_ok found) ≡ None
too_many_from most digits (Err e) is more = refl
too_many_from most digits (Ok bytes) is more =
    let len = (decode_of-ok digits bytes is).2 in
    let long : most < length bytes = omega (arith, len) in
    grind (arith, nat_tests)

-- Bytes: more digits than `most` bytes have spell none.
pub too_many_digits : (most : ℕ) (digits : List ℕ) → most < length digits / 2 → option_and_then (of_at_most most) (result_ok (decode_of digits)) ≡ None
too_many_digits most digits more = too_many_from most digits (decode_of digits) refl more

pub enough_digits : (most : ℕ) (digits bytes : List ℕ) → decode_of digits ≡ Ok bytes → length digits / 2 ≤ most → option_and_then (of_at_most most) (result_ok (decode_of digits)) ≡ Some bytes
enough_digits most digits bytes is few =
    let len = (decode_of-ok digits bytes is).2 in
    let short : length bytes ≤ most = omega (arith, len) in
    rw is (grind (arith, nat_tests))

-- a token that spells bytes
pub record PrintsBytes (most : ℕ) (token bytes : List ℕ) : Type 0 where
  pub digits : List ℕ
  pub is : token ≡ codes "\\x" ++ digits
  pub stands_for : decode_of digits ≡ Ok bytes
  pub few : length bytes ≤ most
  pub within : IsBytes bytes

decoded : (most : ℕ) (found : Result (List ℕ) FromHexError) (bytes : List ℕ) → option_and_then (of_at_most most) (result_ok found) ≡ Some bytes → (found ≡ Ok bytes) × (length bytes ≤ most)
decoded most (Err e) bytes h = cc h
decoded most (Ok other) bytes h = elim (tested (nat_le (length other) most)) [
  | inl few ↦
      let same : other ≡ bytes = some_injective other bytes (rw few at h) in
      (ap (λ (bs : List ℕ). Ok bs) same, rw (← same) (grind (arith, nat_tests)))
  | inr many ↦ let none = rw many at h in cc none
]

pub bytes_of-prints : (most : ℕ) (token bytes : List ℕ) → bytes_of most token ≡ Some bytes → PrintsBytes most token bytes
bytes_of-prints most token bytes h = elim (tested (bytes_eq (take 2 token) (codes "\\x"))) [
  | inl begins ↦
      let head : take 2 token ≡ codes "\\x" = (bytes_eq-Decides (take 2 token) (codes "\\x")).0 begins in
      let found = decoded most (decode_of (drop 2 token)) bytes (rw begins at h) in
      record { digits = drop 2 token; is = sym (take-append-drop 2 token) ∙ ap (λ (front : List ℕ). front ++ drop 2 token) head; stands_for = found.0; few = found.1; within = (decode_of-ok (drop 2 token) bytes found.0).3 }
  | inr other ↦ let none = rw other at h in cc none
]

pub bytes_of-spelled : (most : ℕ) (digits bytes : List ℕ) → decode_of digits ≡ Ok bytes → length bytes ≤ most → bytes_of most (codes "\\x" ++ digits) ≡ Some bytes
bytes_of-spelled most digits bytes is few = rw is (grind (arith, nat_tests))
