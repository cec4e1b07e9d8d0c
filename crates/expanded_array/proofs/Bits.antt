-- Flags, bytes and the numbers that both are written in.
use Rattle.std.proofs.Common.{◌≡◌, ◌+◌, ◌-◌, ◌*◌, ◌/◌, ◌%◌, ◌^◌, ◌<◌, ◌≤◌, ℕ, zero, suc, List, [], ◌∷◌, length, take, drop, get_or, Bool, true, false, cond, count_ones, refl, ap, ap₂, sym, ◌∙◌, arith, nat_eq, nat_lt}
use Rattle.std.proofs.lemmas.Nat.{ones_cat, pow-add}
use Rattle.std.proofs.lemmas.List.{drop_more, length-take}
use Rattle.std.proofs.lemmas.Nat.{pow_pos, ones_le_self}
use Rattle.std.specs.Bool.{Decides}
use Rattle.std.proofs.lemmas.Bool.Decides.{same_from_decides, Decides-like, Decides-eqb, Decides-ltb}
use lib.Count.{ones_step}
use Rattle.std.proofs.Math.Nat.{pow-suc, div-lt_iff_lt-mul, pow-le-pow_right, mul_comm, mul_assoc}
use Rattle.std.proofs.lemmas.Grind.{common_steps}
use Rattle.expanded_array.specs.Flat.{number_of_flags, low_bytes, bitmap_len}
use Rattle.expanded_array.specs.Layout.{number_of_bytes, flags_of}

-- each element is a byte
pub record AreBytes (bytes : List ℕ) : Type 0 where
  pub each : (i : ℕ) → get_or bytes i 0 < 256

pub head_is_byte : (b : ℕ) (bs : List ℕ) → AreBytes (b ∷ bs) → b < 256
head_is_byte b bs h = h.each 0

pub tail_are_bytes : (b : ℕ) (bs : List ℕ) → AreBytes (b ∷ bs) → AreBytes bs
tail_are_bytes b bs h = record { each = λ i. h.each (suc i) }

bytes_cons_at : (b : ℕ) (bs : List ℕ) → b < 256 → AreBytes bs → (i : ℕ) → get_or (b ∷ bs) i 0 < 256
bytes_cons_at b bs small h zero = small
bytes_cons_at b bs small h (suc i) = h.each i

pub bytes_cons : (b : ℕ) (bs : List ℕ) → b < 256 → AreBytes bs → AreBytes (b ∷ bs)
bytes_cons b bs small h = record { each = bytes_cons_at b bs small h }

pub no_bytes : AreBytes []
no_bytes = record { each = λ i. omega arith }

pub bytes_take : (n : ℕ) (bs : List ℕ) → AreBytes bs → AreBytes (take n bs)
bytes_take zero bs h = no_bytes
bytes_take (suc n) [] h = no_bytes
bytes_take (suc n) (b ∷ bs) h = bytes_cons b (take n bs) (h.each 0) (bytes_take n bs (tail_are_bytes b bs h))

pub bytes_drop : (n : ℕ) (bs : List ℕ) → AreBytes bs → AreBytes (drop n bs)
bytes_drop zero bs h = h
bytes_drop (suc n) [] h = no_bytes
bytes_drop (suc n) (b ∷ bs) h = bytes_drop n bs (tail_are_bytes b bs h)

-- the lowest bit of a number made of a bit and a rest, and the rest
pub odd_of : (f m : ℕ) → f < 2 → (f + 2 * m) % 2 ≡ f
odd_of f m h = omega arith

pub half_of : (f m : ℕ) → f < 2 → (f + 2 * m) / 2 ≡ m
half_of f m h = omega arith

pub flags_of-number_of_flags : (fs : List Bool) → flags_of (length fs) (number_of_flags fs) ≡ fs
flags_of-number_of_flags [] = refl
flags_of-number_of_flags (true ∷ fs) = rw (odd_of 1 (number_of_flags fs) (omega arith), half_of 1 (number_of_flags fs) (omega arith), flags_of-number_of_flags fs) refl
flags_of-number_of_flags (false ∷ fs) = rw (odd_of 0 (number_of_flags fs) (omega arith), half_of 0 (number_of_flags fs) (omega arith), flags_of-number_of_flags fs) refl

pub length-flags_of : (k n : ℕ) → length (flags_of k n) ≡ k
length-flags_of zero n = refl
length-flags_of (suc k) n = ap suc (length-flags_of k (n / 2))

pub power_byte : (m j : ℕ) → 2 ^ (m + 8 * suc j) ≡ 256 * 2 ^ (m + 8 * j)
power_byte m j = let e : m + 8 * suc j ≡ 8 + (m + 8 * j) = omega arith in let p : 2 ^ (8 + (m + 8 * j)) ≡ 2 ^ 8 * 2 ^ (m + 8 * j) = pow-add 2 8 (m + 8 * j) in ap (λ k. 2 ^ k) e ∙ p

pub half_lt : (k n : ℕ) → n < 2 ^ suc k → n / 2 < 2 ^ k
half_lt k n h = omega (arith, pow-suc 2 k)

-- a bit and a rest make the number
pub bit_and_half : (n m : ℕ) → m ≡ n / 2 → cond (nat_eq (n % 2) 1) 1 0 + 2 * m ≡ n
bit_and_half n m e = grind (arith, common_steps)

pub number_of_flags-flags_of : (k n : ℕ) → n < 2 ^ k → number_of_flags (flags_of k n) ≡ n
number_of_flags-flags_of zero n h = omega arith
number_of_flags-flags_of (suc k) n h = bit_and_half n _ (number_of_flags-flags_of k (n / 2) (half_lt k n h))

pub number_of_flags-lt : (fs : List Bool) → number_of_flags fs < 2 ^ length fs
number_of_flags-lt [] = omega arith
number_of_flags-lt (true ∷ fs) = omega (arith, pow-suc 2 (length fs), number_of_flags-lt fs)
number_of_flags-lt (false ∷ fs) = omega (arith, pow-suc 2 (length fs), number_of_flags-lt fs)

pub low_bytes-number_of_bytes : (bs : List ℕ) → AreBytes bs → low_bytes (length bs) (number_of_bytes bs) ≡ bs
low_bytes-number_of_bytes [] h = refl
low_bytes-number_of_bytes (b ∷ bs) h =
    let small : b < 256 = h.each 0 in
    let low : (b + 256 * number_of_bytes bs) % 256 ≡ b = omega arith in
    let high : (b + 256 * number_of_bytes bs) / 256 ≡ number_of_bytes bs = omega arith in
    rw (low, high, low_bytes-number_of_bytes bs (tail_are_bytes b bs h)) refl

pub number_of_bytes-low_bytes : (k n : ℕ) → n < 256 ^ k → number_of_bytes (low_bytes k n) ≡ n
number_of_bytes-low_bytes zero n h = omega arith
number_of_bytes-low_bytes (suc k) n h =
    let small : n / 256 < 256 ^ k = omega (arith, pow-suc 256 k) in
    let rest : number_of_bytes (low_bytes k (n / 256)) ≡ n / 256 = number_of_bytes-low_bytes k (n / 256) small in
    omega arith

pub length-low_bytes : (k n : ℕ) → length (low_bytes k n) ≡ k
length-low_bytes zero n = refl
length-low_bytes (suc k) n = ap suc (length-low_bytes k (n / 256))

-- the bits of a byte and those of the bytes after it are counted apart
pub ones_byte : (b : ℕ) (bs : List ℕ) → b < 256 → count_ones (number_of_bytes (b ∷ bs)) ≡ count_ones b + count_ones (number_of_bytes bs)
ones_byte b bs h =
    let e : b + 256 * number_of_bytes bs ≡ number_of_bytes bs * 2 ^ 8 + b = omega arith in
    let apart : count_ones (number_of_bytes bs * 2 ^ 8 + b) ≡ count_ones (number_of_bytes bs) + count_ones b = ones_cat 8 (number_of_bytes bs) b h in
    rw (e, apart) (omega arith)

pub ones_zero : count_ones 0 ≡ 0
ones_zero = omega (arith, ones_le_self 0)

pub ones_true : (m : ℕ) → count_ones (1 + 2 * m) ≡ 1 + count_ones m
ones_true m = rw (ones_step (1 + 2 * m), odd_of 1 m (omega arith), half_of 1 m (omega arith)) refl

pub ones_false : (m : ℕ) → count_ones (0 + 2 * m) ≡ count_ones m
ones_false m = rw (ones_step (0 + 2 * m), odd_of 0 m (omega arith), half_of 0 m (omega arith)) (omega arith)

-- the bits of the bytes from a place on, one byte further
pub ones_more : (bs : List ℕ) (i : ℕ) → i < length bs → get_or bs i 0 < 256 → count_ones (number_of_bytes (drop i bs)) ≡ count_ones (get_or bs i 0) + count_ones (number_of_bytes (drop (i + 1) bs))
ones_more bs i h small = let e : drop i bs ≡ get_or bs i 0 ∷ drop (i + 1) bs = drop_more bs i 0 h in rw e (ones_byte (get_or bs i 0) (drop (i + 1) bs) small)

-- no bit is set at or behind a place just where none is in the last byte
pub clear_rest : (bs : List ℕ) (j m : ℕ) → AreBytes bs → length bs ≡ suc j → (number_of_bytes bs < 2 ^ (m + 8 * j) → get_or bs j 0 < 2 ^ m) × (get_or bs j 0 < 2 ^ m → number_of_bytes bs < 2 ^ (m + 8 * j))
clear_rest [] j m h e = absurd (omega arith)
clear_rest (b ∷ []) zero m h e = let same : m + 8 * zero ≡ m = omega arith in rw same (λ lt. omega arith, λ lt. omega arith)
clear_rest (b ∷ c ∷ bs) zero m h e = absurd (omega arith)
clear_rest (b ∷ []) (suc j) m h e = absurd (omega arith)
clear_rest (b ∷ c ∷ bs) (suc j) m h e =
    let small : b < 256 = h.each 0 in
    let rest = clear_rest (c ∷ bs) j m (tail_are_bytes b (c ∷ bs) h) (omega arith) in
    let power : 2 ^ (m + 8 * suc j) ≡ 256 * 2 ^ (m + 8 * j) = power_byte m j in
    let there : number_of_bytes (b ∷ c ∷ bs) < 2 ^ (m + 8 * suc j) → number_of_bytes (c ∷ bs) < 2 ^ (m + 8 * j) = λ lt. omega arith in
    let back : number_of_bytes (c ∷ bs) < 2 ^ (m + 8 * j) → number_of_bytes (b ∷ c ∷ bs) < 2 ^ (m + 8 * suc j) = λ lt. omega arith in
    (λ lt. rest.0 (there lt), λ lt. back (rest.1 lt))

quotient_decides : (x p : ℕ) → 0 < p → Decides (nat_eq (x / p) 0) (x < p)
quotient_decides x p h =
    Decides-like (nat_eq (x / p) 0)
    (λ (e : x / p ≡ 0). let one : x / p < 1 = omega arith in let below : x < 1 * p = (div-lt_iff_lt-mul h).0 one in omega arith)
    (λ (lt : x < p). let below : x < 1 * p = omega arith in let one : x / p < 1 = (div-lt_iff_lt-mul h).1 below in omega arith)
    (Decides-eqb (x / p) 0)

-- the test of the last byte of a bitmap tells whether a bit is set behind the last element
pub clear_rest_test : (bs : List ℕ) (n last : ℕ) → AreBytes bs → length bs ≡ bitmap_len n → 0 < n → last ≡ get_or bs (length bs - 1) 0 → nat_eq (last / 2 ^ (n - 8 * (length bs - 1))) 0 ≡ nat_lt (number_of_bytes bs) (2 ^ n)
clear_rest_test bs n last h len some e =
    let j : ℕ = length bs - 1 in
    let m : ℕ = n - 8 * (length bs - 1) in
    let long : length bs ≡ suc (length bs - 1) = omega arith in
    let whole : n ≡ (n - 8 * (length bs - 1)) + 8 * (length bs - 1) = omega arith in
    let both = clear_rest bs (length bs - 1) (n - 8 * (length bs - 1)) h long in
    let sum : 2 ^ ((n - 8 * (length bs - 1)) + 8 * (length bs - 1)) ≡ 2 ^ n = ap (λ k. 2 ^ k) (sym whole) in
    let there : last < 2 ^ (n - 8 * (length bs - 1)) → number_of_bytes bs < 2 ^ n = λ lt. let last_lt : get_or bs (length bs - 1) 0 < 2 ^ (n - 8 * (length bs - 1)) = omega arith in let below = both.1 last_lt in omega arith in
    let back : number_of_bytes bs < 2 ^ n → last < 2 ^ (n - 8 * (length bs - 1)) = λ lt. let all_lt : number_of_bytes bs < 2 ^ ((n - 8 * (length bs - 1)) + 8 * (length bs - 1)) = omega arith in let below = both.0 all_lt in omega arith in
    same_from_decides _ _
    (Decides-like (nat_eq (last / 2 ^ (n - 8 * (length bs - 1))) 0) there back (quotient_decides last (2 ^ (n - 8 * (length bs - 1))) (pow_pos (n - 8 * (length bs - 1)))))
    (Decides-ltb (number_of_bytes bs) (2 ^ n))

pub flags_small : (fs : List Bool) → length fs ≤ 7 → number_of_flags fs < 128
flags_small fs short = let le : 2 ^ length fs ≤ 2 ^ 7 = pow-le-pow_right (omega arith) short in omega (arith, number_of_flags-lt fs)

-- the lowest flags and the others
flags_split : (k : ℕ) (fs : List Bool) → number_of_flags fs ≡ number_of_flags (take k fs) + 2 ^ k * number_of_flags (drop k fs)
flags_split zero fs = omega arith
flags_split (suc k) [] = omega arith
flags_split (suc k) (true ∷ fs) =
    let twice : 2 ^ suc k * number_of_flags (drop k fs) ≡ 2 * (2 ^ k * number_of_flags (drop k fs)) = ap (λ x. x * number_of_flags (drop k fs)) (pow-suc 2 k ∙ mul_comm (2 ^ k) 2) ∙ mul_assoc 2 (2 ^ k) (number_of_flags (drop k fs)) in
    omega (arith, flags_split k fs)
flags_split (suc k) (false ∷ fs) =
    let twice : 2 ^ suc k * number_of_flags (drop k fs) ≡ 2 * (2 ^ k * number_of_flags (drop k fs)) = ap (λ x. x * number_of_flags (drop k fs)) (pow-suc 2 k ∙ mul_comm (2 ^ k) 2) ∙ mul_assoc 2 (2 ^ k) (number_of_flags (drop k fs)) in
    omega (arith, flags_split k fs)

flags_first : (fs : List Bool) → number_of_flags (take 8 fs) < 256
flags_first fs =
    let short : length (take 8 fs) ≤ 8 = omega (arith, length-take 8 fs) in
    let le : 2 ^ length (take 8 fs) ≤ 2 ^ 8 = pow-le-pow_right (omega arith) short in
    omega (arith, number_of_flags-lt (take 8 fs))

pub low_bytes_more : (m : ℕ) (fs : List Bool) → low_bytes (suc m) (number_of_flags fs) ≡ number_of_flags (take 8 fs) ∷ low_bytes m (number_of_flags (drop 8 fs))
low_bytes_more m fs =
    let low : number_of_flags fs % 256 ≡ number_of_flags (take 8 fs) = omega (arith, flags_split 8 fs, flags_first fs) in
    let high : number_of_flags fs / 256 ≡ number_of_flags (drop 8 fs) = omega (arith, flags_split 8 fs, flags_first fs) in
    ap₂ (λ x y. x ∷ low_bytes m y) low high
