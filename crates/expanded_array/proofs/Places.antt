-- Where the numbers of elements lie in flat bytes.
use Rattle.std.proofs.Common.{◌≡◌, ◌+◌, ◌-◌, ◌*◌, ◌/◌, ◌%◌, ◌^◌, ◌<◌, ◌≤◌, ℕ, zero, suc, ℤ, pos, List, [], ◌∷◌, length, take, drop, replicate, get_or, Bool, true, false, cond, Some, None, count_ones, bit_and, refl, ap, ap₂, sym, subst, ◌∙◌, arith, add-one, nat_eq, inl, inr}
use Rattle.std.specs.Prelude.{◌⊎◌, ◌≢◌}
use Rattle.std.specs.Int.{w32, cast_signed, bit_at}
use Rattle.std.proofs.lemmas.Bool.{ne_eqb, eq-eqb, cond-false, cond-true, or_cases, eqb-true, and_parts, cases_Bool}
use Rattle.std.proofs.lemmas.Nat.{ones_cat, mod-pow-add, mod_low, mod_below, pow_pos, field_of, shr-shr, ones-le}
use Rattle.std.proofs.lemmas.Grind.{common_steps}
use Rattle.std.proofs.lemmas.Nat.Bits.{bit_at-suc, bit_at_lowest, bit_at-zero, shr_and_one}
use Rattle.std.proofs.lemmas.List.{get_or-take, get_or-drop, get_or-replicate, take-replicate, drop-drop, length-take-le, length-take, length-drop, length-replicate, take-take, take_all}
use Rattle.expanded_array.specs.Array.{Array, Empty, IsHeld, limit}
use Rattle.expanded_array.specs.Flat.{IsFlat, flat_bytes, number_of_flags, bitmap_len, data_offset}
use Rattle.expanded_array.specs.Layout.{unpacked, int4_at, word_at, number_of_bytes, flags_of, flags_in, elements_in, array_of, array_in, start_in, bitmap_in, header_len, sparse_start, is_plain_layout, is_sparse_layout, is_flat_layout}
use Rattle.expanded_array.specs.Kept.{Reads, place_in}
use Rattle.expanded_array.proofs.Bits.{AreBytes, bytes_take, bytes_drop, tail_are_bytes, number_of_flags-flags_of, number_of_flags-lt, length-flags_of, ones_byte, ones_zero, ones_true, ones_false}
use Rattle.expanded_array.proofs.Packing.{no_absent, no_absent_in_all, length-unpacked}
use Rattle.expanded_array.proofs.FlatLaws.{flat_laid_out, flat_holds, heads, sparse, start_in-plain, start_in-sparse}

-- ---- flags one by one

pub count_front : (fs : List Bool) (k : ℕ) → count_ones (number_of_flags (take k fs)) ≤ count_ones (number_of_flags fs)
count_front fs zero = omega (arith, ones_zero)
count_front [] (suc k) = omega arith
count_front (true ∷ fs) (suc k) =
    let a : count_ones (1 + 2 * number_of_flags fs) ≡ 1 + count_ones (number_of_flags fs) = ones_true (number_of_flags fs) in
    let b : count_ones (1 + 2 * number_of_flags (take k fs)) ≡ 1 + count_ones (number_of_flags (take k fs)) = ones_true (number_of_flags (take k fs)) in
    omega (arith, count_front fs k)
count_front (false ∷ fs) (suc k) =
    let a : count_ones (0 + 2 * number_of_flags fs) ≡ count_ones (number_of_flags fs) = ones_false (number_of_flags fs) in
    let b : count_ones (0 + 2 * number_of_flags (take k fs)) ≡ count_ones (number_of_flags (take k fs)) = ones_false (number_of_flags (take k fs)) in
    omega (arith, count_front fs k)

-- one flag further
pub count_more : (fs : List Bool) (k : ℕ) → k < length fs → count_ones (number_of_flags (take (suc k) fs)) ≡ cond (get_or fs k false) 1 0 + count_ones (number_of_flags (take k fs))
count_more [] k lt = absurd (omega arith)
count_more (true ∷ fs) zero lt = ones_true 0
count_more (false ∷ fs) zero lt = omega arith
count_more (true ∷ fs) (suc k) lt =
    let a : count_ones (1 + 2 * number_of_flags (take (suc k) fs)) ≡ 1 + count_ones (number_of_flags (take (suc k) fs)) = ones_true (number_of_flags (take (suc k) fs)) in
    let b : count_ones (1 + 2 * number_of_flags (take k fs)) ≡ 1 + count_ones (number_of_flags (take k fs)) = ones_true (number_of_flags (take k fs)) in
    omega (arith, count_more fs k (omega arith))
count_more (false ∷ fs) (suc k) lt =
    let a : count_ones (0 + 2 * number_of_flags (take (suc k) fs)) ≡ count_ones (number_of_flags (take (suc k) fs)) = ones_false (number_of_flags (take (suc k) fs)) in
    let b : count_ones (0 + 2 * number_of_flags (take k fs)) ≡ count_ones (number_of_flags (take k fs)) = ones_false (number_of_flags (take k fs)) in
    omega (arith, count_more fs k (omega arith))

-- the element at an index, by its flag and its place
pub unpacked_at : (fs : List Bool) (bytes : List ℕ) (k : ℕ) → k < length fs → get_or (unpacked fs bytes) k None ≡ cond (get_or fs k false) (Some (int4_at bytes (4 * count_ones (number_of_flags (take k fs))))) None
unpacked_at [] bytes k lt = absurd (omega arith)
unpacked_at (true ∷ fs) bytes zero lt = let place : 0 ≡ 4 * count_ones 0 = omega (arith, ones_zero) in ap (λ p. Some (int4_at bytes p)) place
unpacked_at (false ∷ fs) bytes zero lt = refl
unpacked_at (true ∷ fs) bytes (suc k) lt =
    let b : count_ones (1 + 2 * number_of_flags (take k fs)) ≡ 1 + count_ones (number_of_flags (take k fs)) = ones_true (number_of_flags (take k fs)) in
    let place : 4 + 4 * count_ones (number_of_flags (take k fs)) ≡ 4 * count_ones (1 + 2 * number_of_flags (take k fs)) = omega arith in
    unpacked_at fs (drop 4 bytes) k (omega arith)
    ∙ ap (λ xs. cond (get_or fs k false) (Some (cast_signed w32 (word_at xs 0))) None) (drop-drop (4 * count_ones (number_of_flags (take k fs))) 4 bytes)
    ∙ ap (λ p. cond (get_or fs k false) (Some (int4_at bytes p)) None) place
unpacked_at (false ∷ fs) bytes (suc k) lt =
    let b : count_ones (0 + 2 * number_of_flags (take k fs)) ≡ count_ones (number_of_flags (take k fs)) = ones_false (number_of_flags (take k fs)) in
    let place : 4 * count_ones (number_of_flags (take k fs)) ≡ 4 * count_ones (0 + 2 * number_of_flags (take k fs)) = omega arith in
    unpacked_at fs bytes k (omega arith)
    ∙ ap (λ p. cond (get_or fs k false) (Some (int4_at bytes p)) None) place

-- the element of flat bytes at an index
pub element_in : (bytes : List ℕ) (count start k : ℕ) → k < length (flags_in bytes count start) → get_or (elements_in bytes count start) k None ≡ cond (get_or (flags_in bytes count start) k false) (Some (int4_at bytes (place_in (flags_in bytes count start) start k))) None
element_in bytes count start k lt =
    unpacked_at (flags_in bytes count start) (drop start bytes) k lt
    ∙ ap (λ xs. cond (get_or (flags_in bytes count start) k false) (Some (cast_signed w32 (word_at xs 0))) None) (drop-drop (4 * count_ones (number_of_flags (take k (flags_in bytes count start)))) start bytes)

-- ---- flags of a bitmap

pub flags_in-sparse : (bytes : List ℕ) (count start : ℕ) → start ≢ header_len → flags_in bytes count start ≡ flags_of count (bitmap_in bytes count)
flags_in-sparse bytes count start ne = cond-false (nat_eq start header_len) _ _ (ne_eqb _ _ ne)

pub length_flags_in : (bytes : List ℕ) (count start : ℕ) → length (flags_in bytes count start) ≡ count
length_flags_in bytes count start =
    elim (cases_Bool (nat_eq start header_len)) [
      | inl plain ↦ ap length (cond-true (nat_eq start header_len) (replicate count true) (flags_of count (bitmap_in bytes count)) plain) ∙ length-replicate count true
      | inr bits ↦ ap length (cond-false (nat_eq start header_len) (replicate count true) (flags_of count (bitmap_in bytes count)) bits) ∙ length-flags_of count (bitmap_in bytes count)
    ]

pub length_elements_in : (bytes : List ℕ) (count start : ℕ) → length (elements_in bytes count start) ≡ count
length_elements_in bytes count start = length-unpacked (flags_in bytes count start) (drop start bytes) ∙ length_flags_in bytes count start

flags_of_at : (n k m : ℕ) → k < m → get_or (flags_of m n) k false ≡ nat_eq (bit_at n k) 1
flags_of_at n k zero lt = absurd (omega arith)
flags_of_at n zero (suc m) lt = ap (λ b. nat_eq b 1) (sym (bit_at_lowest n))
flags_of_at n (suc k) (suc m) lt = flags_of_at (n / 2) k m (omega arith) ∙ ap (λ b. nat_eq b 1) (sym (bit_at-suc n k))

-- the lowest bits of bytes are those of the first
low_of_byte : (b x r : ℕ) → b < 256 → r ≤ 8 → (b + 256 * x) % 2 ^ r ≡ b % 2 ^ r
low_of_byte b x r small le =
    let n : ℕ = b + 256 * x in
    let whole : (8 - r) + r ≡ 8 = omega arith in
    let split : (b + 256 * x) % 2 ^ ((8 - r) + r) ≡ ((b + 256 * x) / 2 ^ r % 2 ^ (8 - r)) * 2 ^ r + (b + 256 * x) % 2 ^ r = mod-pow-add (b + 256 * x) (8 - r) r in
    let byte : (b + 256 * x) % 2 ^ ((8 - r) + r) ≡ b = ap (λ k. (b + 256 * x) % 2 ^ k) whole ∙ omega arith in
    sym (ap (λ y. y % 2 ^ r) (sym byte ∙ split) ∙ mod_low ((b + 256 * x) / 2 ^ r % 2 ^ (8 - r)) r ((b + 256 * x) % 2 ^ r) (mod_below (b + 256 * x) (2 ^ r) (pow_pos r)))

-- a bit of bytes is that of one byte
bit_of_bytes : (bs : List ℕ) (j r : ℕ) → AreBytes bs → r < 8 → bit_at (number_of_bytes bs) (r + 8 * j) ≡ bit_at (get_or bs j 0) r
bit_of_bytes [] j r h lt = bit_at-zero (r + 8 * j) ∙ sym (bit_at-zero r)
bit_of_bytes (b ∷ bs) zero r h lt =
    let same : r + 8 * zero ≡ r = omega arith in
    ap (bit_at (b + 256 * number_of_bytes bs)) same
    ∙ sym (field_of (b + 256 * number_of_bytes bs) 1 r)
    ∙ ap (λ y. y / 2 ^ r) (low_of_byte b (number_of_bytes bs) (1 + r) (h.each 0) (omega arith))
    ∙ field_of b 1 r
bit_of_bytes (b ∷ bs) (suc j) r h lt =
    let sum : r + 8 * suc j ≡ 8 + (r + 8 * j) = omega arith in
    let small : b < 256 = h.each 0 in
    let high : (b + 256 * number_of_bytes bs) / 2 ^ 8 ≡ number_of_bytes bs = omega arith in
    ap (bit_at (b + 256 * number_of_bytes bs)) sum
    ∙ ap (λ y. y % 2) (sym (shr-shr (b + 256 * number_of_bytes bs) 8 (r + 8 * j)))
    ∙ ap (λ y. bit_at y (r + 8 * j)) high
    ∙ bit_of_bytes bs j r (tail_are_bytes b bs h) lt

-- the bits below a place are those of the bytes before it and the lowest of its own
low_bits : (bs : List ℕ) (j r : ℕ) → AreBytes bs → r < 8 → j < length bs → count_ones (number_of_bytes bs % 2 ^ (r + 8 * j)) ≡ count_ones (number_of_bytes (take j bs)) + count_ones (get_or bs j 0 % 2 ^ r)
low_bits [] j r h lt long = absurd (omega arith)
low_bits (b ∷ bs) zero r h lt long =
    let same : r + 8 * zero ≡ r = omega arith in
    let low : (b + 256 * number_of_bytes bs) % 2 ^ (r + 8 * zero) ≡ b % 2 ^ r = ap (λ k. (b + 256 * number_of_bytes bs) % 2 ^ k) same ∙ low_of_byte b (number_of_bytes bs) r (h.each 0) (omega arith) in
    let ones : count_ones ((b + 256 * number_of_bytes bs) % 2 ^ (r + 8 * zero)) ≡ count_ones (b % 2 ^ r) = ap count_ones low in
    omega (arith, ones_zero)
low_bits (b ∷ bs) (suc j) r h lt long =
    let sum : r + 8 * suc j ≡ (r + 8 * j) + 8 = omega arith in
    let small : b < 256 = h.each 0 in
    let high : (b + 256 * number_of_bytes bs) / 2 ^ 8 ≡ number_of_bytes bs = omega arith in
    let low : (b + 256 * number_of_bytes bs) % 2 ^ 8 ≡ b = omega arith in
    let split : (b + 256 * number_of_bytes bs) % 2 ^ (r + 8 * suc j) ≡ (number_of_bytes bs % 2 ^ (r + 8 * j)) * 2 ^ 8 + b =
    ap (λ k. (b + 256 * number_of_bytes bs) % 2 ^ k) sum
    ∙ mod-pow-add (b + 256 * number_of_bytes bs) (r + 8 * j) 8
    ∙ ap₂ (λ y z. (y % 2 ^ (r + 8 * j)) * 2 ^ 8 + z) high low in
    let apart : count_ones ((number_of_bytes bs % 2 ^ (r + 8 * j)) * 2 ^ 8 + b) ≡ count_ones (number_of_bytes bs % 2 ^ (r + 8 * j)) + count_ones b = ones_cat 8 (number_of_bytes bs % 2 ^ (r + 8 * j)) b small in
    let ones : count_ones ((b + 256 * number_of_bytes bs) % 2 ^ (r + 8 * suc j)) ≡ count_ones (number_of_bytes bs % 2 ^ (r + 8 * j)) + count_ones b = ap count_ones split ∙ apart in
    let rest = low_bits bs j r (tail_are_bytes b bs h) lt (omega arith) in
    omega (arith, ones_byte b (take j bs) small)

take_flags_of : (m n k : ℕ) → k ≤ m → take k (flags_of m n) ≡ flags_of k n
take_flags_of m n zero le = refl
take_flags_of zero n (suc k) le = absurd (omega arith)
take_flags_of (suc m) n (suc k) le = ap (λ xs. nat_eq (n % 2) 1 ∷ xs) (take_flags_of m (n / 2) k (omega arith))

bit_is : (n : ℕ) → cond (nat_eq (n % 2) 1) 1 0 ≡ n % 2
bit_is n = grind (arith, common_steps)

flags_number : (k n : ℕ) → number_of_flags (flags_of k n) ≡ n % 2 ^ k
flags_number zero n = omega arith
flags_number (suc k) n =
    let rest : number_of_flags (flags_of k (n / 2)) ≡ n / 2 % 2 ^ k = flags_number k (n / 2) in
    let split : n % 2 ^ (k + 1) ≡ (n / 2 ^ 1 % 2 ^ k) * 2 ^ 1 + n % 2 ^ 1 = mod-pow-add n k 1 in
    let power : n % 2 ^ suc k ≡ n % 2 ^ (k + 1) = ap (λ j. n % 2 ^ j) (sym (add-one k)) in
    omega (arith, bit_is n)

-- ---- what the code reads

pub flag_plain : (bytes : List ℕ) (count start k : ℕ) → start ≡ header_len → k < count → get_or (flags_in bytes count start) k false ≡ true
flag_plain bytes count start k plain lt =
    ap (λ fs. get_or fs k false) (cond-true (nat_eq start header_len) _ _ (eq-eqb _ _ plain)) ∙ get_or-replicate count k true false lt

pub flag_sparse : (bytes : List ℕ) (count start k : ℕ) → AreBytes bytes → start ≢ header_len → k < count → get_or (flags_in bytes count start) k false ≡ nat_eq (bit_and (get_or bytes (header_len + k / 8) 0 / 2 ^ (k % 8)) 1) 1
flag_sparse bytes count start k h bits lt =
    let bs : List ℕ = take (bitmap_len count) (drop header_len bytes) in
    let index : k ≡ k % 8 + 8 * (k / 8) = omega arith in
    let within : k / 8 < bitmap_len count = omega arith in
    let byte : get_or (take (bitmap_len count) (drop header_len bytes)) (k / 8) 0 ≡ get_or bytes (header_len + k / 8) 0 = get_or-take (bitmap_len count) (drop header_len bytes) (k / 8) 0 within ∙ get_or-drop header_len bytes (k / 8) 0 in
    ap (λ fs. get_or fs k false) (flags_in-sparse bytes count start bits)
    ∙ flags_of_at (bitmap_in bytes count) k count lt
    ∙ ap (λ y. nat_eq y 1) (ap (bit_at (bitmap_in bytes count)) index
    ∙ bit_of_bytes (take (bitmap_len count) (drop header_len bytes)) (k / 8) (k % 8) (bytes_take (bitmap_len count) (drop header_len bytes) (bytes_drop header_len bytes h)) (omega arith)
    ∙ ap (λ y. bit_at y (k % 8)) byte
    ∙ sym (shr_and_one (get_or bytes (header_len + k / 8) 0) (k % 8)))

pub rank_plain : (bytes : List ℕ) (count start k : ℕ) → start ≡ header_len → k ≤ count → count_ones (number_of_flags (take k (flags_in bytes count start))) ≡ k
rank_plain bytes count start k plain le =
    let flags : take k (flags_in bytes count start) ≡ replicate k true = ap (take k) (cond-true (nat_eq start header_len) _ _ (eq-eqb _ _ plain)) ∙ take-replicate k count true le in
    ap (λ fs. count_ones (number_of_flags fs)) flags ∙ (no_absent (replicate k true) (no_absent_in_all k)).1 ∙ length-replicate k true

pub rank_sparse : (bytes : List ℕ) (count start k : ℕ) → AreBytes bytes → start ≢ header_len → k < count → header_len + bitmap_len count ≤ length bytes → count_ones (number_of_flags (take k (flags_in bytes count start))) ≡ count_ones (number_of_bytes (take (k / 8) (drop header_len bytes))) + count_ones (get_or bytes (header_len + k / 8) 0 % 2 ^ (k % 8))
rank_sparse bytes count start k h bits lt long =
    let index : k ≡ k % 8 + 8 * (k / 8) = omega arith in
    let within : k / 8 < bitmap_len count = omega arith in
    let byte : get_or (take (bitmap_len count) (drop header_len bytes)) (k / 8) 0 ≡ get_or bytes (header_len + k / 8) 0 = get_or-take (bitmap_len count) (drop header_len bytes) (k / 8) 0 within ∙ get_or-drop header_len bytes (k / 8) 0 in
    let front : take (k / 8) (take (bitmap_len count) (drop header_len bytes)) ≡ take (k / 8) (drop header_len bytes) = take-take (k / 8) (bitmap_len count) (drop header_len bytes) (omega arith) in
    let len : length (take (bitmap_len count) (drop header_len bytes)) ≡ bitmap_len count = length-take-le (bitmap_len count) (drop header_len bytes) (omega (arith, length-drop header_len bytes)) in
    ap (λ fs. count_ones (number_of_flags (take k fs))) (flags_in-sparse bytes count start bits)
    ∙ ap (λ fs. count_ones (number_of_flags fs)) (take_flags_of count (bitmap_in bytes count) k (omega arith))
    ∙ ap count_ones (flags_number k (bitmap_in bytes count) ∙ ap (λ j. bitmap_in bytes count % 2 ^ j) index)
    ∙ low_bits (take (bitmap_len count) (drop header_len bytes)) (k / 8) (k % 8) (bytes_take (bitmap_len count) (drop header_len bytes) (bytes_drop header_len bytes h)) (omega arith) (omega (arith, len))
    ∙ ap₂ (λ xs b. count_ones (number_of_bytes xs) + count_ones (b % 2 ^ (k % 8))) front byte

-- a number lies within the bytes
pub number_within : (bytes : List ℕ) (lower : ℤ) (count start k : ℕ) → Reads bytes lower count start → k < count → get_or (flags_in bytes count start) k false ≡ true → place_in (flags_in bytes count start) start k + 4 ≤ length bytes
number_within bytes lower count start k r lt there =
    let len : length (flags_in bytes count start) ≡ count = length_flags_in bytes count start in
    let one : cond {A = ℕ} (get_or (flags_in bytes count start) k false) 1 0 ≡ 1 = ap (λ b. cond {A = ℕ} b 1 0) there in
    omega (arith, r.room, count_more (flags_in bytes count start) k (omega arith), count_front (flags_in bytes count start) (suc k))

-- one element further, the place is behind its number, if it has one
pub place_there : (fs : List Bool) (start k : ℕ) → k < length fs → get_or fs k false ≡ true → place_in fs start k + 4 ≡ place_in fs start (k + 1)
place_there fs start k lt there =
    let one : cond {A = ℕ} (get_or fs k false) 1 0 ≡ 1 = ap (λ b. cond {A = ℕ} b 1 0) there in
    let next : k + 1 ≡ suc k = add-one k in
    let same : count_ones (number_of_flags (take (k + 1) fs)) ≡ count_ones (number_of_flags (take (suc k) fs)) = ap (λ j. count_ones (number_of_flags (take j fs))) next in
    omega (arith, count_more fs k lt)

pub place_null : (fs : List Bool) (start k : ℕ) → k < length fs → get_or fs k false ≡ false → place_in fs start k ≡ place_in fs start (k + 1)
place_null fs start k lt null =
    let none : cond {A = ℕ} (get_or fs k false) 1 0 ≡ 0 = ap (λ b. cond {A = ℕ} b 1 0) null in
    let next : k + 1 ≡ suc k = add-one k in
    let same : count_ones (number_of_flags (take (k + 1) fs)) ≡ count_ones (number_of_flags (take (suc k) fs)) = ap (λ j. count_ones (number_of_flags (take j fs))) next in
    omega (arith, count_more fs k lt)

pub element_there : (bytes : List ℕ) (count start k : ℕ) → k < length (flags_in bytes count start) → get_or (flags_in bytes count start) k false ≡ true → Some (int4_at bytes (place_in (flags_in bytes count start) start k)) ≡ get_or (elements_in bytes count start) k None
element_there bytes count start k lt there = sym (element_in bytes count start k lt ∙ cond-true _ _ _ there)

pub element_null : (bytes : List ℕ) (count start k : ℕ) → k < length (flags_in bytes count start) → get_or (flags_in bytes count start) k false ≡ false → None ≡ get_or (elements_in bytes count start) k None
element_null bytes count start k lt null = sym (element_in bytes count start k lt ∙ cond-false _ _ _ null)

pub rank_le : (fs : List Bool) (k : ℕ) → count_ones (number_of_flags (take k fs)) ≤ k
rank_le fs k =
    let few : count_ones (number_of_flags (take k fs)) ≤ length (take k fs) = ones-le (length (take k fs)) (number_of_flags (take k fs)) (number_of_flags-lt (take k fs)) in
    omega (arith, length-take k fs)

pub present_le : (fs : List Bool) → count_ones (number_of_flags fs) ≤ length fs
present_le fs = ones-le (length fs) (number_of_flags fs) (number_of_flags-lt fs)

-- ---- a header read

layout_of_flat : (bytes : List ℕ) → IsFlat bytes → is_flat_layout bytes ≡ true
layout_of_flat bytes f = ap is_flat_layout f.bytes_are ∙ flat_laid_out f.array f.held

array_of_flat : (bytes : List ℕ) (f : IsFlat bytes) → array_in bytes ≡ f.array
array_of_flat bytes f = ap array_in f.bytes_are ∙ flat_holds f.array f.held

pub empty_read : (bytes : List ℕ) → IsFlat bytes → word_at bytes 0 ≡ 0 → Reads bytes (pos 1) 0 12
empty_read bytes f none =
    let empty : f.array ≡ Empty = sym (array_of_flat bytes f) ∙ cond-true (nat_eq (word_at bytes 0) 0) _ _ (eq-eqb _ _ none) in
    let are : bytes ≡ flat_bytes Empty = f.bytes_are ∙ ap flat_bytes empty in
    let long : length bytes ≡ 12 = ap length are in
    record {
      held = record { array = tt; few = omega arith };
      bytes_are = are;
      few = omega arith;
      near = omega arith;
      room = omega (arith, long, ones_zero);
      bits = λ some ne. absurd (omega arith);
    }

-- what the bytes of an array with elements tell
pub record Full (bytes : List ℕ) : Type 0 where
  pub long : 20 ≤ length bytes
  pub few : word_at bytes 12 ≤ limit
  pub near : start_in bytes ≤ limit
  pub room : length bytes ≡ start_in bytes + 4 * count_ones (number_of_flags (flags_in bytes (word_at bytes 12) (start_in bytes)))
  pub bits : 0 < word_at bytes 12 → start_in bytes ≢ header_len → header_len + bitmap_len (word_at bytes 12) ≤ start_in bytes
  pub offset : (word_at bytes 4 ≡ 0) ⊎ (4 ≤ word_at bytes 4)

full_plain : (bytes : List ℕ) → is_plain_layout bytes ≡ true → Full bytes
full_plain bytes e =
    let p = and_parts _ _ e in
    let q = and_parts _ _ p.0 in
    let head = heads bytes q.0 in
    let offset : word_at bytes 4 ≡ 0 = eqb-true _ _ q.1 in
    let start : start_in bytes ≡ header_len = start_in-plain bytes offset in
    let long : length bytes ≡ header_len + 4 * word_at bytes 12 = eqb-true _ _ p.1 in
    let all : count_ones (number_of_flags (take (word_at bytes 12) (flags_in bytes (word_at bytes 12) (start_in bytes)))) ≡ word_at bytes 12 = rank_plain bytes (word_at bytes 12) (start_in bytes) (word_at bytes 12) start (omega arith) in
    let whole : take (word_at bytes 12) (flags_in bytes (word_at bytes 12) (start_in bytes)) ≡ flags_in bytes (word_at bytes 12) (start_in bytes) = take_all (word_at bytes 12) (flags_in bytes (word_at bytes 12) (start_in bytes)) (omega (arith, length_flags_in bytes (word_at bytes 12) (start_in bytes))) in
    let ones : count_ones (number_of_flags (flags_in bytes (word_at bytes 12) (start_in bytes))) ≡ word_at bytes 12 = ap (λ fs. count_ones (number_of_flags fs)) (sym whole) ∙ all in
    record {
      long = head.long;
      few = head.few;
      near = omega (arith, start, head.few);
      room = omega (arith, long, start, ones);
      bits = λ some ne. absurd (ne start);
      offset = inl offset;
    }

full_sparse : (bytes : List ℕ) → is_sparse_layout bytes ≡ true → Full bytes
full_sparse bytes e =
    let p = and_parts _ _ e in
    let q = and_parts _ _ p.0 in
    let head = heads bytes q.0 in
    let offset : word_at bytes 4 ≡ data_offset (word_at bytes 12) = eqb-true _ _ q.1 in
    let s = sparse bytes (word_at bytes 12) p.1 in
    let start : start_in bytes ≡ sparse_start (word_at bytes 12) = start_in-sparse bytes (word_at bytes 12) offset in
    let apart : start_in bytes ≢ header_len = λ same. omega (arith, start, head.some) in
    let flags : number_of_flags (flags_in bytes (word_at bytes 12) (start_in bytes)) ≡ bitmap_in bytes (word_at bytes 12) =
    ap number_of_flags (flags_in-sparse bytes (word_at bytes 12) (start_in bytes) apart)
    ∙ number_of_flags-flags_of (word_at bytes 12) (bitmap_in bytes (word_at bytes 12)) s.clear in
    let ones : count_ones (number_of_flags (flags_in bytes (word_at bytes 12) (start_in bytes))) ≡ count_ones (bitmap_in bytes (word_at bytes 12)) = ap count_ones flags in
    record {
      long = head.long;
      few = head.few;
      near = omega (arith, start, head.few);
      room = omega (arith, s.exact, start, ones);
      bits = λ some ne. omega (arith, start);
      offset = inr (omega arith);
    }

pub full : (bytes : List ℕ) → IsFlat bytes → word_at bytes 0 ≢ 0 → Full bytes
full bytes f some =
    elim (or_cases _ _ (layout_of_flat bytes f)) [
      | inl first ↦ elim (or_cases _ _ first) [
        | inl empty ↦ absurd (some (eqb-true _ _ ((and_parts _ _ ((and_parts _ _ ((and_parts _ _ empty).0)).0)).1)))
        | inr plain ↦ full_plain bytes plain
      ]
      | inr bits ↦ full_sparse bytes bits
    ]

pub full_array : (bytes : List ℕ) (f : IsFlat bytes) → word_at bytes 0 ≢ 0 → array_of (int4_at bytes 16) (elements_in bytes (word_at bytes 12) (start_in bytes)) ≡ f.array
full_array bytes f some = sym (cond-false (nat_eq (word_at bytes 0) 0) _ _ (ne_eqb _ _ some)) ∙ array_of_flat bytes f

pub full_read : (bytes : List ℕ) → IsFlat bytes → word_at bytes 0 ≢ 0 → Reads bytes (int4_at bytes 16) (word_at bytes 12) (start_in bytes)
full_read bytes f some =
    let facts = full bytes f some in
    let same = full_array bytes f some in
    record {
      held = subst IsHeld (sym same) f.held;
      bytes_are = f.bytes_are ∙ ap flat_bytes (sym same);
      few = facts.few;
      near = facts.near;
      room = facts.room;
      bits = facts.bits;
    }

-- fields that are read from flat bytes
pub fields_read : (bytes : List ℕ) (lower : ℤ) (count start : ℕ) → IsFlat bytes → word_at bytes 0 ≢ 0 → lower ≡ int4_at bytes 16 → count ≡ word_at bytes 12 → start ≡ start_in bytes → Reads bytes lower count start
fields_read bytes lower count start f some a b c =
    subst (λ l. Reads bytes l count start) (sym a)
    (subst (λ n. Reads bytes (int4_at bytes 16) n start) (sym b)
    (subst (λ s. Reads bytes (int4_at bytes 16) (word_at bytes 12) s) (sym c) (full_read bytes f some)))

pub fields_array : (bytes : List ℕ) (lower : ℤ) (count start : ℕ) → word_at bytes 0 ≢ 0 → lower ≡ int4_at bytes 16 → count ≡ word_at bytes 12 → start ≡ start_in bytes → (a : Array) → IsHeld a → bytes ≡ flat_bytes a → array_of lower (elements_in bytes count start) ≡ a
fields_array bytes lower count start some a b c array held e =
    let f : IsFlat bytes = record { array = array; held = held; bytes_are = e } in
    ap₂ array_of a (ap₂ (elements_in bytes) b c) ∙ full_array bytes f some

pub empty_array : (bytes : List ℕ) → word_at bytes 0 ≡ 0 → (a : Array) → IsHeld a → bytes ≡ flat_bytes a → Empty ≡ a
empty_array bytes none array held e =
    let f : IsFlat bytes = record { array = array; held = held; bytes_are = e } in
    sym (cond-true (nat_eq (word_at bytes 0) 0) _ _ (eq-eqb _ _ none)) ∙ array_of_flat bytes f
