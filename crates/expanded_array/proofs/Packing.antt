-- Elements packed into flags and numbers, and unpacked again.
use Rattle.std.proofs.Common.{◌≡◌, ◌+◌, ◌-◌, ◌*◌, ◌^◌, ◌<◌, ◌≤◌, ℕ, zero, suc, ℤ, pos, negsuc, List, [], ◌∷◌, ◌++◌, length, take, drop, replicate, get_or, Bool, true, false, min, Option, Some, None, count_ones, refl, ap, ap₂, sym, ◌∙◌, arith}
use Rattle.std.specs.Prelude.{IfSome, All, FitsSigned, is_some}
use Rattle.std.specs.Int.{w32, from_le_bytes, cast_unsigned, cast_signed}
use Rattle.std.proofs.lemmas.Nat.{from_le_bytes-to_le_bytes_4, le_bytes_4, ones-le}
use Rattle.std.proofs.lemmas.Int.{to_z-of_z, of_z-to_z}
use Rattle.std.proofs.Math.Facts.{sfits_to_z, Fits-of_lt}
use Rattle.std.proofs.lemmas.List.{length-map, length-drop, length-take-le, take-append-drop, nil_from_length, take-map, drop-map, drop-drop, take_min}
use Rattle.expanded_array.specs.Flat.{number_of_flags, presence, numbers, int4, word, has_absent, low_bytes}
use Rattle.expanded_array.specs.Layout.{unpacked, int4_at, word_at}
use Rattle.expanded_array.proofs.Bits.{AreBytes, ones_zero, ones_true, ones_false, number_of_flags-lt, bytes_take, bytes_drop, low_bytes_more, flags_small}
use Rattle.std.proofs.lemmas.Bool.{true≢false, false≢true}

-- each number is an int4
abbrev pub AreInt4 : List (Option ℤ) → Type 0
AreInt4 es = All (λ e. IfSome e (FitsSigned w32)) es

pub tail_are_int4 : (e : Option ℤ) (es : List (Option ℤ)) → AreInt4 (e ∷ es) → AreInt4 es
tail_are_int4 e es h = λ k d lt. h (suc k) d (omega arith)

pub head_is_int4 : (z : ℤ) (es : List (Option ℤ)) → AreInt4 (Some z ∷ es) → FitsSigned w32 z
head_is_int4 z es h = h 0 None (omega arith)

int4_cons_at : (e : Option ℤ) (es : List (Option ℤ)) → IfSome e (FitsSigned w32) → AreInt4 es → (k : ℕ) (d : Option ℤ) → k < length (e ∷ es) → IfSome (get_or (e ∷ es) k d) (FitsSigned w32)
int4_cons_at e es here h zero d lt = here
int4_cons_at e es here h (suc k) d lt = h k d (omega arith)

pub int4_cons : (e : Option ℤ) (es : List (Option ℤ)) → IfSome e (FitsSigned w32) → AreInt4 es → AreInt4 (e ∷ es)
int4_cons e es here h = λ k d lt. int4_cons_at e es here h k d lt

pub unsigned_lt : (z : ℤ) → FitsSigned w32 z → cast_unsigned w32 z < 2 ^ 32
unsigned_lt (pos n) h = omega (arith, h.sfits)
unsigned_lt (negsuc n) h = omega (arith, h.sfits)

pub word_read : (n : ℕ) → n < 2 ^ 32 → from_le_bytes w32 (word n) ≡ n
word_read n h = from_le_bytes-to_le_bytes_4 n h

pub int4_read : (z : ℤ) → FitsSigned w32 z → cast_signed w32 (from_le_bytes w32 (int4 z)) ≡ z
int4_read z h = ap (cast_signed w32) (word_read (cast_unsigned w32 z) (unsigned_lt z h)) ∙ to_z-of_z w32 z h

pub unpacked-numbers : (es : List (Option ℤ)) → AreInt4 es → unpacked (presence es) (numbers es) ≡ es
unpacked-numbers [] h = refl
unpacked-numbers (None ∷ es) h = ap (λ xs. None ∷ xs) (unpacked-numbers es (tail_are_int4 None es h))
unpacked-numbers (Some z ∷ es) h = ap₂ (λ x xs. Some x ∷ xs) (int4_read z (head_is_int4 z es h)) (unpacked-numbers es (tail_are_int4 (Some z) es h))

pub length-numbers : (es : List (Option ℤ)) → length (numbers es) ≡ 4 * count_ones (number_of_flags (presence es))
length-numbers [] = omega (arith, ones_zero)
length-numbers (None ∷ es) = let e : count_ones (0 + 2 * number_of_flags (presence es)) ≡ count_ones (number_of_flags (presence es)) = ones_false (number_of_flags (presence es)) in rw e (length-numbers es)
length-numbers (Some z ∷ es) = let e : count_ones (1 + 2 * number_of_flags (presence es)) ≡ 1 + count_ones (number_of_flags (presence es)) = ones_true (number_of_flags (presence es)) in rw e (omega (arith, length-numbers es))

pub presence-unpacked : (fs : List Bool) (bytes : List ℕ) → presence (unpacked fs bytes) ≡ fs
presence-unpacked [] bytes = refl
presence-unpacked (true ∷ fs) bytes = ap (λ xs. true ∷ xs) (presence-unpacked fs (drop 4 bytes))
presence-unpacked (false ∷ fs) bytes = ap (λ xs. false ∷ xs) (presence-unpacked fs bytes)

pub length-unpacked : (fs : List Bool) (bytes : List ℕ) → length (unpacked fs bytes) ≡ length fs
length-unpacked [] bytes = refl
length-unpacked (true ∷ fs) bytes = ap suc (length-unpacked fs (drop 4 bytes))
length-unpacked (false ∷ fs) bytes = ap suc (length-unpacked fs bytes)

pub word_at-lt : (bytes : List ℕ) (i : ℕ) → AreBytes bytes → word_at bytes i < 2 ^ 32
word_at-lt bytes i h =
    let part : AreBytes (take 4 (drop i bytes)) = bytes_take 4 (drop i bytes) (bytes_drop i bytes h) in
    omega (arith, part.each 0, part.each 1, part.each 2, part.each 3)

pub unpacked_are_int4 : (fs : List Bool) (bytes : List ℕ) → AreBytes bytes → AreInt4 (unpacked fs bytes)
unpacked_are_int4 [] bytes h = λ k d lt. absurd (omega arith)
unpacked_are_int4 (true ∷ fs) bytes h = int4_cons (Some (int4_at bytes 0)) (unpacked fs (drop 4 bytes)) (sfits_to_z {w = w32} {n = word_at bytes 0} (Fits-of_lt (word_at-lt bytes 0 h))) (unpacked_are_int4 fs (drop 4 bytes) (bytes_drop 4 bytes h))
unpacked_are_int4 (false ∷ fs) bytes h = int4_cons None (unpacked fs bytes) tt (unpacked_are_int4 fs bytes h)

-- four bytes written and read
pub word_back : (bytes : List ℕ) → AreBytes bytes → 4 ≤ length bytes → bytes ≡ word (word_at bytes 0) ++ drop 4 bytes
word_back bytes h long =
    let part : AreBytes (take 4 bytes) = bytes_take 4 bytes h in
    let four : length (take 4 bytes) ≡ 4 = length-take-le 4 bytes long in
    let same : word (word_at bytes 0) ≡ take 4 bytes = le_bytes_4 (take 4 bytes) (word_at bytes 0) four part.each refl in
    sym (take-append-drop 4 bytes) ∙ ap (λ xs. xs ++ drop 4 bytes) (sym same)

pub int4_back : (bytes : List ℕ) → AreBytes bytes → int4 (int4_at bytes 0) ≡ word (word_at bytes 0)
int4_back bytes h = ap word (of_z-to_z w32 (word_at bytes 0) (word_at-lt bytes 0 h))

pub numbers-unpacked : (fs : List Bool) (bytes : List ℕ) → AreBytes bytes → length bytes ≡ 4 * count_ones (number_of_flags fs) → numbers (unpacked fs bytes) ≡ bytes
numbers-unpacked [] bytes h e = sym (nil_from_length bytes (omega (arith, ones_zero)))
numbers-unpacked (false ∷ fs) bytes h e = let step : count_ones (0 + 2 * number_of_flags fs) ≡ count_ones (number_of_flags fs) = ones_false (number_of_flags fs) in numbers-unpacked fs bytes h (omega arith)
numbers-unpacked (true ∷ fs) bytes h e =
    let step : count_ones (1 + 2 * number_of_flags fs) ≡ 1 + count_ones (number_of_flags fs) = ones_true (number_of_flags fs) in
    let rest : numbers (unpacked fs (drop 4 bytes)) ≡ drop 4 bytes = numbers-unpacked fs (drop 4 bytes) (bytes_drop 4 bytes h) (omega (arith, length-drop 4 bytes)) in
    ap₂ (λ xs ys. xs ++ ys) (int4_back bytes h) rest ∙ sym (word_back bytes h (omega arith))

-- whether a flag is not set tells whether there are fewer set than flags
pub has_absent_less : (fs : List Bool) → has_absent fs ≡ true → count_ones (number_of_flags fs) < length fs
has_absent_less [] e = absurd (false≢true e)
has_absent_less (true ∷ fs) e = let step : count_ones (1 + 2 * number_of_flags fs) ≡ 1 + count_ones (number_of_flags fs) = ones_true (number_of_flags fs) in omega (arith, has_absent_less fs e)
has_absent_less (false ∷ fs) e = let step : count_ones (0 + 2 * number_of_flags fs) ≡ count_ones (number_of_flags fs) = ones_false (number_of_flags fs) in let few : count_ones (number_of_flags fs) ≤ length fs = ones-le (length fs) (number_of_flags fs) (number_of_flags-lt fs) in omega arith

pub no_absent : (fs : List Bool) → has_absent fs ≡ false → (fs ≡ replicate (length fs) true) × (count_ones (number_of_flags fs) ≡ length fs)
no_absent [] e = (refl, ones_zero)
no_absent (true ∷ fs) e = let step : count_ones (1 + 2 * number_of_flags fs) ≡ 1 + count_ones (number_of_flags fs) = ones_true (number_of_flags fs) in let rest = no_absent fs e in (ap (λ xs. true ∷ xs) rest.0, omega (arith, rest.1))
no_absent (false ∷ fs) e = absurd (true≢false e)

pub no_absent_in_all : (n : ℕ) → has_absent (replicate n true) ≡ false
no_absent_in_all zero = refl
no_absent_in_all (suc n) = no_absent_in_all n

-- the bits of one byte of a bitmap, and the rest of the bitmap
pub bitmap_more : (es : List (Option ℤ)) (m k : ℕ) → k < m → low_bytes (m - k) (number_of_flags (presence (drop (8 * k) es))) ≡ number_of_flags (presence (take (min (length es) (8 * k + 8) - 8 * k) (drop (8 * k) es))) ∷ low_bytes (m - (k + 1)) (number_of_flags (presence (drop (8 * (k + 1)) es)))
bitmap_more es m k lt =
    let one : m - k ≡ suc (m - (k + 1)) = omega arith in
    let width : min (length es) (8 * k + 8) - 8 * k ≡ min 8 (length (drop (8 * k) es)) = omega (arith, length-drop (8 * k) es) in
    let next : 8 * k + 8 ≡ 8 * (k + 1) = omega arith in
    ap (λ j. low_bytes j (number_of_flags (presence (drop (8 * k) es)))) one
    ∙ low_bytes_more (m - (k + 1)) (presence (drop (8 * k) es))
    ∙ ap₂ (λ xs ys. number_of_flags xs ∷ low_bytes (m - (k + 1)) (number_of_flags ys))
    (take-map is_some 8 (drop (8 * k) es) ∙ ap presence (sym (ap (λ j. take j (drop (8 * k) es)) width ∙ take_min 8 (drop (8 * k) es))))
    (drop-map is_some 8 (drop (8 * k) es) ∙ ap presence (drop-drop 8 (8 * k) es ∙ ap (λ j. drop j es) next))

pub presence_small : (es : List (Option ℤ)) → length es ≤ 7 → number_of_flags (presence es) < 128
presence_small es short = flags_small (presence es) (omega (arith, length-map es is_some))
