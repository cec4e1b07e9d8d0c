-- Flat bytes are told by their layout, and hold the array that they are made of.
use Rattle.std.proofs.Common.{◌≡◌, ◌+◌, ◌-◌, ◌*◌, ◌^◌, ◌<◌, ◌≤◌, ℕ, zero, suc, ℤ, List, [], ◌∷◌, ◌++◌, length, take, drop, replicate, Bool, true, false, ◌||◌, Option, count_ones, refl, ap, ap₂, sym, ◌∙◌, arith, nat_eq, inl, inr}
use Rattle.std.specs.Prelude.{FitsSigned, is_some, int_le, ◌==◌, ◌≤ℤ◌}
use Rattle.std.specs.List.{list_all}
use Rattle.std.specs.Int.{w32}
use Rattle.std.proofs.lemmas.Bool.{and_from, and_parts, or_cases, or_left, or_right, le-leb, lt-ltb, eq-eqb, leb-true, ltb-true, eqb-true, ne_eqb, cases_Bool, cond-true, cond-false}
use Rattle.std.proofs.lemmas.Nat.{pow-add}
use Rattle.std.proofs.Math.Nat.{pow-suc, pow-le-pow_right}
use Rattle.std.proofs.lemmas.Int.{ints}
use Rattle.std.proofs.lemmas.List.{length-append, length-map, length-drop, length-take-le, length-replicate, take-append-drop, take_at, drop_at, drop-drop, nil_from_length}
use Rattle.std.proofs.Math.Facts.{sfits_to_z, Fits-of_lt}
use Rattle.expanded_array.specs.Array.{Array, Empty, Bounded, HasBounds, IsHeld, limit, last_limit, last_of}
use Rattle.expanded_array.specs.Flat.{IsFlat, flat_bytes, header, number_of_flags, low_bytes, presence, numbers, word, int4_type, has_absent, bitmap, bitmap_len, data_offset, padding}
use Rattle.expanded_array.specs.Layout.{unpacked, int4_at, word_at, number_of_bytes, flags_of, flags_in, elements_in, array_of, are_bounds, header_len, sparse_start, bitmap_in, padding_in, is_empty_layout, has_header, is_plain_layout, has_sparse_body, is_sparse_layout, is_flat_layout, start_in, array_in}
use Rattle.expanded_array.proofs.Bits.{AreBytes, bytes_take, bytes_drop, number_of_flags-lt, number_of_flags-flags_of, flags_of-number_of_flags, length-flags_of, low_bytes-number_of_bytes, number_of_bytes-low_bytes, length-low_bytes}
use Rattle.expanded_array.proofs.ArrayLaws.{array_of-some}
use Rattle.expanded_array.proofs.Packing.{AreInt4, word_read, int4_read, unpacked-numbers, numbers-unpacked, presence-unpacked, length-unpacked, length-numbers, unpacked_are_int4, word_at-lt, word_back, int4_back, has_absent_less, no_absent, no_absent_in_all}

-- ---- the fields behind a header

pub word_4 : (offset count : ℕ) (lower : ℤ) (rest : List ℕ) → offset < 2 ^ 32 → word_at (header offset count lower ++ rest) 4 ≡ offset
word_4 offset count lower rest h = word_read offset h

pub word_12 : (offset count : ℕ) (lower : ℤ) (rest : List ℕ) → count < 2 ^ 32 → word_at (header offset count lower ++ rest) 12 ≡ count
word_12 offset count lower rest h = word_read count h

pub int4_16 : (offset count : ℕ) (lower : ℤ) (rest : List ℕ) → FitsSigned w32 lower → int4_at (header offset count lower ++ rest) 16 ≡ lower
int4_16 offset count lower rest h = int4_read lower h

pub drop_header : (offset count : ℕ) (lower : ℤ) (rest : List ℕ) → drop header_len (header offset count lower ++ rest) ≡ rest
drop_header offset count lower rest = refl

pub length_header : (offset count : ℕ) (lower : ℤ) (rest : List ℕ) → length (header offset count lower ++ rest) ≡ 20 + length rest
length_header offset count lower rest = omega arith

pub le_tells : (a b : ℤ) → a ≤ℤ b → int_le a b ≡ true
le_tells a b h = grind (arith, ints)

pub tells_le : (a b : ℤ) → int_le a b ≡ true → a ≤ℤ b
tells_le a b e = grind (arith, ints)

pub bounds_tell : (lower : ℤ) (es : List (Option ℤ)) → HasBounds lower es → length es ≤ limit → are_bounds lower (length es) ≡ true
bounds_tell lower es h few = and_from _ _ (and_from _ _ (lt-ltb 0 (length es) h.some) (le-leb (length es) limit few)) (le_tells _ _ h.last)

pub header_tells : (offset count : ℕ) (lower : ℤ) (rest : List ℕ) → count < 2 ^ 32 → FitsSigned w32 lower → are_bounds lower count ≡ true → has_header (header offset count lower ++ rest) ≡ true
header_tells offset count lower rest small fits bounds =
    and_from _ _ (and_from _ _ (and_from _ _ (le-leb header_len (length (header offset count lower ++ rest)) (omega (arith, length_header offset count lower rest))) refl) refl)
    (ap₂ are_bounds (int4_16 offset count lower rest fits) (word_12 offset count lower rest small) ∙ bounds)

-- ---- the parts of sparse bytes

pow_256 : (m : ℕ) → 256 ^ m ≡ 2 ^ (8 * m)
pow_256 zero = refl
pow_256 (suc m) =
    let sum : 8 * suc m ≡ 8 + 8 * m = omega arith in
    let split : 2 ^ (8 + 8 * m) ≡ 2 ^ 8 * 2 ^ (8 * m) = pow-add 2 8 (8 * m) in
    let whole : 2 ^ (8 * suc m) ≡ 2 ^ (8 + 8 * m) = ap (λ k. 2 ^ k) sum in
    omega (arith, pow-suc 256 m, pow_256 m)

pub bitmap_room : (n : ℕ) → 2 ^ n ≤ 256 ^ bitmap_len n
bitmap_room n = let more : n ≤ 8 * bitmap_len n = omega arith in let le : 2 ^ n ≤ 2 ^ (8 * bitmap_len n) = pow-le-pow_right (omega arith) more in omega (arith, pow_256 (bitmap_len n))

pub bitmap_reads : (fs : List Bool) → number_of_bytes (bitmap fs) ≡ number_of_flags fs
bitmap_reads fs = number_of_bytes-low_bytes (bitmap_len (length fs)) (number_of_flags fs) (omega (arith, bitmap_room (length fs), number_of_flags-lt fs))

pub list_all-replicate : (n : ℕ) → list_all (λ b. b == 0) (replicate n 0) ≡ true
list_all-replicate zero = refl
list_all-replicate (suc n) = list_all-replicate n

pub bitmap_in_is : (fs : List Bool) (offset : ℕ) (lower : ℤ) (rest : List ℕ) → bitmap_in (header offset (length fs) lower ++ (bitmap fs ++ rest)) (length fs) ≡ number_of_flags fs
bitmap_in_is fs offset lower rest =
    ap number_of_bytes (take_at (bitmap fs) rest (bitmap_len (length fs)) (length-low_bytes (bitmap_len (length fs)) (number_of_flags fs))) ∙ bitmap_reads fs

pub behind_bitmap : (fs : List Bool) (offset : ℕ) (lower : ℤ) (rest : List ℕ) → drop (header_len + bitmap_len (length fs)) (header offset (length fs) lower ++ (bitmap fs ++ rest)) ≡ rest
behind_bitmap fs offset lower rest =
    sym (drop-drop (bitmap_len (length fs)) header_len (header offset (length fs) lower ++ (bitmap fs ++ rest)))
    ∙ drop_at (bitmap fs) rest (bitmap_len (length fs)) (length-low_bytes (bitmap_len (length fs)) (number_of_flags fs))

pub length_padding : (count : ℕ) → length (padding count) ≡ sparse_start count - (header_len + bitmap_len count)
length_padding count = omega (arith, length-replicate {A = ℕ} (data_offset count - (24 + bitmap_len count)) 0)

pub padding_in_is : (fs : List Bool) (offset : ℕ) (lower : ℤ) (rest : List ℕ) → padding_in (header offset (length fs) lower ++ (bitmap fs ++ (padding (length fs) ++ rest))) (length fs) ≡ padding (length fs)
padding_in_is fs offset lower rest =
    ap (take (sparse_start (length fs) - (header_len + bitmap_len (length fs)))) (behind_bitmap fs offset lower (padding (length fs) ++ rest))
    ∙ take_at (padding (length fs)) rest _ (length_padding (length fs))

pub behind_padding : (fs : List Bool) (offset : ℕ) (lower : ℤ) (rest : List ℕ) → drop (sparse_start (length fs)) (header offset (length fs) lower ++ (bitmap fs ++ (padding (length fs) ++ rest))) ≡ rest
behind_padding fs offset lower rest =
    let place : sparse_start (length fs) ≡ (header_len + bitmap_len (length fs)) + (sparse_start (length fs) - (header_len + bitmap_len (length fs))) = omega arith in
    ap (λ k. drop k (header offset (length fs) lower ++ (bitmap fs ++ (padding (length fs) ++ rest)))) place
    ∙ sym (drop-drop (sparse_start (length fs) - (header_len + bitmap_len (length fs))) (header_len + bitmap_len (length fs)) (header offset (length fs) lower ++ (bitmap fs ++ (padding (length fs) ++ rest))))
    ∙ ap (drop (sparse_start (length fs) - (header_len + bitmap_len (length fs)))) (behind_bitmap fs offset lower (padding (length fs) ++ rest))
    ∙ drop_at (padding (length fs)) rest _ (length_padding (length fs))

pub length_sparse : (fs : List Bool) (offset : ℕ) (lower : ℤ) (rest : List ℕ) → length (header offset (length fs) lower ++ (bitmap fs ++ (padding (length fs) ++ rest))) ≡ sparse_start (length fs) + length rest
length_sparse fs offset lower rest =
    omega (arith, length_header offset (length fs) lower (bitmap fs ++ (padding (length fs) ++ rest)), length-append (bitmap fs) (padding (length fs) ++ rest), length-append (padding (length fs)) rest, length_padding (length fs), length-low_bytes (bitmap_len (length fs)) (number_of_flags fs))

-- ---- flat bytes have a layout

pub data_offset-lt : (n : ℕ) → n ≤ limit → data_offset n < 2 ^ 32
data_offset-lt n h = omega arith

plain_laid_out : (lower : ℤ) (es : List (Option ℤ)) → HasBounds lower es → length es ≤ limit → has_absent (presence es) ≡ false → is_plain_layout (header 0 (length es) lower ++ numbers es) ≡ true
plain_laid_out lower es h few full =
    let count : word_at (header 0 (length es) lower ++ numbers es) 12 ≡ length es = word_12 0 (length es) lower (numbers es) (omega arith) in
    let all : count_ones (number_of_flags (presence es)) ≡ length (presence es) = (no_absent (presence es) full).1 in
    and_from _ _
    (and_from _ _ (header_tells 0 (length es) lower (numbers es) (omega arith) h.int4 (bounds_tell lower es h few)) refl)
    (eq-eqb _ _ (omega (arith, length_header 0 (length es) lower (numbers es), length-numbers es, length-map es is_some)))

-- bytes with a bitmap of these flags
abbrev pub sparse_bytes : List Bool → ℤ → List ℕ → List ℕ
sparse_bytes fs lower rest = header (data_offset (length fs)) (length fs) lower ++ (bitmap fs ++ (padding (length fs) ++ rest))

sparse_body_tells : (fs : List Bool) (lower : ℤ) (rest : List ℕ) → has_absent fs ≡ true → length rest ≡ 4 * count_ones (number_of_flags fs) → has_sparse_body (sparse_bytes fs lower rest) (length fs) ≡ true
sparse_body_tells fs lower rest some e =
    let read : bitmap_in (sparse_bytes fs lower rest) (length fs) ≡ number_of_flags fs = bitmap_in_is fs (data_offset (length fs)) lower (padding (length fs) ++ rest) in
    let long : length (sparse_bytes fs lower rest) ≡ sparse_start (length fs) + length rest = length_sparse fs (data_offset (length fs)) lower rest in
    let ones : count_ones (bitmap_in (sparse_bytes fs lower rest) (length fs)) ≡ count_ones (number_of_flags fs) = ap count_ones read in
    and_from _ _
    (and_from _ _
    (and_from _ _
    (and_from _ _
    (le-leb (sparse_start (length fs)) (length (sparse_bytes fs lower rest)) (omega (arith, long)))
    (lt-ltb (bitmap_in (sparse_bytes fs lower rest) (length fs)) (2 ^ length fs) (omega (arith, read, number_of_flags-lt fs))))
    (lt-ltb (count_ones (bitmap_in (sparse_bytes fs lower rest) (length fs))) (length fs) (omega (arith, ones, has_absent_less fs some))))
    (ap (list_all (λ b. b == 0)) (padding_in_is fs (data_offset (length fs)) lower rest) ∙ list_all-replicate (data_offset (length fs) - (24 + bitmap_len (length fs)))))
    (eq-eqb (length (sparse_bytes fs lower rest)) _ (omega (arith, long, ones, e)))

sparse_tells : (fs : List Bool) (lower : ℤ) (rest : List ℕ) → length fs ≤ limit → FitsSigned w32 lower → are_bounds lower (length fs) ≡ true → has_absent fs ≡ true → length rest ≡ 4 * count_ones (number_of_flags fs) → is_sparse_layout (sparse_bytes fs lower rest) ≡ true
sparse_tells fs lower rest few fits bounds some e =
    let behind : List ℕ = bitmap fs ++ (padding (length fs) ++ rest) in
    let count : word_at (sparse_bytes fs lower rest) 12 ≡ length fs = word_12 (data_offset (length fs)) (length fs) lower (bitmap fs ++ (padding (length fs) ++ rest)) (omega arith) in
    let offset : word_at (sparse_bytes fs lower rest) 4 ≡ data_offset (length fs) = word_4 (data_offset (length fs)) (length fs) lower (bitmap fs ++ (padding (length fs) ++ rest)) (data_offset-lt (length fs) few) in
    and_from _ _
    (and_from _ _
    (header_tells (data_offset (length fs)) (length fs) lower (bitmap fs ++ (padding (length fs) ++ rest)) (omega arith) fits bounds)
    (eq-eqb _ _ (offset ∙ sym (ap data_offset count))))
    (ap (has_sparse_body (sparse_bytes fs lower rest)) count ∙ sparse_body_tells fs lower rest some e)

pub flat_plain : (lower : ℤ) (es : List (Option ℤ)) → has_absent (presence es) ≡ false → flat_bytes (Bounded lower es) ≡ header 0 (length es) lower ++ numbers es
flat_plain lower es full = cond-false (has_absent (presence es)) _ _ full

pub flat_sparse : (lower : ℤ) (es : List (Option ℤ)) → has_absent (presence es) ≡ true → flat_bytes (Bounded lower es) ≡ sparse_bytes (presence es) lower (numbers es)
flat_sparse lower es some =
    cond-true (has_absent (presence es)) _ _ some
    ∙ ap (λ n. header (data_offset n) n lower ++ (bitmap (presence es) ++ (padding n ++ numbers es))) (sym (length-map es is_some))

bounded_laid_out : (lower : ℤ) (es : List (Option ℤ)) → HasBounds lower es → length es ≤ limit → is_flat_layout (flat_bytes (Bounded lower es)) ≡ true
bounded_laid_out lower es h few =
    let same : length (presence es) ≡ length es = length-map es is_some in
    elim (cases_Bool (has_absent (presence es))) [
      | inl some ↦ ap is_flat_layout (flat_sparse lower es some)
          ∙ or_right (is_empty_layout (sparse_bytes (presence es) lower (numbers es)) || is_plain_layout (sparse_bytes (presence es) lower (numbers es))) _
          (sparse_tells (presence es) lower (numbers es) (omega arith) h.int4 (ap (are_bounds lower) same ∙ bounds_tell lower es h few) some (length-numbers es))
      | inr full ↦ ap is_flat_layout (flat_plain lower es full)
          ∙ or_left _ _ (or_right (is_empty_layout (header 0 (length es) lower ++ numbers es)) _ (plain_laid_out lower es h few full))
    ]

pub flat_laid_out : (a : Array) → IsHeld a → is_flat_layout (flat_bytes a) ≡ true
flat_laid_out Empty h = refl
flat_laid_out (Bounded lower es) h = bounded_laid_out lower es h.array h.few

-- ---- bytes with a layout are flat

word_step : (bytes : List ℕ) (k : ℕ) → AreBytes bytes → k + 4 ≤ length bytes → drop k bytes ≡ word (word_at bytes k) ++ drop (k + 4) bytes
word_step bytes k h long =
    word_back (drop k bytes) (bytes_drop k bytes h) (omega (arith, length-drop k bytes))
    ∙ ap (λ xs. word (word_at bytes k) ++ xs) (drop-drop 4 k bytes)

type_back : (bytes : List ℕ) → AreBytes bytes → 12 ≤ length bytes → word_at bytes 8 ≡ int4_type → bytes ≡ word (word_at bytes 0) ++ (word (word_at bytes 4) ++ (word int4_type ++ drop 12 bytes))
type_back bytes h long kind =
    word_step bytes 0 h (omega arith)
    ∙ ap (λ xs. word (word_at bytes 0) ++ xs) (word_step bytes 4 h (omega arith)
    ∙ ap (λ xs. word (word_at bytes 4) ++ xs) (word_step bytes 8 h long
    ∙ ap (λ n. word n ++ drop 12 bytes) kind))

pub header_back : (bytes : List ℕ) → AreBytes bytes → 20 ≤ length bytes → word_at bytes 0 ≡ 1 → word_at bytes 8 ≡ int4_type → bytes ≡ header (word_at bytes 4) (word_at bytes 12) (int4_at bytes 16) ++ drop 20 bytes
header_back bytes h long one kind =
    type_back bytes h (omega arith) kind
    ∙ ap (λ n. word n ++ (word (word_at bytes 4) ++ (word int4_type ++ drop 12 bytes))) one
    ∙ ap (λ xs. word 1 ++ (word (word_at bytes 4) ++ (word int4_type ++ xs))) (word_step bytes 12 h (omega arith)
    ∙ ap (λ xs. word (word_at bytes 12) ++ xs) (word_step bytes 16 h long
    ∙ ap (λ xs. xs ++ drop 20 bytes) (sym (int4_back (drop 16 bytes) (bytes_drop 16 bytes h)))))

-- what a header tells
pub record Heads (bytes : List ℕ) : Type 0 where
  pub long : 20 ≤ length bytes
  pub one : word_at bytes 0 ≡ 1
  pub kind : word_at bytes 8 ≡ int4_type
  pub some : 0 < word_at bytes 12
  pub few : word_at bytes 12 ≤ limit
  pub last : last_of (int4_at bytes 16) (word_at bytes 12) ≤ℤ last_limit

pub heads : (bytes : List ℕ) → has_header bytes ≡ true → Heads bytes
heads bytes e =
    let p = and_parts _ _ e in
    let q = and_parts _ _ p.0 in
    let r = and_parts _ _ q.0 in
    let b = and_parts _ _ p.1 in
    let d = and_parts _ _ b.0 in
    record {
      long = leb-true _ _ r.0;
      one = eqb-true _ _ r.1;
      kind = eqb-true _ _ q.1;
      some = ltb-true _ _ d.0;
      few = leb-true _ _ d.1;
      last = tells_le _ _ b.1;
    }

-- the elements of these flags make an array that a variable may hold
unpacked_held : (bytes : List ℕ) (fs : List Bool) (rest : List ℕ) → AreBytes bytes → AreBytes rest → Heads bytes → length fs ≡ word_at bytes 12 → IsHeld (Bounded (int4_at bytes 16) (unpacked fs rest))
unpacked_held bytes fs rest h r heads e =
    let count : length (unpacked fs rest) ≡ word_at bytes 12 = length-unpacked fs rest ∙ e in
    record {
      array = record {
        some = omega (arith, heads.some);
        int4 = sfits_to_z {w = w32} {n = word_at bytes 16} (Fits-of_lt (word_at-lt bytes 16 h));
        last = rw count heads.last;
        numbers = unpacked_are_int4 fs rest r;
      };
      few = omega (arith, heads.few);
    }

empty_is_flat : (bytes : List ℕ) → AreBytes bytes → is_empty_layout bytes ≡ true → IsFlat bytes
empty_is_flat bytes h e =
    let p = and_parts _ _ e in
    let q = and_parts _ _ p.0 in
    let r = and_parts _ _ q.0 in
    let long : length bytes ≡ 12 = eqb-true _ _ r.0 in
    let first : word_at bytes 0 ≡ 0 = eqb-true _ _ r.1 in
    let second : word_at bytes 4 ≡ 0 = eqb-true _ _ q.1 in
    let third : word_at bytes 8 ≡ int4_type = eqb-true _ _ p.1 in
    let rest : drop 12 bytes ≡ [] = nil_from_length (drop 12 bytes) (omega (arith, length-drop 12 bytes)) in
    record {
      array = Empty;
      held = record { array = tt; few = omega arith };
      bytes_are = type_back bytes h (omega arith) third
          ∙ ap (λ n. word n ++ (word (word_at bytes 4) ++ (word int4_type ++ drop 12 bytes))) first
          ∙ ap (λ n. word 0 ++ (word n ++ (word int4_type ++ drop 12 bytes))) second
          ∙ ap (λ xs. word 0 ++ (word 0 ++ (word int4_type ++ xs))) rest;
    }

plain_is_flat : (bytes : List ℕ) → AreBytes bytes → is_plain_layout bytes ≡ true → IsFlat bytes
plain_is_flat bytes h e =
    let p = and_parts _ _ e in
    let q = and_parts _ _ p.0 in
    let head = heads bytes q.0 in
    let offset : word_at bytes 4 ≡ 0 = eqb-true _ _ q.1 in
    let long : length bytes ≡ header_len + 4 * word_at bytes 12 = eqb-true _ _ p.1 in
    let flags : length (replicate (word_at bytes 12) true) ≡ word_at bytes 12 = length-replicate (word_at bytes 12) true in
    let all = no_absent (replicate (word_at bytes 12) true) (no_absent_in_all (word_at bytes 12)) in
    let here : presence (unpacked (replicate (word_at bytes 12) true) (drop 20 bytes)) ≡ replicate (word_at bytes 12) true = presence-unpacked (replicate (word_at bytes 12) true) (drop 20 bytes) in
    let count : length (unpacked (replicate (word_at bytes 12) true) (drop 20 bytes)) ≡ word_at bytes 12 = length-unpacked (replicate (word_at bytes 12) true) (drop 20 bytes) ∙ flags in
    let read : numbers (unpacked (replicate (word_at bytes 12) true) (drop 20 bytes)) ≡ drop 20 bytes = numbers-unpacked (replicate (word_at bytes 12) true) (drop 20 bytes) (bytes_drop 20 bytes h) (omega (arith, length-drop 20 bytes, all.1)) in
    record {
      array = Bounded (int4_at bytes 16) (unpacked (replicate (word_at bytes 12) true) (drop 20 bytes));
      held = unpacked_held bytes (replicate (word_at bytes 12) true) (drop 20 bytes) h (bytes_drop 20 bytes h) head flags;
      bytes_are = header_back bytes h head.long head.one head.kind
          ∙ ap (λ k. header k (word_at bytes 12) (int4_at bytes 16) ++ drop 20 bytes) offset
          ∙ sym (flat_plain (int4_at bytes 16) (unpacked (replicate (word_at bytes 12) true) (drop 20 bytes)) (ap has_absent here ∙ no_absent_in_all (word_at bytes 12))
          ∙ ap₂ (λ k xs. header 0 k (int4_at bytes 16) ++ xs) count read);
    }

zeros_are : (bs : List ℕ) → list_all (λ b. b == 0) bs ≡ true → bs ≡ replicate (length bs) 0
zeros_are [] e = refl
zeros_are (b ∷ bs) e = let p = and_parts _ _ e in ap₂ (λ x xs. x ∷ xs) (eqb-true b 0 p.0) (zeros_are bs p.1)

-- a bitmap with no bit set behind the last element is that of its own flags
bitmap_back : (bs : List ℕ) (n : ℕ) → AreBytes bs → length bs ≡ bitmap_len n → number_of_bytes bs < 2 ^ n → bitmap (flags_of n (number_of_bytes bs)) ≡ bs
bitmap_back bs n h e small =
    ap₂ low_bytes (ap bitmap_len (length-flags_of n (number_of_bytes bs)) ∙ sym e) (number_of_flags-flags_of n (number_of_bytes bs) small)
    ∙ low_bytes-number_of_bytes bs h

some_absent : (fs : List Bool) → count_ones (number_of_flags fs) < length fs → has_absent fs ≡ true
some_absent fs less =
    elim (cases_Bool (has_absent fs)) [ inl some ↦ some | inr full ↦ absurd (omega (arith, (no_absent fs full).1)) ]

-- bytes in four parts
cut_four : (bytes : List ℕ) (a b c : ℕ) → a + b ≤ c → c ≤ length bytes → drop a bytes ≡ take b (drop a bytes) ++ (take (c - (a + b)) (drop (a + b) bytes) ++ drop c bytes)
cut_four bytes a b c order long =
    let place : (a + b) + (c - (a + b)) ≡ c = omega arith in
    sym (take-append-drop b (drop a bytes))
    ∙ ap (λ xs. take b (drop a bytes) ++ xs) (drop-drop b a bytes
    ∙ sym (take-append-drop (c - (a + b)) (drop (a + b) bytes))
    ∙ ap (λ xs. take (c - (a + b)) (drop (a + b) bytes) ++ xs) (drop-drop (c - (a + b)) (a + b) bytes
    ∙ ap (λ k. drop k bytes) place))

-- what sparse bytes tell
pub record Sparse (bytes : List ℕ) (n : ℕ) : Type 0 where
  pub long : sparse_start n ≤ length bytes
  pub clear : bitmap_in bytes n < 2 ^ n
  pub less : count_ones (bitmap_in bytes n) < n
  pub zeros : list_all (λ b. b == 0) (padding_in bytes n) ≡ true
  pub exact : length bytes ≡ sparse_start n + 4 * count_ones (bitmap_in bytes n)

pub sparse : (bytes : List ℕ) (n : ℕ) → has_sparse_body bytes n ≡ true → Sparse bytes n
sparse bytes n e =
    let p = and_parts _ _ e in
    let q = and_parts _ _ p.0 in
    let r = and_parts _ _ q.0 in
    let s = and_parts _ _ r.0 in
    record {
      long = leb-true _ _ s.0;
      clear = ltb-true _ _ s.1;
      less = ltb-true _ _ r.1;
      zeros = q.1;
      exact = eqb-true _ _ p.1;
    }

sparse_parts : (bytes : List ℕ) (n : ℕ) → AreBytes bytes → Sparse bytes n → drop 20 bytes ≡ bitmap (flags_of n (bitmap_in bytes n)) ++ (padding n ++ drop (sparse_start n) bytes)
sparse_parts bytes n h s =
    let bs : List ℕ = take (bitmap_len n) (drop 20 bytes) in
    let len : length (take (bitmap_len n) (drop 20 bytes)) ≡ bitmap_len n = length-take-le (bitmap_len n) (drop 20 bytes) (omega (arith, length-drop 20 bytes, s.long)) in
    let bits : bitmap (flags_of n (bitmap_in bytes n)) ≡ take (bitmap_len n) (drop 20 bytes) = bitmap_back (take (bitmap_len n) (drop 20 bytes)) n (bytes_take (bitmap_len n) (drop 20 bytes) (bytes_drop 20 bytes h)) len s.clear in
    let gap : length (padding_in bytes n) ≡ data_offset n - (24 + bitmap_len n) = length-take-le (sparse_start n - (20 + bitmap_len n)) (drop (20 + bitmap_len n) bytes) (omega (arith, length-drop (20 + bitmap_len n) bytes, s.long)) ∙ omega arith in
    let zero_bytes : padding_in bytes n ≡ padding n = zeros_are (padding_in bytes n) s.zeros ∙ ap (λ k. replicate k 0) gap in
    cut_four bytes 20 (bitmap_len n) (sparse_start n) (omega arith) s.long
    ∙ ap₂ (λ xs ys. xs ++ (ys ++ drop (sparse_start n) bytes)) (sym bits) zero_bytes

-- sparse bytes of some flags
sparse_flat : (bytes : List ℕ) (fs : List Bool) (rest : List ℕ) → AreBytes bytes → AreBytes rest → Heads bytes → length fs ≡ word_at bytes 12 → has_absent fs ≡ true → length rest ≡ 4 * count_ones (number_of_flags fs) → bytes ≡ header (data_offset (word_at bytes 12)) (word_at bytes 12) (int4_at bytes 16) ++ (bitmap fs ++ (padding (word_at bytes 12) ++ rest)) → IsFlat bytes
sparse_flat bytes fs rest h r head count some exact e =
    let here : presence (unpacked fs rest) ≡ fs = presence-unpacked fs rest in
    let read : numbers (unpacked fs rest) ≡ rest = numbers-unpacked fs rest r exact in
    record {
      array = Bounded (int4_at bytes 16) (unpacked fs rest);
      held = unpacked_held bytes fs rest h r head count;
      bytes_are = e
          ∙ ap (λ n. header (data_offset n) n (int4_at bytes 16) ++ (bitmap fs ++ (padding n ++ rest))) (sym count)
          ∙ sym (flat_sparse (int4_at bytes 16) (unpacked fs rest) (ap has_absent here ∙ some)
          ∙ ap₂ (λ xs ys. sparse_bytes xs (int4_at bytes 16) ys) here read);
    }

sparse_is_flat : (bytes : List ℕ) → AreBytes bytes → is_sparse_layout bytes ≡ true → IsFlat bytes
sparse_is_flat bytes h e =
    let p = and_parts _ _ e in
    let q = and_parts _ _ p.0 in
    let head = heads bytes q.0 in
    let offset : word_at bytes 4 ≡ data_offset (word_at bytes 12) = eqb-true _ _ q.1 in
    let s = sparse bytes (word_at bytes 12) p.1 in
    let count : length (flags_of (word_at bytes 12) (bitmap_in bytes (word_at bytes 12))) ≡ word_at bytes 12 = length-flags_of (word_at bytes 12) (bitmap_in bytes (word_at bytes 12)) in
    let same : number_of_flags (flags_of (word_at bytes 12) (bitmap_in bytes (word_at bytes 12))) ≡ bitmap_in bytes (word_at bytes 12) = number_of_flags-flags_of (word_at bytes 12) (bitmap_in bytes (word_at bytes 12)) s.clear in
    let ones : count_ones (number_of_flags (flags_of (word_at bytes 12) (bitmap_in bytes (word_at bytes 12)))) ≡ count_ones (bitmap_in bytes (word_at bytes 12)) = ap count_ones same in
    let less : count_ones (number_of_flags (flags_of (word_at bytes 12) (bitmap_in bytes (word_at bytes 12)))) < length (flags_of (word_at bytes 12) (bitmap_in bytes (word_at bytes 12))) = omega (arith, ones, s.less, count) in
    let some : has_absent (flags_of (word_at bytes 12) (bitmap_in bytes (word_at bytes 12))) ≡ true = some_absent (flags_of (word_at bytes 12) (bitmap_in bytes (word_at bytes 12))) less in
    sparse_flat bytes (flags_of (word_at bytes 12) (bitmap_in bytes (word_at bytes 12))) (drop (sparse_start (word_at bytes 12)) bytes) h (bytes_drop (sparse_start (word_at bytes 12)) bytes h) head count
    some
    (omega (arith, length-drop (sparse_start (word_at bytes 12)) bytes, s.exact, ones))
    (header_back bytes h head.long head.one head.kind
    ∙ ap₂ (λ k xs. header k (word_at bytes 12) (int4_at bytes 16) ++ xs) offset (sparse_parts bytes (word_at bytes 12) h s))

pub laid_out_is_flat : (bytes : List ℕ) → AreBytes bytes → is_flat_layout bytes ≡ true → IsFlat bytes
laid_out_is_flat bytes h e =
    elim (or_cases _ _ e) [
      | inl first ↦ elim (or_cases _ _ first) [ inl empty ↦ empty_is_flat bytes h empty | inr plain ↦ plain_is_flat bytes h plain ]
      | inr sparse ↦ sparse_is_flat bytes h sparse
    ]

-- ---- flat bytes hold the array that they are made of

full_elements : (es : List (Option ℤ)) → AreInt4 es → has_absent (presence es) ≡ false → unpacked (replicate (length es) true) (numbers es) ≡ es
full_elements es h full =
    ap (λ fs. unpacked fs (numbers es)) (ap (λ k. replicate k true) (sym (length-map es is_some)) ∙ sym (no_absent (presence es) full).0)
    ∙ unpacked-numbers es h

pub plain_holds : (lower : ℤ) (es : List (Option ℤ)) → AreInt4 es → has_absent (presence es) ≡ false → elements_in (header 0 (length es) lower ++ numbers es) (length es) header_len ≡ es
plain_holds lower es h full = full_elements es h full

pub sparse_holds : (lower : ℤ) (es : List (Option ℤ)) → AreInt4 es → has_absent (presence es) ≡ true → elements_in (sparse_bytes (presence es) lower (numbers es)) (length (presence es)) (sparse_start (length (presence es))) ≡ es
sparse_holds lower es h some =
    let fs : List Bool = presence es in
    let there : 0 < length (presence es) = omega (arith, has_absent_less (presence es) some) in
    let apart : nat_eq (sparse_start (length (presence es))) header_len ≡ false = ne_eqb _ _ (λ e. omega arith) in
    let flags : flags_in (sparse_bytes (presence es) lower (numbers es)) (length (presence es)) (sparse_start (length (presence es))) ≡ presence es =
    cond-false (nat_eq (sparse_start (length (presence es))) header_len) _ _ apart
    ∙ ap (flags_of (length (presence es))) (bitmap_in_is (presence es) (data_offset (length (presence es))) lower (padding (length (presence es)) ++ numbers es))
    ∙ flags_of-number_of_flags (presence es) in
    ap₂ unpacked flags (behind_padding (presence es) (data_offset (length (presence es))) lower (numbers es)) ∙ unpacked-numbers es h

-- where the elements begin, by the data offset
pub start_in-plain : (bytes : List ℕ) → word_at bytes 4 ≡ 0 → start_in bytes ≡ header_len
start_in-plain bytes e = cond-true (nat_eq (word_at bytes 4) 0) _ _ (eq-eqb _ _ e)

pub start_in-sparse : (bytes : List ℕ) (n : ℕ) → word_at bytes 4 ≡ data_offset n → start_in bytes ≡ sparse_start n
start_in-sparse bytes n e = cond-false (nat_eq (word_at bytes 4) 0) _ _ (ne_eqb _ _ (λ z. omega arith)) ∙ ap (λ k. k - 4) e

plain_array : (lower : ℤ) (es : List (Option ℤ)) → HasBounds lower es → length es ≤ limit → has_absent (presence es) ≡ false → array_in (header 0 (length es) lower ++ numbers es) ≡ Bounded lower es
plain_array lower es h few full =
    ap₂ array_of (int4_16 0 (length es) lower (numbers es) h.int4)
    (ap₂ (elements_in (header 0 (length es) lower ++ numbers es)) (word_12 0 (length es) lower (numbers es) (omega arith)) (start_in-plain (header 0 (length es) lower ++ numbers es) refl)
    ∙ plain_holds lower es h.numbers full)
    ∙ array_of-some lower es h.some

sparse_array : (lower : ℤ) (es : List (Option ℤ)) → HasBounds lower es → length es ≤ limit → has_absent (presence es) ≡ true → array_in (sparse_bytes (presence es) lower (numbers es)) ≡ Bounded lower es
sparse_array lower es h few some =
    let same : length (presence es) ≡ length es = length-map es is_some in
    let n : ℕ = length (presence es) in
    let rest : List ℕ = bitmap (presence es) ++ (padding (length (presence es)) ++ numbers es) in
    ap₂ array_of (int4_16 (data_offset (length (presence es))) (length (presence es)) lower (bitmap (presence es) ++ (padding (length (presence es)) ++ numbers es)) h.int4)
    (ap₂ (elements_in (sparse_bytes (presence es) lower (numbers es))) (word_12 (data_offset (length (presence es))) (length (presence es)) lower (bitmap (presence es) ++ (padding (length (presence es)) ++ numbers es)) (omega arith))
    (start_in-sparse (sparse_bytes (presence es) lower (numbers es)) (length (presence es)) (word_4 (data_offset (length (presence es))) (length (presence es)) lower (bitmap (presence es) ++ (padding (length (presence es)) ++ numbers es)) (data_offset-lt (length (presence es)) (omega arith))))
    ∙ sparse_holds lower es h.numbers some)
    ∙ array_of-some lower es h.some

bounded_holds : (lower : ℤ) (es : List (Option ℤ)) → HasBounds lower es → length es ≤ limit → array_in (flat_bytes (Bounded lower es)) ≡ Bounded lower es
bounded_holds lower es h few =
    elim (cases_Bool (has_absent (presence es))) [
      | inl some ↦ ap array_in (flat_sparse lower es some) ∙ sparse_array lower es h few some
      | inr full ↦ ap array_in (flat_plain lower es full) ∙ plain_array lower es h few full
    ]

pub flat_holds : (a : Array) → IsHeld a → array_in (flat_bytes a) ≡ a
flat_holds Empty h = refl
flat_holds (Bounded lower es) h = bounded_holds lower es h.array h.few
