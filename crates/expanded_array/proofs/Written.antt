-- Flat bytes written part by part.
use Rattle.std.proofs.Common.{◌≡◌, ◌+◌, ◌*◌, ◌<◌, ◌≤◌, ℕ, ℤ, List, [], ◌∷◌, ◌++◌, length, take, replicate, false, Option, count_ones, ap, sym, subst, ◌∙◌, arith, nat_eq, inl, inr}
use Rattle.std.specs.Prelude.{◌≢◌, is_some}
use Rattle.std.proofs.lemmas.Bool.{true≢false, cases_Bool, cond-true, cond-false, eq-eqb, ne_eqb, cases_eq, cases_lt}
use Rattle.std.proofs.lemmas.Nat.{ones-le}
use Rattle.std.proofs.lemmas.List.{append_assoc, take_all, take-replicate, length-map}
use Rattle.expanded_array.specs.Flat.{flat_bytes, header, number_of_flags, presence, numbers, has_absent, bitmap, data_offset, padding}
use Rattle.expanded_array.specs.Layout.{array_of, header_len, sparse_start, first_place}
use Rattle.expanded_array.specs.Array.{Array, Empty, Bounded, IsHeld}
use Rattle.expanded_array.proofs.Bits.{number_of_flags-lt}
use Rattle.expanded_array.proofs.ArrayLaws.{array_of-some}
use Rattle.expanded_array.proofs.Packing.{length-numbers, has_absent_less, no_absent}
use Rattle.expanded_array.proofs.FlatLaws.{flat_plain, length_header, length_sparse}

-- two and four parts, each written behind the one before it
pub two_parts : (out out₁ : List ℕ) (p p₁ : ℕ) (a b : List ℕ) → take p out ≡ take p₁ out₁ ++ b → take p₁ out₁ ≡ a → length out ≤ p → out ≡ a ++ b
two_parts out out₁ p p₁ a b e e₁ whole = sym (take_all p out whole) ∙ e ∙ ap (λ xs. xs ++ b) e₁

pub four_parts : (out out₁ out₂ out₃ : List ℕ) (p p₁ p₂ p₃ : ℕ) (a b c d : List ℕ) → take p out ≡ take p₁ out₁ ++ d → take p₁ out₁ ≡ take p₂ out₂ ++ c → take p₂ out₂ ≡ take p₃ out₃ ++ b → take p₃ out₃ ≡ a → length out ≤ p → out ≡ a ++ (b ++ (c ++ d))
four_parts out out₁ out₂ out₃ p p₁ p₂ p₃ a b c d e e₁ e₂ e₃ whole =
    sym (take_all p out whole) ∙ e ∙ ap (λ xs. xs ++ d) (e₁ ∙ ap (λ xs. xs ++ c) (e₂ ∙ ap (λ xs. xs ++ b) e₃))
    ∙ append_assoc (a ++ b) c d ∙ append_assoc a b (c ++ d)

pub zeros_front : (k : ℕ) → k ≤ 8 → take {A = ℕ} k (0 ∷ 0 ∷ 0 ∷ 0 ∷ 0 ∷ 0 ∷ 0 ∷ 0 ∷ []) ≡ replicate k 0
zeros_front k le = take-replicate {X = ℕ} k 8 0 le

pub nonempty : (es : List (Option ℤ)) → nat_eq (length es) 0 ≡ false → 0 < length es
nonempty [] e = absurd (true≢false e)
nonempty (x ∷ es) e = omega arith

present_is : (es : List (Option ℤ)) (p : ℕ) → 4 * p ≡ length (numbers es) → count_ones (number_of_flags (presence es)) ≡ p
present_is es p e = omega (arith, length-numbers es)

pub written_plain : (lower : ℤ) (es : List (Option ℤ)) (p : ℕ) → 4 * p ≡ length (numbers es) → 0 < length es → p ≡ length es → flat_bytes (array_of lower es) ≡ header 0 (length es) lower ++ numbers es
written_plain lower es p e some all =
    elim (cases_Bool (has_absent (presence es))) [
      | inl absent ↦ absurd (omega (arith, has_absent_less (presence es) absent, present_is es p e, length-map es is_some))
      | inr full ↦ ap flat_bytes (array_of-some lower es some) ∙ flat_plain lower es full
    ]

pub written_sparse : (lower : ℤ) (es : List (Option ℤ)) (p : ℕ) → 4 * p ≡ length (numbers es) → 0 < length es → p ≢ length es → flat_bytes (array_of lower es) ≡ header (data_offset (length es)) (length es) lower ++ (bitmap (presence es) ++ (padding (length es) ++ numbers es))
written_sparse lower es p e some less =
    elim (cases_Bool (has_absent (presence es))) [
      | inl absent ↦ ap flat_bytes (array_of-some lower es some) ∙ cond-true (has_absent (presence es)) _ _ absent
      | inr full ↦ absurd (less (sym (present_is es p e) ∙ (no_absent (presence es) full).1 ∙ length-map es is_some))
    ]

sparse_len : (lower : ℤ) (es : List (Option ℤ)) → length (header (data_offset (length es)) (length es) lower ++ (bitmap (presence es) ++ (padding (length es) ++ numbers es))) ≡ sparse_start (length es) + length (numbers es)
sparse_len lower es =
    let same : length (presence es) ≡ length es = length-map es is_some in
    ap (λ n. length (header (data_offset n) n lower ++ (bitmap (presence es) ++ (padding n ++ numbers es)))) (sym same)
    ∙ length_sparse (presence es) (data_offset (length (presence es))) lower (numbers es)
    ∙ ap (λ n. sparse_start n + length (numbers es)) same

pub plain_length : (lower : ℤ) (es : List (Option ℤ)) (p : ℕ) → 4 * p ≡ length (numbers es) → 0 < length es → p ≡ length es → length (flat_bytes (array_of lower es)) ≡ header_len + length (numbers es)
plain_length lower es p e some all = ap length (written_plain lower es p e some all) ∙ length_header 0 (length es) lower (numbers es)

pub sparse_length : (lower : ℤ) (es : List (Option ℤ)) (p : ℕ) → 4 * p ≡ length (numbers es) → 0 < length es → p ≢ length es → length (flat_bytes (array_of lower es)) ≡ sparse_start (length es) + length (numbers es)
sparse_length lower es p e some less = ap length (written_sparse lower es p e some less) ∙ sparse_len lower es

pub flat_length : (lower : ℤ) (es : List (Option ℤ)) (p : ℕ) → 4 * p ≡ length (numbers es) → first_place (length es) p + 4 * p ≡ length (flat_bytes (array_of lower es))
flat_length lower [] p e = omega arith
flat_length lower (x ∷ es) p e =
    let some : nat_eq (length (x ∷ es)) 0 ≡ false = ne_eqb _ _ (λ z. omega arith) in
    elim (cases_eq p (length (x ∷ es))) [
      | inl all ↦ ap (λ k. k + 4 * p) (cond-false _ _ _ some ∙ cond-true (nat_eq p (length (x ∷ es))) header_len _ (eq-eqb _ _ all)) ∙ ap (λ k. header_len + k) e ∙ sym (plain_length lower (x ∷ es) p e (omega arith) all)
      | inr less ↦ ap (λ k. k + 4 * p) (cond-false _ _ _ some ∙ cond-false (nat_eq p (length (x ∷ es))) header_len _ (ne_eqb _ _ less)) ∙ ap (λ k. sparse_start (length (x ∷ es)) + k) e ∙ sym (sparse_length lower (x ∷ es) p e (omega arith) less)
    ]

-- the longest: all elements but one
place_few : (n p : ℕ) → n ≤ 1048576 → p ≤ n → first_place n p + 4 * p ≤ 4325392
place_few n p few le =
    elim (cases_eq n 0) [
      | inl none ↦ let at : first_place n p ≡ 12 = cond-true (nat_eq n 0) 12 _ (eq-eqb _ _ none) in omega (arith, at)
      | inr some ↦ elim (cases_lt p n) [
        | inl less ↦
            let at : first_place n p ≡ sparse_start n = cond-false (nat_eq n 0) _ _ (ne_eqb _ _ some) ∙ cond-false (nat_eq p n) header_len (sparse_start n) (ne_eqb _ _ (λ e. omega (arith, e))) in
            omega (arith, at)
        | inr all ↦
            let same : p ≡ n = omega arith in
            let at : first_place n p ≡ header_len = cond-false (nat_eq n 0) _ _ (ne_eqb _ _ some) ∙ cond-true (nat_eq p n) header_len (sparse_start n) (eq-eqb _ _ same) in
            omega (arith, at)
      ]
    ]

few_bytes : (lower : ℤ) (es : List (Option ℤ)) → length es ≤ 1048576 → length (flat_bytes (array_of lower es)) ≤ 4325392
few_bytes lower es few =
    let p = count_ones (number_of_flags (presence es)) in
    let within : p ≤ length es = omega (arith, ones-le (length (presence es)) (number_of_flags (presence es)) (number_of_flags-lt (presence es)), length-map es is_some) in
    omega (arith, flat_length lower es p (sym (length-numbers es)), place_few (length es) p few within)

-- the flat bytes of an array that a variable may hold are few
pub flat_few : (a : Array) → IsHeld a → length (flat_bytes a) ≤ 4325392
flat_few Empty h = omega arith
flat_few (Bounded lower es) h = subst (λ a. length (flat_bytes a) ≤ 4325392) (array_of-some lower es h.array.some) (few_bytes lower es h.few)
