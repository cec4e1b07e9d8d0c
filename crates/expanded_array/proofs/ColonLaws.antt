-- The lower bound between a bracket and a colon.
use Rattle.std.proofs.Common.{◌≡◌, ◌+◌, ◌-◌, ◌^◌, ◌<◌, ℕ, suc, ℤ, List, ◌∷◌, ◌++◌, length, take, drop, get_or, refl, ap, sym, subst, ◌∙◌, arith, inl, inr}
use Rattle.std.specs.Prelude.{FitsSigned, codes}
use Rattle.std.specs.Int.{w32}
use Rattle.std.specs.Fmt.{signed_decimal}
use Rattle.std.specs.Str.{IsUtf8}
use Rattle.std.specs.Str.Parse.{IsNumeral, signed_digits_value, without_leading_sign}
use Rattle.std.proofs.lemmas.Bool.{cases_order}
use Rattle.std.proofs.lemmas.Fmt.{IsAscii-signed}
use Rattle.std.proofs.lemmas.Str.{IsUtf8-from_ascii}
use Rattle.std.proofs.lemmas.List.{take_at, take_rest, get_or_at, get_or_append_left, length-append}
use lib.Signed.{mag}
use Rattle.expanded_array.specs.Array.{last_of}
use Rattle.expanded_array.specs.Text.{explicit_bounds}
use Rattle.expanded_array.specs.Spelling.{HasNoColon}
use Rattle.expanded_array.proofs.Uniqueness.{explicit_behind, no_colon_int4, number_spelled}

colon_there : (front behind : List ℕ) → get_or (front ++ (58 ∷ behind)) (length front) 0 ≡ 58
colon_there front behind = get_or_at front 58 behind 0 (length front) refl

pub colon_found : (bytes front behind : List ℕ) (i : ℕ) → HasNoColon front → bytes ≡ front ++ (58 ∷ behind) → ((k : ℕ) → k < i → get_or bytes k 0 ≡ 58 → ⊥) → get_or bytes i 0 ≡ 58 → take i bytes ≡ front
colon_found bytes front behind i none e before here =
    elim (cases_order i (length front)) [
      | inl same ↦ ap (take i) e ∙ take_at front (58 ∷ behind) i (sym same)
      | inr other ↦ elim other [
        | inl early ↦ absurd (none i early (sym (ap (λ xs. get_or xs i 0) e ∙ get_or_append_left front (58 ∷ behind) 0 i early) ∙ here))
        | inr late ↦ absurd (before (length front) late (ap (λ xs. get_or xs (length front) 0) e ∙ colon_there front behind))
      ]
    ]

pub colon_missed : (bytes front behind : List ℕ) → bytes ≡ front ++ (58 ∷ behind) → ((k : ℕ) → k < length bytes → get_or bytes k 0 ≡ 58 → ⊥) → ⊥
colon_missed bytes front behind e none =
    let long : length bytes ≡ length front + suc (length behind) = ap length e ∙ length-append front (58 ∷ behind) in
    none (length front) (omega arith) (ap (λ xs. get_or xs (length front) 0) e ∙ colon_there front behind)

-- the bytes before the colon
pub number_before : (bounds number : List ℕ) (lower : ℤ) (count : ℕ) → FitsSigned w32 lower → bounds ≡ explicit_bounds lower count → ((front behind : List ℕ) → HasNoColon front → take (length bounds - 1) (drop 1 bounds) ≡ front ++ (58 ∷ behind) → number ≡ front) → number ≡ signed_decimal lower
number_before bounds number lower count f e first =
    first (signed_decimal lower) (signed_decimal (last_of lower count) ++ codes "]=") (no_colon_int4 lower f) (take_rest bounds 1 ∙ ap (drop 1) (e ∙ explicit_behind lower count))

int4_mag : (z : ℤ) → FitsSigned w32 z → mag z < 2 ^ 63
int4_mag z h = omega (arith, h.sfits)

pub number_is_text : (number : List ℕ) (lower : ℤ) → FitsSigned w32 lower → number ≡ signed_decimal lower → IsUtf8 number
number_is_text number lower f e = subst IsUtf8 (sym e) (IsUtf8-from_ascii (signed_decimal lower) (IsAscii-signed lower (int4_mag lower f)))

pub number_value : (text number : List ℕ) (lower : ℤ) → FitsSigned w32 lower → text ≡ number → number ≡ signed_decimal lower → signed_digits_value 10 text ≡ lower
number_value text number lower f t e = ap (signed_digits_value 10) (t ∙ e) ∙ sym ((number_spelled lower f).2)

pub number_good : (text number : List ℕ) (lower : ℤ) → FitsSigned w32 lower → text ≡ number → number ≡ signed_decimal lower → IsNumeral 10 (without_leading_sign text) × FitsSigned w32 (signed_digits_value 10 text)
number_good text number lower f t e =
    let s = number_spelled lower f in
    (subst (λ xs. IsNumeral 10 (without_leading_sign xs)) (sym (t ∙ e)) s.0, subst (FitsSigned w32) (sym (number_value text number lower f t e)) f)
