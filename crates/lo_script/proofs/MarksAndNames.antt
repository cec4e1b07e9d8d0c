-- Marks, names and keywords: which tokens spell them.
use Rattle.std.proofs.Common.{◌≡◌, ℕ, zero, suc, ◌+◌, ◌≤◌, ◌<◌, List, [], ◌∷◌, Some, None, refl, inl, inr, arith}
use Rattle.std.specs.Prelude.{Bool, ◌&&◌, bytes_eq, nat_le, length, Decides}
use Rattle.std.specs.List.{find, list_all, range_with_len}
use Rattle.std.proofs.lemmas.Bool.Decides.{nat_tests, Decides-and}
use Rattle.std.proofs.lemmas.List.Sums.{AllPass-from_list_all, list_all-from_AllPass}
use Rattle.std.proofs.lemmas.Slice.Eq.{bytes_eq-Decides}
use Rattle.lo_base.specs.Name.{IsName, starts_name, continues_name}
use Rattle.lo_script.specs.Token.{is_name, name_of, keyword_of, mark_of, session_of}
use Rattle.lo_script.proofs.DecimalsAndBytes.{tested, some_injective}

-- the first of some numbers that passes a test is one of them
first_in : (test : ℕ → Bool) (a n s : ℕ) → find test (range_with_len a n) ≡ Some s → (a ≤ s) × (s < a + n)
first_in test a zero s h = cc h
first_in test a (suc n) s h = elim (tested (test a)) [
  | inl here ↦
      let is : a ≡ s = some_injective a s (rw here at h) in
      (omega (arith, is), omega (arith, is))
  | inr other ↦
      let more = first_in test (a + 1) n s (rw other at h) in
      (omega (arith, more.0), omega (arith, more.1))
]

-- the session of a mark is one of sixteen
pub session-some : (token : List ℕ) (s : ℕ) → session_of token ≡ Some s → (1 ≤ s) × (s ≤ 16)
session-some token s h =
    let found = first_in (λ session. bytes_eq token (mark_of session)) 1 16 s h in
    (found.0, omega (arith, found.1))

-- the test of a name
is_at_most : (m n : ℕ) → Decides (nat_le m n) (m ≤ n)
is_at_most m n = (λ e. grind (arith, nat_tests), λ h. grind (arith, nat_tests))

is_name-Decides : (token : List ℕ) → Decides (is_name token) (IsName token)
is_name-Decides [] = (λ e. cc e, λ h. absurd h)
is_name-Decides (first ∷ others) =
    let begins = Decides-and (starts_name first) (list_all continues_name others) (λ e. e, λ e. e) (AllPass-from_list_all continues_name others, list_all-from_AllPass continues_name others) in
    let whole = Decides-and (starts_name first && list_all continues_name others) (nat_le (length others) 62) begins (is_at_most (length others) 62) in
    (λ e. let h = whole.0 e in (h.0.0, h.0.1, h.1), λ h. whole.1 ((h.0, h.1), h.2))

pub spelled_name : (name : List ℕ) → IsName name → name_of name ≡ Some name
spelled_name name h = rw ((is_name-Decides name).1 h) refl

pub no_name : (token : List ℕ) → ¬ IsName token → name_of token ≡ None
no_name token h = elim (tested (is_name token)) [
  | inl named ↦ absurd (h ((is_name-Decides token).0 named))
  | inr other ↦ rw other refl
]

-- a token that spells a name is that name
pub record PrintsName (token name : List ℕ) : Type 0 where
  pub is : token ≡ name
  pub named : IsName name

pub name_of-prints : (token name : List ℕ) → name_of token ≡ Some name → PrintsName token name
name_of-prints token name h = elim (tested (is_name token)) [
  | inl named ↦
      let is : token ≡ name = some_injective token name (rw named at h) in
      record { is = is; named = rw (← is) ((is_name-Decides token).0 named) }
  | inr other ↦ let none = rw other at h in cc none
]

pub keyword_of-is : (word token : List ℕ) (u : Unit {0}) → keyword_of word token ≡ Some u → token ≡ word
keyword_of-is word token u h = elim (tested (bytes_eq token word)) [
  | inl same ↦ (bytes_eq-Decides token word).0 same
  | inr other ↦ let none = rw other at h in cc none
]
