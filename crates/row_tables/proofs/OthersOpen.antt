-- The lowest other session with a transaction, looked for from a number on.
use Rattle.std.proofs.Common.{◌≡◌, ◌<◌, ◌≤◌, ℕ, suc, ◌+◌, ◌-◌, Bool, true, false, cond, List, [], ◌∷◌, length, Option, Some, None, refl, ap, sym, ◌∙◌, arith}
use Rattle.std.specs.Prelude.{not, ◌&&◌, ◌==◌}
use Rattle.std.specs.List.{find, range_with_len}
use Rattle.std.proofs.lemmas.Bool.{false≢true}
use Rattle.lo_model.specs.Transaction.{has_levels}
use Rattle.xact_core.specs.Transactions.{Transactions, levels_of}

abbrev pub is_other_open : Transactions → (session : ℕ) → ℕ → Bool
is_other_open x s t = not (t == s) && has_levels (levels_of x t)

-- the lowest of so many sessions from one on
abbrev pub open_among : Transactions → (session : ℕ) → (first count : ℕ) → Option ℕ
open_among x s n count = find (λ t. not (t == s) && has_levels (levels_of x t)) (range_with_len n count)

abbrev pub open_from : Transactions → (session : ℕ) → (first : ℕ) → Option ℕ
open_from x s n = open_among x s n (17 - n)

step_from : (x : Transactions) (s n : ℕ) → n ≤ 16 → open_from x s n ≡ cond (is_other_open x s n) (Some n) (open_from x s (n + 1))
step_from x s n few =
    let one : 17 - n ≡ suc (16 - n) = omega arith in
    let rest : 16 - n ≡ 17 - (n + 1) = omega arith in
    ap (open_among x s n) one ∙ ap (λ (count : ℕ). cond (is_other_open x s n) (Some n) (open_among x s (n + 1) count)) rest

pub open_here : (x : Transactions) (s n : ℕ) → n ≤ 16 → is_other_open x s n ≡ true → open_from x s n ≡ Some n
open_here x s n few is = step_from x s n few ∙ ap (λ b. cond b (Some n) (open_from x s (n + 1))) is

pub open_next : (x : Transactions) (s n : ℕ) → n ≤ 16 → is_other_open x s n ≡ false → open_from x s (n + 1) ≡ open_from x s n
open_next x s n few is = sym (step_from x s n few ∙ ap (λ b. cond b (Some n) (open_from x s (n + 1))) is)

pub open_past : (x : Transactions) (s n : ℕ) → 16 < n → open_from x s n ≡ None
open_past x s n past = let none : 17 - n ≡ 0 = omega arith in ap (open_among x s n) none

-- a session has levels where it has some number of them

pub some_levels : (levels : List (Option (List ℕ))) → 0 < length levels → has_levels levels ≡ true
some_levels [] some = absurd (omega arith)
some_levels (l ∷ ls) some = refl

pub no_levels : (levels : List (Option (List ℕ))) → length levels ≤ 0 → has_levels levels ≡ false
no_levels [] none = refl
no_levels (l ∷ ls) none = absurd (omega arith)

pub both_hold : (a b : Bool) → a ≡ true → b ≡ true → (a && b) ≡ true
both_hold true true p q = refl
both_hold true false p q = q
both_hold false b p q = p

pub one_fails : (a b : Bool) → b ≡ false → (a && b) ≡ false
one_fails true b is = is
one_fails false b is = refl

pub first_fails : (a b : Bool) → a ≡ false → (a && b) ≡ false
first_fails true b is = absurd (false≢true (sym is))
first_fails false b is = refl
