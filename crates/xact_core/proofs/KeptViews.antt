-- Which views are kept, by the ways in which they are.
use Rattle.std.proofs.Common.{ℕ, zero, suc, ◌+◌, ◌<◌, ◌≤◌, ◌≡◌, ◌≢◌, ◌⊎◌, inl, inr, List, [], ◌∷◌, ◌++◌, length, Option, refl, ap, sym, subst, ◌∙◌, arith, get_or}
use Rattle.std.specs.Prelude.{slice_index_or, Contains}
use Rattle.std.proofs.lemmas.Bool.{cases_eq}
use Rattle.std.proofs.lemmas.List.Elements.{Contains-append_left, Contains-append_right, Contains-append_cases, Contains-push, Contains-push_cases}
use Rattle.lo_model.specs.declared.viewer.Viewer.TheVariants.{Whole, Below}
use Rattle.xact_core.specs.declared.snapshot.Snapshot.{Snapshot}
use Rattle.xact_core.specs.Kept.{view_at, current, current_committed, current_below, below_views, session_views, sessions_views, kept_views, KeptBy, ByNobody, ByWhole, ByBelow, ByHold}
use Rattle.xact_core.specs.Transactions.{Transactions, levels_of}

abbrev Names : Type 0
Names = List (Option (List ℕ))

pub cons_cases : {X : Type 0} (head x : X) (rest : List X) → Contains (head ∷ rest) x → (head ≡ x) ⊎ Contains rest x
cons_cases {X} head x rest p = by_index p.0 p.1 p.2
  where
    by_index : (k : ℕ) → k < suc (length rest) → get_or (head ∷ rest) k x ≡ x → (head ≡ x) ⊎ Contains rest x
    by_index zero within found = inl found
    by_index (suc k) within found = inr (k, omega arith, found)

pub cons_rest : {X : Type 0} (head x : X) (rest : List X) → Contains rest x → Contains (head ∷ rest) x
cons_rest head x rest p = (suc p.0, omega (arith, p.1), p.2)

pub cons_first : {X : Type 0} (x : X) (rest : List X) → Contains (x ∷ rest) x
cons_first x rest = (0, omega arith, refl)

pub nil_none : {X : Type 0} (x : X) → Contains {X = X} [] x → ⊥
nil_none x p = omega (arith, p.1)

-- views below levels

pub record IsBelowOne (clock s n : ℕ) (v : Snapshot) : Type 0 where
  pub level : ℕ
  pub low : 1 ≤ level
  pub high : level ≤ n
  pub is : v ≡ view_at clock (Below s level)

below_is : (clock s n : ℕ) (v : Snapshot) → Contains (below_views clock s n) v → IsBelowOne clock s n v
below_is clock s zero v here = absurd (nil_none v here)
below_is clock s (suc n) v here = by_end (Contains-push_cases (below_views clock s n) (view_at clock (Below s (suc n))) v here) (below_is clock s n v)
  where
    by_end : Contains (below_views clock s n) v ⊎ (view_at clock (Below s (suc n)) ≡ v) → (Contains (below_views clock s n) v → IsBelowOne clock s n v) → IsBelowOne clock s (suc n) v
    by_end (inl before) left = let found : IsBelowOne clock s n v = left before in record { level = found.level; low = found.low; high = omega (arith, found.high); is = found.is }
    by_end (inr last) left = record { level = suc n; low = omega arith; high = omega arith; is = sym last }

below_there : (clock s n l : ℕ) → 1 ≤ l → l ≤ n → Contains (below_views clock s n) (view_at clock (Below s l))
below_there clock s zero l low high = absurd (omega arith)
below_there clock s (suc n) l low high = by_last (cases_eq l (suc n)) (below_there clock s n l low)
  where
    by_last : (l ≡ suc n) ⊎ (l ≡ suc n → ⊥) → (l ≤ n → Contains (below_views clock s n) (view_at clock (Below s l))) → Contains (below_views clock s (suc n)) (view_at clock (Below s l))
    by_last (inl last) left = subst (λ (k : ℕ). Contains (below_views clock s (suc n)) (view_at clock (Below s k))) (sym last) (Contains-push (below_views clock s n) (view_at clock (Below s (suc n))))
    by_last (inr before) left = Contains-append_left (below_views clock s n) (view_at clock (Below s (suc n)) ∷ []) _ (left (let apart : l ≢ suc n = before in omega (arith, apart)))

-- views of the sessions from one on

pub data OfSession (clock first : ℕ) (levels : List Names) (v : Snapshot) : Type 0 where
  OfWhole : (i : ℕ) → 0 < length (slice_index_or levels i []) → v ≡ view_at clock (Whole (first + i)) → OfSession clock first levels v
  OfBelow : (i l : ℕ) → 1 ≤ l → l ≤ length (slice_index_or levels i []) → v ≡ view_at clock (Below (first + i) l) → OfSession clock first levels v

later_session : (clock first : ℕ) (names : Names) (rest : List Names) (v : Snapshot) → OfSession clock (first + 1) rest v → OfSession clock first (names ∷ rest) v
later_session clock first names rest v (OfWhole i some is) = OfWhole (suc i) some (let number : first + 1 + i ≡ first + suc i = omega arith in subst (λ (n : ℕ). v ≡ view_at clock (Whole n)) number is)
later_session clock first names rest v (OfBelow i l low high is) = OfBelow (suc i) l low high (let number : first + 1 + i ≡ first + suc i = omega arith in subst (λ (n : ℕ). v ≡ view_at clock (Below n l)) number is)

first_session : (clock first : ℕ) (names : Names) (rest : List Names) (v : Snapshot) → Contains (session_views clock first names) v → OfSession clock first (names ∷ rest) v
first_session clock first [] rest v here = absurd (nil_none v here)
first_session clock first (name ∷ names) rest v here = by_case (cons_cases (view_at clock (Whole first)) v (below_views clock first (length (name ∷ names))) here)
  where
    itself : first ≡ first + 0
    itself = omega arith

    by_case : (view_at clock (Whole first) ≡ v) ⊎ Contains (below_views clock first (length (name ∷ names))) v → OfSession clock first ((name ∷ names) ∷ rest) v
    by_case (inl whole) = OfWhole 0 (omega arith) (sym whole ∙ ap (λ (n : ℕ). view_at clock (Whole n)) itself)
    by_case (inr below) = let found : IsBelowOne clock first (length (name ∷ names)) v = below_is clock first (length (name ∷ names)) v below in OfBelow 0 found.level found.low found.high (found.is ∙ ap (λ (n : ℕ). view_at clock (Below n found.level)) itself)

session_is : (clock first : ℕ) (levels : List Names) (v : Snapshot) → Contains (sessions_views clock first levels) v → OfSession clock first levels v
session_is clock first [] v here = absurd (nil_none v here)
session_is clock first (names ∷ rest) v here = by_case (Contains-append_cases (session_views clock first names) (sessions_views clock (first + 1) rest) v here) (session_is clock (first + 1) rest v)
  where
    by_case : Contains (session_views clock first names) v ⊎ Contains (sessions_views clock (first + 1) rest) v → (Contains (sessions_views clock (first + 1) rest) v → OfSession clock (first + 1) rest v) → OfSession clock first (names ∷ rest) v
    by_case (inl own) left = first_session clock first names rest v own
    by_case (inr others) left = later_session clock first names rest v (left others)

whole_one : (clock first i : ℕ) (levels : List Names) → 0 < length (slice_index_or levels i []) → Contains (sessions_views clock first levels) (view_at clock (Whole (first + i)))
whole_one clock first i [] some = absurd (omega arith)
whole_one clock first zero ([] ∷ rest) some = absurd (omega arith)
whole_one clock first zero ((name ∷ names) ∷ rest) some =
    let itself : first ≡ first + 0 = omega arith in
    subst (λ (n : ℕ). Contains (sessions_views clock first ((name ∷ names) ∷ rest)) (view_at clock (Whole n))) itself (Contains-append_left (session_views clock first (name ∷ names)) _ _ (cons_first (view_at clock (Whole first)) _))
whole_one clock first (suc i) (names ∷ rest) some =
    let number : first + 1 + i ≡ first + suc i = omega arith in
    subst (λ (n : ℕ). Contains (sessions_views clock first (names ∷ rest)) (view_at clock (Whole n))) number (Contains-append_right (session_views clock first names) _ _ (whole_one clock (first + 1) i rest some))

below_one : (clock first i l : ℕ) (levels : List Names) → 1 ≤ l → l ≤ length (slice_index_or levels i []) → Contains (sessions_views clock first levels) (view_at clock (Below (first + i) l))
below_one clock first i l [] low high = absurd (omega arith)
below_one clock first zero l ([] ∷ rest) low high = absurd (omega arith)
below_one clock first zero l ((name ∷ names) ∷ rest) low high =
    let itself : first ≡ first + 0 = omega arith in
    subst (λ (n : ℕ). Contains (sessions_views clock first ((name ∷ names) ∷ rest)) (view_at clock (Below n l))) itself (Contains-append_left (session_views clock first (name ∷ names)) _ _ (cons_rest (view_at clock (Whole first)) _ _ (below_there clock first (length (name ∷ names)) l low high)))
below_one clock first (suc i) l (names ∷ rest) low high =
    let number : first + 1 + i ≡ first + suc i = omega arith in
    subst (λ (n : ℕ). Contains (sessions_views clock first (names ∷ rest)) (view_at clock (Below n l))) number (Contains-append_right (session_views clock first names) _ _ (below_one clock (first + 1) i l rest low high))

-- the kept ones

pub kept_is : (x : Transactions) (v : Snapshot) → Contains (kept_views x) v → KeptBy x v
kept_is x v here = by_first (cons_cases (current_committed x) v _ here)
  where
    by_session : OfSession (x.clock + 1) 1 x.levels v → KeptBy x v
    by_session (OfWhole i some is) = ByWhole (suc i) (omega arith) some (let number : 1 + i ≡ suc i = omega arith in subst (λ (n : ℕ). v ≡ current x n) number is)
    by_session (OfBelow i l low high is) = ByBelow (suc i) l (omega arith) low high (let number : 1 + i ≡ suc i = omega arith in subst (λ (n : ℕ). v ≡ current_below x n l) number is)

    by_rest : Contains (sessions_views (x.clock + 1) 1 x.levels) v ⊎ Contains x.held v → KeptBy x v
    by_rest (inl open_one) = by_session (session_is (x.clock + 1) 1 x.levels v open_one)
    by_rest (inr held) = ByHold held

    by_first : (current_committed x ≡ v) ⊎ Contains (sessions_views (x.clock + 1) 1 x.levels ++ x.held) v → KeptBy x v
    by_first (inl is) = ByNobody (sym is)
    by_first (inr rest) = by_rest (Contains-append_cases (sessions_views (x.clock + 1) 1 x.levels) x.held v rest)

open_kept : (x : Transactions) (v : Snapshot) → Contains (sessions_views (x.clock + 1) 1 x.levels) v → Contains (kept_views x) v
open_kept x v here = cons_rest (current_committed x) _ _ (Contains-append_left (sessions_views (x.clock + 1) 1 x.levels) x.held _ here)

pub committed_kept : (x : Transactions) → Contains (kept_views x) (current_committed x)
committed_kept x = cons_first (current_committed x) _

pub whole_kept : (x : Transactions) (s : ℕ) → 0 < length (levels_of x s) → Contains (kept_views x) (current x s)
whole_kept x zero some = absurd (omega arith)
whole_kept x (suc i) some =
    let number : 1 + i ≡ suc i = omega arith in
    open_kept x _ (subst (λ (n : ℕ). Contains (sessions_views (x.clock + 1) 1 x.levels) (current x n)) number (whole_one (x.clock + 1) 1 i x.levels some))

pub below_kept : (x : Transactions) (s l : ℕ) → 1 ≤ l → l ≤ length (levels_of x s) → Contains (kept_views x) (current_below x s l)
below_kept x zero l low high = absurd (omega arith)
below_kept x (suc i) l low high =
    let number : 1 + i ≡ suc i = omega arith in
    open_kept x _ (subst (λ (n : ℕ). Contains (sessions_views (x.clock + 1) 1 x.levels) (current_below x n l)) number (below_one (x.clock + 1) 1 i l x.levels low high))

pub held_kept : (x : Transactions) (v : Snapshot) → Contains x.held v → Contains (kept_views x) v
held_kept x v held = cons_rest (current_committed x) _ _ (Contains-append_right (sessions_views (x.clock + 1) 1 x.levels) x.held v held)

pub is_kept : (x : Transactions) (v : Snapshot) → KeptBy x v → Contains (kept_views x) v
is_kept x v (ByNobody is) = subst (Contains (kept_views x)) (sym is) (committed_kept x)
is_kept x v (ByWhole s low some is) = subst (Contains (kept_views x)) (sym is) (whole_kept x s some)
is_kept x v (ByBelow s l number low high is) = subst (Contains (kept_views x)) (sym is) (below_kept x s l low high)
is_kept x v (ByHold held) = held_kept x v held
