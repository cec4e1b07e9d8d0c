-- The newest level with a name, looked for from the end.
use Rattle.std.proofs.Common.{ℕ, ◌+◌, ◌-◌, ◌≤◌, ◌≡◌, ◌≢◌, ◌⊎◌, inl, inr, List, length, Option, Some, sym, subst, ◌∙◌, arith}
use Rattle.std.specs.Prelude.{slice_get}
use Rattle.std.proofs.lemmas.Bool.{cases_eq}
use Rattle.std.proofs.lemmas.Option.{none-some, slice_get_past}
use Rattle.xact_core.specs.Transactions.{HasNo, IsNewest}

-- no level from an index on has the name
pub record HasNoFrom (levels : List (Option (List ℕ))) (name : List ℕ) (first : ℕ) : Type 0 where
  pub none : (i : ℕ) → first ≤ i → slice_get levels i ≢ Some (Some name)

pub none_past : (levels : List (Option (List ℕ))) (name : List ℕ) (end : ℕ) → length levels ≤ end → HasNoFrom levels name end
none_past levels name end all = record { none = λ i from is. none-some (Some name) (sym (slice_get_past levels i (omega arith)) ∙ is) }

-- one more level, which has another name or none
pub none_before : (levels : List (Option (List ℕ))) (name : List ℕ) (i : ℕ) → slice_get levels i ≢ Some (Some name) → HasNoFrom levels name (i + 1) → HasNoFrom levels name i
none_before levels name i other later = record { none = λ j from is. by_place j from is (cases_eq i j) }
  where
    by_place : (j : ℕ) → i ≤ j → slice_get levels j ≡ Some (Some name) → (i ≡ j) ⊎ (i ≡ j → ⊥) → ⊥
    by_place j from is (inl here) = other (subst (λ (n : ℕ). slice_get levels n ≡ Some (Some name)) (sym here) is)
    by_place j from is (inr apart) = later.none j (let above : i ≢ j = apart in omega (arith, above)) is

-- one more level, which has the name
pub newest_here : (levels : List (Option (List ℕ))) (name : List ℕ) (i : ℕ) → slice_get levels i ≡ Some (Some name) → HasNoFrom levels name (i + 1) → IsNewest levels name (i + 1)
newest_here levels name i is later = record { positive = omega arith; named = rw back is; none_above = λ j above. later.none j above }
  where
    back : i + 1 - 1 ≡ i
    back = omega arith

pub none_at_all : (levels : List (Option (List ℕ))) (name : List ℕ) → HasNoFrom levels name 0 → HasNo levels name
none_at_all levels name later = record { none = λ i. later.none i (omega arith) }
