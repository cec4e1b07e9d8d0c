-- The newest level with a name, as it is defined and as the transactions find it.
use Rattle.std.proofs.Common.{◌≡◌, ◌≢◌, ℕ, zero, suc, ◌+◌, ◌-◌, ◌<◌, ◌≤◌, Bool, true, false, List, [], ◌∷◌, length, Option, Some, None, refl, ap, sym, ◌∙◌, arith}
use Rattle.std.specs.Prelude.{slice_get, bytes_eq}
use Rattle.std.proofs.lemmas.Slice.Eq.{bytes_eq-Decides}
use Rattle.std.proofs.lemmas.Option.{same_Some, slice_get_within}
use Rattle.std.specs.Option.{MatchOption, IfSome}
use Rattle.lo_model.specs.Transaction.{is_named, newest_above, newest}
use Rattle.xact_core.specs.Transactions.{HasNo, IsNewest}
use Rattle.lo_machine.specs.Well.{IsFirst}

named_at : (name : List ℕ) (level : Option (List ℕ)) → level ≡ Some name → is_named name level ≡ true
named_at name level is = rw is ((bytes_eq-Decides name name).1 refl)

not_named : (name : List ℕ) (level : Option (List ℕ)) → level ≢ Some name → is_named name level ≡ false
not_named name None other = refl
not_named name (Some own) other = by_test (bytes_eq own name) refl
  where
    by_test : (b : Bool) → bytes_eq own name ≡ b → b ≡ false
    by_test false is = refl
    by_test true is = absurd (other (ap (λ (text : List ℕ). Some text) ((bytes_eq-Decides own name).0 is)))

newest_none : (below : ℕ) (name : List ℕ) (levels : List (Option (List ℕ))) → ((i : ℕ) → slice_get levels i ≢ Some (Some name)) → newest_above below name levels ≡ None
newest_none below name [] none = refl
newest_none below name (level ∷ levels) none =
    rw (newest_none (below + 1) name levels (λ i. none (suc i)), not_named name level (λ is. none 0 (ap (λ (l : Option (List ℕ)). Some l) is))) refl

newest_some : (below k : ℕ) (name : List ℕ) (levels : List (Option (List ℕ))) → slice_get levels k ≡ Some (Some name) → ((i : ℕ) → k < i → slice_get levels i ≢ Some (Some name)) → newest_above below name levels ≡ Some (below + k + 1)
newest_some below k name [] here none = absurd (omega (arith, slice_get_within [] k (Some name) here))
newest_some below zero name (level ∷ levels) here none =
    let one : below + 1 ≡ below + 0 + 1 = omega arith in
    rw (newest_none (below + 1) name levels (λ i. none (suc i) (omega arith)), named_at name level (same_Some level (Some name) here)) (ap (λ (n : ℕ). Some n) one)
newest_some below (suc k) name (level ∷ levels) here none =
    rw (newest_some (below + 1) k name levels here (λ i more. none (suc i) (omega (arith, more)))) (ap (λ (n : ℕ). Some n) (omega arith))

pub newest_found : (name : List ℕ) (levels : List (Option (List ℕ))) (found : Option ℕ) → MatchOption found (HasNo levels name) (IsNewest levels name) → found ≡ newest name levels
newest_found name levels None is = sym (newest_none 0 name levels is.none)
newest_found name levels (Some level) is =
    let count : 0 + (level - 1) + 1 ≡ level = omega (arith, is.positive) in
    sym (newest_some 0 (level - 1) name levels is.named (λ i more. is.none_above i (omega (arith, more))) ∙ ap (λ (n : ℕ). Some n) count)

pub newest_high : (name : List ℕ) (levels : List (Option (List ℕ))) (found : Option ℕ) → MatchOption found (HasNo levels name) (IsNewest levels name) → IfSome found (λ level. level ≤ length levels)
newest_high name levels None is = tt
newest_high name levels (Some level) is = omega (arith, is.positive, slice_get_within levels (level - 1) (Some name) is.named)

-- Where it stands among the levels. Level 1, which has no name, is not it.

within : (below k : ℕ) (name : List ℕ) (levels : List (Option (List ℕ))) → newest_above below name levels ≡ Some k → (below < k) × (k ≤ below + length levels)
within below k name [] is = absurd (let no : None ≡ Some k = is in cc)
within below k name (level ∷ levels) is = by (newest_above (below + 1) name levels) refl (is_named name level) refl (λ j found. within (below + 1) j name levels found)
  where
    by : (above : Option ℕ) → newest_above (below + 1) name levels ≡ above → (here : Bool) → is_named name level ≡ here → ((j : ℕ) → newest_above (below + 1) name levels ≡ Some j → (below + 1 < j) × (j ≤ below + 1 + length levels)) → (below < k) × (k ≤ below + length (level ∷ levels))
    by (Some j) found here named higher =
        let same : j ≡ k = same_Some j k (rw found at is) in
        let bounds = higher j found in
        (omega (arith, bounds.0, same), omega (arith, bounds.1, same))
    by None found true named higher =
        let same : below + 1 ≡ k = same_Some (below + 1) k (rw (found, named) at is) in
        (omega (arith, same), omega (arith, same))
    by None found false named higher = absurd (let no : None ≡ Some k = rw (found, named) at is in cc)

pub newest_bounds : (name : List ℕ) (levels : List (Option (List ℕ))) (k : ℕ) → IsFirst levels → newest name levels ≡ Some k → (2 ≤ k) × (k ≤ length levels)
newest_bounds name [] k first found = absurd (let no : None ≡ Some k = found in cc)
newest_bounds name (level ∷ levels) k first found = by (newest_above 1 name levels) refl
  where
    alone : newest_above 1 name levels ≡ None → None ≡ Some k
    alone none = rw (none, ap (is_named name) first) at found

    by : (above : Option ℕ) → newest_above 1 name levels ≡ above → (2 ≤ k) × (k ≤ length (level ∷ levels))
    by None none = absurd (let no : None ≡ Some k = alone none in cc)
    by (Some j) found' =
        let same : j ≡ k = same_Some j k (rw found' at found) in
        let bounds = within 1 j name levels found' in
        (omega (arith, bounds.0, same), omega (arith, bounds.1, same))
