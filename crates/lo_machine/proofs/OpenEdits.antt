-- What an end of a session's new level makes of edits that were there before it, and of those that were made in it.
use Rattle.std.proofs.Common.{◌≡◌, ◌≤◌, ◌<◌, ℕ, ◌+◌, ◌-◌, Bool, true, false, List, [], ◌∷◌, ◌++◌, length, refl, ap, subst, ◌∙◌, arith}
use Rattle.std.specs.Prelude.{All, ◌==◌, ◌&&◌, nat_le}
use Rattle.std.proofs.lemmas.Bool.Decides.{nat_tests}
use Rattle.std.proofs.lemmas.List.{map-append}
use Rattle.std.proofs.lemmas.List.Elements.{All-head, All-tail, All-weaker}
use Rattle.lo_model.specs.declared.owner.Owner.{Owner}
use Rattle.lo_model.specs.declared.owner.Owner.TheVariants.{Running, Committed}
use Rattle.lo_model.specs.Edit.{Deed, Edit, edits_by}
use Rattle.lo_model.specs.Levels.{is_from_level, released, released_owner, owned_by, undone, committed, committed_owner}
use Rattle.lo_model.specs.Session.{Session}
use Rattle.lo_model.specs.Transaction.{top_level}
use Rattle.lo_machine.specs.Well.{IsOwner, IsPast}

-- no edit stands at a session's level, or above it
abbrev pub AreBelow : (session level : ℕ) → List (Edit Deed) → Type 0
AreBelow s k ys = All (λ (e : Edit Deed). is_from_level s k e.owner ≡ false) ys

below_one : (now s k : ℕ) (sessions : ℕ → Session) (owner : Owner) → IsOwner now sessions owner → top_level (sessions s).transaction < k → is_from_level s k owner ≡ false
below_one now s k sessions (Running t l) was high = by (t == s) refl
  where
    by : (b : Bool) → (t == s) ≡ b → ((t == s) && nat_le k l) ≡ false
    by false is = rw is refl
    by true is =
        let same : t ≡ s = grind (arith, nat_tests, is) in
        let low : l ≤ top_level (sessions s).transaction = subst (λ (n : ℕ). l ≤ top_level (sessions n).transaction) same was.1 in
        rw is (grind (arith, nat_tests, low, high))
below_one now s k sessions (Committed c) was high = refl

pub all_below : (now s k : ℕ) (sessions : ℕ → Session) (ys : List (Edit Deed)) → All (IsPast now sessions) ys → top_level (sessions s).transaction < k → AreBelow s k ys
all_below now s k sessions ys all high = All-weaker (IsPast now sessions) (λ (e : Edit Deed). is_from_level s k e.owner ≡ false) (λ e past. below_one now s k sessions e.owner past.owner high) ys all

-- a session without a transaction has no open edit
none_one : (now s : ℕ) (sessions : ℕ → Session) (owner : Owner) → IsOwner now sessions owner → (sessions s).transaction.levels ≡ [] → is_from_level s 0 owner ≡ false
none_one now s sessions (Running t l) was none = by (t == s) refl
  where
    by : (b : Bool) → (t == s) ≡ b → ((t == s) && nat_le 0 l) ≡ false
    by false is = rw is refl
    by true is =
        let same : t ≡ s = grind (arith, nat_tests, is) in
        let low : l ≤ top_level (sessions s).transaction = subst (λ (n : ℕ). l ≤ top_level (sessions n).transaction) same was.1 in
        let zero' : top_level (sessions s).transaction ≡ 0 = ap length none in
        absurd (omega (arith, low, zero', was.0))
none_one now s sessions (Committed c) was none = refl

pub all_none : (now s : ℕ) (sessions : ℕ → Session) (ys : List (Edit Deed)) → All (IsPast now sessions) ys → (sessions s).transaction.levels ≡ [] → AreBelow s 0 ys
all_none now s sessions ys all none = All-weaker (IsPast now sessions) (λ (e : Edit Deed). is_from_level s 0 e.owner ≡ false) (λ e past. none_one now s sessions e.owner past.owner none) ys all

-- what was there stays

pub released_below : (s k : ℕ) (ys : List (Edit Deed)) → AreBelow s k ys → released s k ys ≡ ys
released_below s k [] all = refl
released_below s k (e ∷ ys) all =
    let here : is_from_level s k e.owner ≡ false = All-head (λ (f : Edit Deed). is_from_level s k f.owner ≡ false) e ys all in
    rw here (ap (λ (rest : List (Edit Deed)). e ∷ rest) (released_below s k ys (All-tail (λ (f : Edit Deed). is_from_level s k f.owner ≡ false) e ys all)))

pub undone_below : (s k : ℕ) (ys : List (Edit Deed)) → AreBelow s k ys → undone s k ys ≡ ys
undone_below s k [] all = refl
undone_below s k (e ∷ ys) all =
    let here : is_from_level s k e.owner ≡ false = All-head (λ (f : Edit Deed). is_from_level s k f.owner ≡ false) e ys all in
    rw here (ap (λ (rest : List (Edit Deed)). e ∷ rest) (undone_below s k ys (All-tail (λ (f : Edit Deed). is_from_level s k f.owner ≡ false) e ys all)))

pub committed_none : (s clock : ℕ) (ys : List (Edit Deed)) → AreBelow s 0 ys → committed s clock ys ≡ ys
committed_none s clock [] all = refl
committed_none s clock (e ∷ ys) all =
    let here : is_from_level s 0 e.owner ≡ false = All-head (λ (f : Edit Deed). is_from_level s 0 f.owner ≡ false) e ys all in
    rw here (ap (λ (rest : List (Edit Deed)). e ∷ rest) (committed_none s clock ys (All-tail (λ (f : Edit Deed). is_from_level s 0 f.owner ≡ false) e ys all)))

-- what was made there is passed on

own_level : (s k l : ℕ) → k ≤ l → ((s == s) && nat_le k l) ≡ true
own_level s k l low = grind (arith, nat_tests, low)

pub committed_made : (s clock made level : ℕ) (deeds : List Deed) → committed s clock (edits_by made (Running s level) deeds) ≡ edits_by made (Committed clock) deeds
committed_made s clock made level [] = refl
committed_made s clock made level (d ∷ deeds) = rw (own_level s 0 level (omega arith)) (ap (λ (rest : List (Edit Deed)). record { clock = made; owner = Committed clock; deed = d } ∷ rest) (committed_made s clock made level deeds))

pub released_made : (s level made : ℕ) (deeds : List Deed) → released s (level + 1) (edits_by made (Running s (level + 1)) deeds) ≡ edits_by made (Running s level) deeds
released_made s level made [] = refl
released_made s level made (d ∷ deeds) =
    let less : level + 1 - 1 ≡ level = omega arith in
    rw (own_level s (level + 1) (level + 1) (omega arith), less) (ap (λ (rest : List (Edit Deed)). record { clock = made; owner = Running s level; deed = d } ∷ rest) (released_made s level made deeds))

-- both together

pub committed_both : (s clock made level : ℕ) (ys : List (Edit Deed)) (deeds : List Deed) → AreBelow s 0 ys → committed s clock (ys ++ edits_by made (Running s level) deeds) ≡ ys ++ edits_by made (Committed clock) deeds
committed_both s clock made level ys deeds below =
    map-append (owned_by (committed_owner s clock)) ys (edits_by made (Running s level) deeds)
    ∙ rw (committed_none s clock ys below, committed_made s clock made level deeds) refl

pub released_both : (s level made : ℕ) (ys : List (Edit Deed)) (deeds : List Deed) → AreBelow s (level + 1) ys → released s (level + 1) (ys ++ edits_by made (Running s (level + 1)) deeds) ≡ ys ++ edits_by made (Running s level) deeds
released_both s level made ys deeds below =
    map-append (owned_by (released_owner s (level + 1))) ys (edits_by made (Running s (level + 1)) deeds)
    ∙ rw (released_below s (level + 1) ys below, released_made s level made deeds) refl
