-- The walk over the versions of a key from the newest back, to what a view finds and to who has the key open.
use Rattle.std.proofs.Common.{ℕ, ◌+◌, ◌-◌, ◌<◌, ◌≤◌, ◌≡◌, min, Bool, true, false, List, [], ◌∷◌, ◌++◌, length, take, Option, Some, None, refl, ap, sym, subst, ◌∙◌, arith, append-nil}
use Rattle.std.specs.Prelude.{◌==◌, if◌then◌else◌, slice_index_or}
use Rattle.std.proofs.lemmas.Bool.{false≢true}
use Rattle.std.proofs.lemmas.List.{take_more, map-append}
use Rattle.lo_model.specs.declared.owner.Owner.{Owner}
use Rattle.lo_model.specs.declared.owner.Owner.TheVariants.{Running, Committed}
use Rattle.lo_model.specs.Edit.{Edit}
use Rattle.lo_model.specs.Touch.{lower_of, other_session}
use Rattle.lo_model.specs.View.{sees, view}
use Rattle.xact_core.specs.declared.snapshot.Snapshot.{Snapshot}
use Rattle.xact_core.specs.Stamp.{made_at, owner_of, sees_made, sees_stamp}
use Rattle.xact_core.specs.Transactions.{Transactions}
use Rattle.row_versions.specs.declared.chain.Entry.{Entry}
use Rattle.row_versions.specs.Chain.{version_of, versions_of}
use Rattle.row_versions.specs.Found.{given, content_of, finds}
use Rattle.row_versions.specs.Stack.{Each, Pairwise, Follows, IsOver, IsStack}
use Rattle.row_versions.specs.Stands.{Version, edit_of, standing, replaces, lowest_other}
use Rattle.row_versions.proofs.Chaining.{at_same}
use Rattle.row_versions.proofs.Laws.{after_seen, after_unseen, standing_append, standing_end}

-- the versions up to an entry are those before it and its own
pub versions_next : {D : Type 0} (es : List (Entry D)) (i : ℕ) (e : Entry D) → 0 < i → i ≤ length es → e ≡ slice_index_or es (i - 1) e → versions_of (take i es) ≡ versions_of (take (i - 1) es) ++ version_of e ∷ []
versions_next {D} es i e some within is =
    let next : i - 1 + 1 ≡ i = omega arith in
    let more : take (i - 1 + 1) es ≡ take (i - 1) es ++ slice_index_or es (i - 1) e ∷ [] = take_more es (i - 1) e (omega arith) in
    let here : take i es ≡ take (i - 1) es ++ e ∷ [] = subst (λ (n : ℕ). take n es ≡ take (i - 1) es ++ slice_index_or es (i - 1) e ∷ []) next more ∙ ap (λ (f : Entry D). take (i - 1) es ++ f ∷ []) (sym is) in
    ap versions_of here ∙ map-append version_of (take (i - 1) es) (e ∷ [])

-- What a view finds

finds_unseen : {D : Type 0} (x : Transactions) (v : Snapshot) (vs : List (Version (Option D))) (w : Version (Option D)) → sees_stamp x v w.stamp ≡ false → finds x v (vs ++ w ∷ []) ≡ finds x v vs
finds_unseen {D} x v vs w unseen = by_owner (owner_of x w.stamp) refl unseen
  where
    by_owner : (o : Option Owner) → owner_of x w.stamp ≡ o → sees_made v (made_at w.stamp) o ≡ false → finds x v (vs ++ w ∷ []) ≡ finds x v vs
    by_owner None is hidden = ap (λ (es : List (Edit (Option D))). content_of (view v.clock v.viewer es)) (standing_append x vs (w ∷ []) ∙ rw is (append-nil (standing x vs)))
    by_owner (Some p) is hidden = ap (λ (es : List (Edit (Option D))). content_of (view v.clock v.viewer es)) (standing_end x w p is vs) ∙ after_unseen (replaces given) None v (standing x vs) (edit_of w p) hidden

finds_seen : {D : Type 0} (x : Transactions) (v : Snapshot) (vs : List (Version (Option D))) (w : Version (Option D)) → sees_stamp x v w.stamp ≡ true → finds x v (vs ++ w ∷ []) ≡ w.deed
finds_seen {D} x v vs w seen = by_owner (owner_of x w.stamp) refl seen
  where
    by_owner : (o : Option Owner) → owner_of x w.stamp ≡ o → sees_made v (made_at w.stamp) o ≡ true → finds x v (vs ++ w ∷ []) ≡ w.deed
    by_owner None is here = absurd (false≢true here)
    by_owner (Some p) is here = ap (λ (es : List (Edit (Option D))). content_of (view v.clock v.viewer es)) (standing_end x w p is vs) ∙ after_seen (replaces given) None v (standing x vs) (edit_of w p) here

pub find_next : {D : Type 0} (x : Transactions) (v : Snapshot) (es : List (Entry D)) (i : ℕ) (e : Entry D) → 0 < i → i ≤ length es → e ≡ slice_index_or es (i - 1) e → sees_stamp x v (slice_index_or es (i - 1) e).stamp ≡ false → finds x v (versions_of (take i es)) ≡ finds x v (versions_of es) → finds x v (versions_of (take (i - 1) es)) ≡ finds x v (versions_of es)
find_next {D} x v es i e some within is unseen so_far = sym (finds_unseen x v (versions_of (take (i - 1) es)) (version_of e) (ap (λ (f : Entry D). sees_stamp x v f.stamp) is ∙ unseen)) ∙ (ap (finds x v) (sym (versions_next es i e some within is)) ∙ so_far)

entry_here : {D : Type 0} (x : Transactions) (v : Snapshot) (es : List (Entry D)) (i : ℕ) (e : Entry D) → 0 < i → i ≤ length es → e ≡ slice_index_or es (i - 1) e → sees_stamp x v e.stamp ≡ true → finds x v (versions_of (take i es)) ≡ finds x v (versions_of es) → e.content ≡ finds x v (versions_of es)
entry_here x v es i e some within is seen so_far = sym (finds_seen x v (versions_of (take (i - 1) es)) (version_of e) seen) ∙ (ap (finds x v) (sym (versions_next es i e some within is)) ∙ so_far)

pub find_here : {D : Type 0} (x : Transactions) (v : Snapshot) (es : List (Entry D)) (i : ℕ) (e f : Entry D) → 0 < i → i ≤ length es → e ≡ slice_index_or es (i - 1) e → sees_stamp x v (slice_index_or es (i - 1) e).stamp ≡ true → finds x v (versions_of (take i es)) ≡ finds x v (versions_of es) → (slice_index_or es (i - 1) f).content ≡ finds x v (versions_of es)
find_here {D} x v es i e f some within is sees so_far = ap (λ (h : Entry D). h.content) (at_same es (i - 1) f e (omega arith) ∙ sym is) ∙ entry_here x v es i e some within is (ap (λ (h : Entry D). sees_stamp x v h.stamp) is ∙ sees) so_far

-- Who has the key open

pub busy_next : {D : Type 0} (x : Transactions) (es : List (Entry D)) (i : ℕ) (e : Entry D) → 0 < i → i ≤ length es → e ≡ slice_index_or es (i - 1) e → owner_of x (slice_index_or es (i - 1) e).stamp ≡ None → standing x (versions_of (take i es)) ≡ standing x (versions_of es) → standing x (versions_of (take (i - 1) es)) ≡ standing x (versions_of es)
busy_next {D} x es i e some within is gone so_far =
    let parts : standing x (versions_of (take (i - 1) es) ++ version_of e ∷ []) ≡ standing x (versions_of (take (i - 1) es)) ++ standing x (version_of e ∷ []) = standing_append x (versions_of (take (i - 1) es)) (version_of e ∷ []) in
    let none : standing x (version_of e ∷ []) ≡ [] = rw (ap (λ (f : Entry D). owner_of x f.stamp) is ∙ gone) refl in
    sym (append-nil (standing x (versions_of (take (i - 1) es)))) ∙ (ap (λ us. standing x (versions_of (take (i - 1) es)) ++ us) (sym none) ∙ (sym parts ∙ (ap (standing x) (sym (versions_next es i e some within is)) ∙ so_far)))

-- an edit under the last one of a stack has no other session than that one
lower_last : {D : Type 0} (s : ℕ) (e f : Edit D) → IsOver e f → lower_of (other_session s e.owner) (other_session s f.owner) ≡ other_session s f.owner
lower_last s e f over = by_owners e.owner f.owner over
  where
    itself : (t : ℕ) → min t t ≡ t
    itself t = omega arith

    by_test : (b : Bool) (t : ℕ) → lower_of (if b then None else Some t) (if b then None else Some t) ≡ (if b then None else Some t)
    by_test true t = refl
    by_test false t = ap (λ (n : ℕ). Some n) (itself t)

    by_owners : (v w : Owner) → Follows e.clock v f.clock w → lower_of (other_session s v) (other_session s w) ≡ other_session s w
    by_owners (Committed a) w h = refl
    by_owners (Running t l) (Committed b) h = absurd h
    by_owners (Running t l) (Running u m) h = subst (λ (n : ℕ). lower_of (other_session s (Running t l)) (other_session s (Running n m)) ≡ other_session s (Running n m)) h.0 (by_test (t == s) t)

lowest_last : {D : Type 0} (s : ℕ) (es : List (Edit D)) (e : Edit D) → Pairwise IsOver (es ++ e ∷ []) → lowest_other s (es ++ e ∷ []) ≡ other_session s e.owner
lowest_last s [] e order = by_none (other_session s e.owner)
  where
    by_none : (o : Option ℕ) → lower_of o None ≡ o
    by_none None = refl
    by_none (Some t) = refl
lowest_last {D} s (f ∷ fs) e order = ap (lower_of (other_session s f.owner)) (lowest_last s fs e order.1) ∙ lower_last s f e (each_last fs order.0)
  where
    each_last : (gs : List (Edit D)) → Each (IsOver f) (gs ++ e ∷ []) → IsOver f e
    each_last [] h = h.0
    each_last (g ∷ gs) h = each_last gs h.1

pub busy_here : {D : Type 0} (x : Transactions) (s : ℕ) (es : List (Entry D)) (i : ℕ) (e : Entry D) (w : Owner) → 0 < i → i ≤ length es → e ≡ slice_index_or es (i - 1) e → owner_of x (slice_index_or es (i - 1) e).stamp ≡ Some w → standing x (versions_of (take i es)) ≡ standing x (versions_of es) → IsStack x (standing x (versions_of es)) → other_session s w ≡ lowest_other s (standing x (versions_of es))
busy_here {D} x s es i e w some within is owner so_far stack =
    let front : List (Edit (Option D)) = standing x (versions_of (take (i - 1) es)) in
    let all : standing x (versions_of es) ≡ front ++ edit_of (version_of e) w ∷ [] = sym so_far ∙ (ap (standing x) (versions_next es i e some within is) ∙ standing_end x (version_of e) w (ap (λ (f : Entry D). owner_of x f.stamp) is ∙ owner) (versions_of (take (i - 1) es))) in
    sym (ap (lowest_other s) all ∙ lowest_last s front (edit_of (version_of e) w) (subst (Pairwise IsOver) all stack.order))

pub walked_all : {X : Type 0} (xs : List X) (i : ℕ) → i ≤ 0 → take i xs ≡ []
walked_all xs i end = let none : i ≡ 0 = omega arith in rw none refl
