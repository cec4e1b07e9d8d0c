-- The stack of one place is kept.
use Rattle.std.proofs.Common.{ℕ, ◌+◌, ◌-◌, ◌<◌, ◌≤◌, ◌≡◌, ◌≢◌, ◌⊎◌, inl, inr, Bool, true, false, List, [], ◌∷◌, ◌++◌, length, take, Option, Some, None, refl, ap, sym, subst, ◌∙◌, arith}
use Rattle.std.specs.Prelude.{if◌then◌else◌}
use Rattle.std.proofs.lemmas.Bool.{false≢true, cases_eq}
use Rattle.std.proofs.lemmas.Bool.Decides.{nat_tests}
use Rattle.std.proofs.lemmas.List.{length-take, length-append}
use Rattle.lo_model.specs.declared.owner.Owner.{Owner}
use Rattle.lo_model.specs.declared.owner.Owner.TheVariants.{Running, Committed}
use Rattle.lo_model.specs.Edit.{Edit}
use Rattle.lo_model.specs.Levels.{is_from_level, released_owner, committed_owner}
use Rattle.xact_core.specs.Ends.{same, release, undo, commit_at}
use Rattle.xact_core.specs.Transactions.{Transactions, levels_of, HasLevels}
use Rattle.row_versions.specs.Stack.{Each, Pairwise, Follows, IsOver, IsOwner, IsMade, IsStack, owned, left_of, turned, IsOwnerIf, FollowsIf, KeepsStacks, IsFreeFor}

-- lists

pub each_more : {X : Type 0} (P Q : X → Type 0) → ((x : X) → P x → Q x) → (xs : List X) → Each P xs → Each Q xs
each_more P Q more [] h = tt
each_more P Q more (x ∷ xs) h = (more x h.0, each_more P Q more xs h.1)

pub each_both : {X : Type 0} (P Q R : X → Type 0) → ((x : X) → P x → Q x → R x) → (xs : List X) → Each P xs → Each Q xs → Each R xs
each_both P Q R both [] g h = tt
each_both P Q R both (x ∷ xs) g h = (both x g.0 h.0, each_both P Q R both xs g.1 h.1)

pub each_all : {X : Type 0} (P : X → Type 0) → ((x : X) → P x) → (xs : List X) → Each P xs
each_all P all [] = tt
each_all P all (x ∷ xs) = (all x, each_all P all xs)

pub each_end : {X : Type 0} (P : X → Type 0) → (xs : List X) (x : X) → Each P xs → P x → Each P (xs ++ x ∷ [])
each_end P [] x h p = (p, tt)
each_end P (y ∷ ys) x h p = (h.0, each_end P ys x h.1 p)

pub pairwise_end : {X : Type 0} (R : X → X → Type 0) → (xs : List X) (x : X) → Pairwise R xs → Each (λ y. R y x) xs → Pairwise R (xs ++ x ∷ [])
pairwise_end R [] x h last = (tt, tt)
pairwise_end R (y ∷ ys) x h last = (each_end (R y) ys x h.0 last.0, pairwise_end R ys x h.1 last.1)

-- an end that keeps stacks

each_turned : {D : Type 0} (turn : Owner → Option Owner) (old new : Transactions) → KeepsStacks turn old new → (es : List (Edit D)) → Each (IsMade old) es → Each (IsMade new) (turned turn es)
each_turned turn old new keeps [] made = tt
each_turned turn old new keeps (e ∷ es) made = by_turn (turn e.owner) refl (keeps.owner e.clock e.owner made.0.past made.0.owner) (each_turned turn old new keeps es made.1)
  where
    by_turn : (o : Option Owner) → turn e.owner ≡ o → IsOwnerIf new e.clock o → Each (IsMade new) (turned turn es) → Each (IsMade new) (left_of o e (turned turn es))
    by_turn None is owner rest = rest
    by_turn (Some w) is owner rest = (record { past = (let c : old.clock ≤ new.clock = keeps.clock in let p : e.clock ≤ old.clock = made.0.past in omega arith); owner = owner }, rest)

over_turned : {D : Type 0} (turn : Owner → Option Owner) (old new : Transactions) → KeepsStacks turn old new → (e : Edit D) (w : Owner) → turn e.owner ≡ Some w → IsMade old e → (es : List (Edit D)) → Each (IsOver e) es → Each (IsOver (owned w e)) (turned turn es)
over_turned turn old new keeps e w is made [] over = tt
over_turned turn old new keeps e w is made (f ∷ fs) over = by_turn (turn f.owner) refl (subst (λ (o : Option Owner). FollowsIf e.clock o f.clock (turn f.owner)) is (keeps.order e.clock e.owner f.clock f.owner made.past made.owner over.0)) (over_turned turn old new keeps e w is made fs over.1)
  where
    by_turn : (o : Option Owner) → turn f.owner ≡ o → FollowsIf e.clock (Some w) f.clock o → Each (IsOver (owned w e)) (turned turn fs) → Each (IsOver (owned w e)) (left_of o f (turned turn fs))
    by_turn None at order rest = rest
    by_turn (Some v) at order rest = (order, rest)

order_turned : {D : Type 0} (turn : Owner → Option Owner) (old new : Transactions) → KeepsStacks turn old new → (es : List (Edit D)) → Each (IsMade old) es → Pairwise IsOver es → Pairwise IsOver (turned turn es)
order_turned turn old new keeps [] made order = tt
order_turned turn old new keeps (e ∷ es) made order = by_turn (turn e.owner) refl (order_turned turn old new keeps es made.1 order.1)
  where
    by_turn : (o : Option Owner) → turn e.owner ≡ o → Pairwise IsOver (turned turn es) → Pairwise IsOver (left_of o e (turned turn es))
    by_turn None is rest = rest
    by_turn (Some w) is rest = (over_turned turn old new keeps e w is made.0 es order.0, rest)

pub stack_turned : {D : Type 0} (turn : Owner → Option Owner) (old new : Transactions) → KeepsStacks turn old new → (es : List (Edit D)) → IsStack old es → IsStack new (turned turn es)
stack_turned turn old new keeps es stack = record { made = each_turned turn old new keeps es stack.made; order = order_turned turn old new keeps es stack.made stack.order }

-- levels

pub levels_cases : (s : ℕ) (names : List (Option (List ℕ))) (old new : Transactions) → HasLevels s names old new → (t : ℕ) → 1 ≤ s → 1 ≤ t → ((t ≡ s) × (levels_of new t ≡ names)) ⊎ (levels_of new t ≡ levels_of old t)
levels_cases s names old new has t low low' = by_equal (cases_eq t s)
  where
    by_equal : (t ≡ s) ⊎ (t ≡ s → ⊥) → ((t ≡ s) × (levels_of new t ≡ names)) ⊎ (levels_of new t ≡ levels_of old t)
    by_equal (inl is) = inl (is, subst (λ (n : ℕ). levels_of new n ≡ names) (sym is) has.own)
    by_equal (inr apart) = inr (has.others t apart)

pub levels_here : (s : ℕ) (names : List (Option (List ℕ))) (old new : Transactions) → HasLevels s names old new → 0 < length (levels_of old s) → levels_of new s ≡ names
levels_here s names old new has some = has.own

pub levels_apart : (s : ℕ) (names : List (Option (List ℕ))) (old new : Transactions) → HasLevels s names old new → (t : ℕ) → 1 ≤ s → 1 ≤ t → t ≢ s → levels_of new t ≡ levels_of old t
levels_apart s names old new has t low low' apart = has.others t apart

-- the orders

follows_released : (s k c d : ℕ) (v w : Owner) → 1 ≤ k → Follows c v d w → Follows c (released_owner s k v) d (released_owner s k w)
follows_released s k c d (Committed a) (Committed b) low h = h
follows_released s k c d (Committed a) (Running t m) low h = by_test (is_from_level s k (Running t m))
  where
    by_test : (b : Bool) → Follows c (Committed a) d (if b then Running s (k - 1) else Running t m)
    by_test true = h
    by_test false = h
follows_released s k c d (Running u l) (Committed b) low h = absurd h
follows_released s k c d (Running u l) (Running t m) low h = by_tests (is_from_level s k (Running u l)) (is_from_level s k (Running t m)) refl refl
  where
    by_tests : (a b : Bool) → is_from_level s k (Running u l) ≡ a → is_from_level s k (Running t m) ≡ b → Follows c (if a then Running s (k - 1) else Running u l) d (if b then Running s (k - 1) else Running t m)
    by_tests true true at bt = (refl, omega arith, h.2)
    by_tests true false at bt = absurd (false≢true (let same : u ≡ t = h.0 in let more : l ≤ m = h.1 in grind (arith, nat_tests)))
    by_tests false true at bt = let same : u ≡ t = h.0 in let more : l ≤ m = h.1 in (grind (arith, nat_tests), grind (arith, nat_tests), h.2)
    by_tests false false at bt = h

abbrev IsPastOwner : ℕ → Owner → Type 0
IsPastOwner n (Committed a) = a ≤ n
IsPastOwner n (Running s l) = Unit {0}

follows_committed : (s n c d : ℕ) (v w : Owner) → c ≤ n → IsPastOwner n v → Follows c v d w → Follows c (committed_owner s n v) d (committed_owner s n w)
follows_committed s n c d (Committed a) (Committed b) past was h = h
follows_committed s n c d (Committed a) (Running t m) past was h = by_test (is_from_level s 0 (Running t m))
  where
    by_test : (b : Bool) → Follows c (Committed a) d (if b then Committed n else Running t m)
    by_test true = (h.0, was)
    by_test false = h
follows_committed s n c d (Running u l) (Committed b) past was h = absurd h
follows_committed s n c d (Running u l) (Running t m) past was h = by_tests (is_from_level s 0 (Running u l)) (is_from_level s 0 (Running t m)) refl refl
  where
    by_tests : (a b : Bool) → is_from_level s 0 (Running u l) ≡ a → is_from_level s 0 (Running t m) ≡ b → Follows c (if a then Committed n else Running u l) d (if b then Committed n else Running t m)
    by_tests true true at bt = (past, omega arith)
    by_tests true false at bt = absurd (false≢true (let same : u ≡ t = h.0 in grind (arith, nat_tests)))
    by_tests false true at bt = absurd (false≢true (let same : u ≡ t = h.0 in grind (arith, nat_tests)))
    by_tests false false at bt = h

-- each call keeps stacks

pub release_keeps : (s k : ℕ) (old new : Transactions) → 1 ≤ s → 2 ≤ k → k ≤ length (levels_of old s) → HasLevels s (take (k - 1) (levels_of old s)) old new → new.clock ≡ old.clock → KeepsStacks (release s k) old new
release_keeps s k old new first low high has clock = record { clock = omega (arith, clock); owner = owner; order = λ c v d w past is h. follows_released s k c d v w (omega arith) h }
  where
    here : length (levels_of new s) ≡ k - 1
    here = ap (λ (names : List (Option (List ℕ))). length names) (levels_here s _ old new has (omega arith)) ∙ (omega (arith, length-take (k - 1) (levels_of old s)))

    owner : (made : ℕ) (w : Owner) → made ≤ old.clock → IsOwner old made w → IsOwner new made (released_owner s k w)
    owner made (Committed a) past is = (is.0, omega (arith, clock, is.1))
    owner made (Running t l) past is = by_test (is_from_level s k (Running t l)) refl
      where
        by_same : (t ≡ s) ⊎ (t ≡ s → ⊥) → is_from_level s k (Running t l) ≡ false → l ≤ length (levels_of new t)
        by_same (inl equal) at = rw (equal, here) (grind (arith, nat_tests))
        by_same (inr apart) at = rw (levels_apart s _ old new has t first is.0 apart) is.2

        by_test : (b : Bool) → is_from_level s k (Running t l) ≡ b → IsOwner new made (if b then Running s (k - 1) else Running t l)
        by_test true at = (first, omega arith, omega (arith, here))
        by_test false at = (is.0, is.1, by_same (cases_eq t s) at)

undo_owner : (s k : ℕ) (old new : Transactions) → 1 ≤ s → new.clock ≡ old.clock → k ≤ length (levels_of new s) + 1 → ((t : ℕ) → 1 ≤ t → t ≢ s → levels_of new t ≡ levels_of old t) → (made : ℕ) (w : Owner) → IsOwner old made w → IsOwnerIf new made (undo s k w)
undo_owner s k old new first clock high apart made (Committed a) is = (is.0, omega (arith, clock, is.1))
undo_owner s k old new first clock high apart made (Running t l) is = by_test (is_from_level s k (Running t l)) refl
  where
    by_same : (t ≡ s) ⊎ (t ≡ s → ⊥) → is_from_level s k (Running t l) ≡ false → l ≤ length (levels_of new t)
    by_same (inl equal) at = rw equal (grind (arith, nat_tests))
    by_same (inr other) at = rw (apart t is.0 other) is.2

    by_test : (b : Bool) → is_from_level s k (Running t l) ≡ b → IsOwnerIf new made (if b then None else Some (Running t l))
    by_test true at = tt
    by_test false at = (is.0, is.1, by_same (cases_eq t s) at)

undo_order : (s k c d : ℕ) (v w : Owner) → Follows c v d w → FollowsIf c (undo s k v) d (undo s k w)
undo_order s k c d v w h = by_tests (is_from_level s k v) (is_from_level s k w)
  where
    by_tests : (a b : Bool) → FollowsIf c (if a then None else Some v) d (if b then None else Some w)
    by_tests true b = tt
    by_tests false true = tt
    by_tests false false = h

pub undo_keeps : (s k : ℕ) (old new : Transactions) → 1 ≤ s → 1 ≤ k → k ≤ length (levels_of old s) → HasLevels s (take k (levels_of old s)) old new → new.clock ≡ old.clock → KeepsStacks (undo s k) old new
undo_keeps s k old new first low high has clock = record { clock = omega (arith, clock); owner = λ made w past is. undo_owner s k old new first clock enough (λ t low' apart. levels_apart s _ old new has t first low' apart) made w is; order = λ c v d w past is h. undo_order s k c d v w h }
  where
    here : length (levels_of new s) ≡ k
    here = ap (λ (names : List (Option (List ℕ))). length names) (levels_here s _ old new has (omega arith)) ∙ (omega (arith, length-take k (levels_of old s)))

    enough : k ≤ length (levels_of new s) + 1
    enough = omega (arith, here)

pub abort_keeps : (s : ℕ) (old new : Transactions) → 1 ≤ s → HasLevels s [] old new → new.clock ≡ old.clock → KeepsStacks (undo s 1) old new
abort_keeps s old new first has clock = record { clock = omega (arith, clock); owner = λ made w past is. undo_owner s 1 old new first clock (omega arith) (λ t low' apart. levels_apart s _ old new has t first low' apart) made w is; order = λ c v d w past is h. undo_order s 1 c d v w h }

owner_past : (x : Transactions) (made : ℕ) (w : Owner) → IsOwner x made w → IsPastOwner x.clock w
owner_past x made (Committed a) is = is.1
owner_past x made (Running s l) is = tt

pub commit_keeps : (s : ℕ) (old new : Transactions) → 1 ≤ s → HasLevels s [] old new → new.clock ≡ old.clock → KeepsStacks (commit_at s old.clock) old new
commit_keeps s old new first has clock = record { clock = omega (arith, clock); owner = owner; order = λ c v d w past is h. follows_committed s old.clock c d v w past (owner_past old c v is) h }
  where
    owner : (made : ℕ) (w : Owner) → made ≤ old.clock → IsOwner old made w → IsOwner new made (committed_owner s old.clock w)
    owner made (Committed a) past is = (is.0, omega (arith, clock, is.1))
    owner made (Running t l) past is = by_test (is_from_level s 0 (Running t l)) refl
      where
        apart : is_from_level s 0 (Running t l) ≡ false → t ≢ s
        apart at = λ equal. false≢true (grind (arith, nat_tests))

        by_test : (b : Bool) → is_from_level s 0 (Running t l) ≡ b → IsOwner new made (if b then Committed old.clock else Running t l)
        by_test true at = (past, omega (arith, clock))
        by_test false at = (is.0, is.1, rw (levels_apart s _ old new has t first is.0 (apart at)) is.2)

-- calls that change no owner: a tick, a begin, a new level, a hold and its end
pub later_keeps : (old new : Transactions) → old.clock ≤ new.clock → ((t : ℕ) → 1 ≤ t → length (levels_of old t) ≤ length (levels_of new t)) → KeepsStacks same old new
later_keeps old new clock levels = record { clock = clock; owner = owner; order = λ c v d w past is h. h }
  where
    owner : (made : ℕ) (w : Owner) → made ≤ old.clock → IsOwner old made w → IsOwner new made w
    owner made (Committed a) past is = (is.0, omega (arith, clock, is.1))
    owner made (Running t l) past is = (is.0, is.1, omega (arith, levels t is.0, is.2))

pub opens_more : (s : ℕ) (name : Option (List ℕ)) (old new : Transactions) → 1 ≤ s → HasLevels s (levels_of old s ++ name ∷ []) old new → (t : ℕ) → 1 ≤ t → length (levels_of old t) ≤ length (levels_of new t)
opens_more s name old new first has t low = by_case (levels_cases s _ old new has t first low)
  where
    by_case : ((t ≡ s) × (levels_of new t ≡ levels_of old s ++ name ∷ [])) ⊎ (levels_of new t ≡ levels_of old t) → length (levels_of old t) ≤ length (levels_of new t)
    by_case (inl both) = rw (both.1, both.0) (omega (arith, length-append (levels_of old s) (name ∷ [])))
    by_case (inr stays) = rw stays (omega arith)

-- one edit more
pub stack_pushed : {D : Type 0} (x : Transactions) (s : ℕ) (deed : D) (es : List (Edit D)) → 1 ≤ s → 0 < length (levels_of x s) → IsStack x es → Each (λ (e : Edit D). IsFreeFor s e.owner) es → IsStack x (es ++ record { clock = x.clock; owner = Running s (length (levels_of x s)); deed = deed } ∷ [])
stack_pushed {D} x s deed es first some stack free = record {
  made = each_end (IsMade x) es new stack.made (record { past = omega arith; owner = (first, omega arith, omega arith) });
  order = pairwise_end IsOver es new stack.order (each_both (IsMade {D = D} x) (λ (e : Edit D). IsFreeFor s e.owner) (λ (e : Edit D). IsOver e new) under es stack.made free);
}
  where
    new : Edit D
    new = record { clock = x.clock; owner = Running s (length (levels_of x s)); deed = deed }

    by_owner : (c : ℕ) (w : Owner) → c ≤ x.clock → IsOwner x c w → IsFreeFor s w → Follows c w x.clock (Running s (length (levels_of x s)))
    by_owner c (Committed a) past is free = is
    by_owner c (Running t l) past is free = (free, subst (λ (n : ℕ). l ≤ length (levels_of x n)) free is.2, past)

    under : (e : Edit D) → IsMade x e → IsFreeFor s e.owner → Follows e.clock e.owner x.clock (Running s (length (levels_of x s)))
    under e made free = by_owner e.clock e.owner made.past made.owner free
