-- How many versions a reclamation leaves, and which keys it looks at.
use Rattle.std.proofs.Common.{ℕ, suc, ◌≤◌, ◌≡◌, ◌≢◌, ◌⊎◌, inl, inr, Bool, true, false, List, [], ◌∷◌, ◌++◌, length, Option, Some, None, refl, ap, sym, subst, ◌∙◌, arith}
use Rattle.std.specs.Prelude.{◌==◌, ◌&&◌, ◌||◌, not, if◌then◌else◌, Contains}
use Rattle.std.specs.List.{list_any}
use Rattle.std.proofs.lemmas.Bool.{false≢true}
use Rattle.std.proofs.lemmas.Bool.Decides.{nat_tests}
use Rattle.lo_model.specs.declared.owner.Owner.{Owner}
use Rattle.lo_model.specs.declared.owner.Owner.TheVariants.{Running, Committed}
use Rattle.lo_model.specs.Edit.{Edit}
use Rattle.xact_core.specs.declared.snapshot.Snapshot.{Snapshot}
use Rattle.xact_core.specs.Transactions.{Transactions, levels_of}
use Rattle.row_versions.specs.Count.{count_of, puts_in, Different, IsHeldClock, ListsHeld, clocks_left}
use Rattle.row_versions.specs.Stack.{Each, Pairwise, IsStack, owned, left_of, turned}
use Rattle.row_versions.specs.Vacuum.{has_seen, last_seen, put_of, is_last, lasts, is_committed, trimmed, reclaimed, FoundUnlessErasure, OneOwner, OtherClock}
use Rattle.row_versions.specs.Stands.{Version, Fits, standing, IsSettled, vacuumed, made_now}
use Rattle.row_versions.proofs.Stacking.{pairwise_end}
use Rattle.row_versions.proofs.Keeping.{cons_cases, cons_rest, nil_none}
use Rattle.row_versions.proofs.Covering.{Among}
use Rattle.row_versions.proofs.Vacuuming.{reclaimed_puts, found_left, reclaimed_clocks}
use Rattle.xact_core.specs.Ends.{Turns}
use Rattle.row_versions.proofs.Laws.{settled_stays, settled_turned}

-- No more are left of a key than views are kept.

abbrev some_seen : {D : Type 0} → List (Edit D) → Snapshot → Bool
some_seen es v = list_any (has_seen v) es

-- the views that see something of a list, of more than that of its rest, where its first is the last that some view sees
count_more : {D : Type 0} (views : List Snapshot) (e : Edit D) (es : List (Edit D)) → count_of (some_seen es) views ≤ count_of (some_seen (e ∷ es)) views
count_more [] e es = omega arith
count_more {D} (v ∷ vs) e es = by_tests (has_seen v e) (list_any (has_seen v) es) (count_more vs e es)
  where
    by_tests : (a b : Bool) → count_of (some_seen es) vs ≤ count_of (some_seen (e ∷ es)) vs → (if b then suc (count_of (some_seen es) vs) else count_of (some_seen es) vs) ≤ (if a || b then suc (count_of (some_seen (e ∷ es)) vs) else count_of (some_seen (e ∷ es)) vs)
    by_tests true true less = omega arith
    by_tests true false less = omega arith
    by_tests false true less = omega arith
    by_tests false false less = less

count_last : {D : Type 0} (views : List Snapshot) (e : Edit D) (es : List (Edit D)) → is_last views e es ≡ true → suc (count_of (some_seen es) views) ≤ count_of (some_seen (e ∷ es)) views
count_last [] e es last = absurd (false≢true last)
count_last {D} (v ∷ vs) e es last = by_tests (has_seen v e) (list_any (has_seen v) es) last (count_more vs e es) (count_last vs e es)
  where
    by_tests : (a b : Bool) → ((a && not b) || is_last vs e es) ≡ true → count_of (some_seen es) vs ≤ count_of (some_seen (e ∷ es)) vs → (is_last vs e es ≡ true → suc (count_of (some_seen es) vs) ≤ count_of (some_seen (e ∷ es)) vs) → suc (if b then suc (count_of (some_seen es) vs) else count_of (some_seen es) vs) ≤ (if a || b then suc (count_of (some_seen (e ∷ es)) vs) else count_of (some_seen (e ∷ es)) vs)
    by_tests true true is more left = let rest : suc (count_of (some_seen es) vs) ≤ count_of (some_seen (e ∷ es)) vs = left is in omega arith
    by_tests true false is more left = omega arith
    by_tests false true is more left = let rest : suc (count_of (some_seen es) vs) ≤ count_of (some_seen (e ∷ es)) vs = left is in omega arith
    by_tests false false is more left = left is

lasts_few : {D : Type 0} (views : List Snapshot) (es : List (Edit D)) → length (lasts views es) ≤ count_of (some_seen es) views
lasts_few views [] = omega arith
lasts_few {D} views (e ∷ es) = by_last (is_last views e es) refl (lasts_few views es)
  where
    by_last : (b : Bool) → is_last views e es ≡ b → length (lasts views es) ≤ count_of (some_seen es) views → length (if b then e ∷ lasts views es else lasts views es) ≤ count_of (some_seen (e ∷ es)) views
    by_last true last rest = let more : suc (count_of (some_seen es) views) ≤ count_of (some_seen (e ∷ es)) views = count_last views e es last in omega arith
    by_last false last rest = let more : count_of (some_seen es) views ≤ count_of (some_seen (e ∷ es)) views = count_more views e es in omega arith

trimmed_few : {D : Type 0} (erases : D → Bool) (es : List (Edit D)) → length (trimmed erases es) ≤ length es
trimmed_few erases [] = omega arith
trimmed_few {D} erases (e ∷ es) = by_gone (is_committed e.owner && erases e.deed) (trimmed_few erases es)
  where
    by_gone : (b : Bool) → length (trimmed erases es) ≤ length es → length (if b then trimmed erases es else e ∷ es) ≤ length (e ∷ es)
    by_gone true rest = omega arith
    by_gone false rest = omega arith

count_most : {X : Type 0} (test : X → Bool) (xs : List X) → count_of test xs ≤ length xs
count_most test [] = omega arith
count_most {X} test (x ∷ xs) = by_test (test x) (count_most test xs)
  where
    by_test : (b : Bool) → count_of test xs ≤ length xs → (if b then suc (count_of test xs) else count_of test xs) ≤ suc (length xs)
    by_test true rest = omega arith
    by_test false rest = omega arith

pub reclaimed_few : {D : Type 0} (erases : D → Bool) (views : List Snapshot) (es : List (Edit D)) → length (reclaimed erases views es) ≤ length views
reclaimed_few erases views es =
    let a : length (trimmed erases (lasts views es)) ≤ length (lasts views es) = trimmed_few erases (lasts views es) in
    let b : length (lasts views es) ≤ count_of (some_seen es) views = lasts_few views es in
    let c : count_of (some_seen es) views ≤ length views = count_most (some_seen es) views in
    omega arith

-- Edits of one clock have one owner, through ends and in a request that makes all its edits at one level.

one_turned : {D : Type 0} (turn : Owner → Option Owner) (e : Edit D) (w : Owner) → turn e.owner ≡ Some w → (es : List (Edit D)) → Each (OneOwner e) es → Each (OneOwner (owned w e)) (turned turn es)
one_turned turn e w is [] one = tt
one_turned {D} turn e w is (f ∷ fs) one = by_turn (turn f.owner) refl (one_turned turn e w is fs one.1)
  where
    some_is : (a b : Owner) → Some a ≡ Some b → a ≡ b
    some_is a b same = grind arith

    by_turn : (o : Option Owner) → turn f.owner ≡ o → Each (OneOwner (owned w e)) (turned turn fs) → Each (OneOwner (owned w e)) (left_of o f (turned turn fs))
    by_turn None at rest = rest
    by_turn (Some v) at rest = (λ clock. some_is w v (sym is ∙ (ap turn (one.0 clock) ∙ at)), rest)

pub owners_turned : {D : Type 0} (turn : Owner → Option Owner) (es : List (Edit D)) → Pairwise OneOwner es → Pairwise OneOwner (turned turn es)
owners_turned turn [] one = tt
owners_turned {D} turn (e ∷ es) one = by_turn (turn e.owner) refl (owners_turned turn es one.1)
  where
    by_turn : (o : Option Owner) → turn e.owner ≡ o → Pairwise OneOwner (turned turn es) → Pairwise OneOwner (left_of o e (turned turn es))
    by_turn None is rest = rest
    by_turn (Some w) is rest = (one_turned turn e w is es one.0, rest)

pub owners_pushed : {D : Type 0} (x : Transactions) (s : ℕ) (deed : D) (es : List (Edit D)) → Each (λ (e : Edit D). e.clock ≡ x.clock → e.owner ≡ Running s (length (levels_of x s))) es → Pairwise OneOwner es → Pairwise OneOwner (es ++ made_now x s deed ∷ [])
owners_pushed x s deed es now one = pairwise_end OneOwner es (made_now x s deed) one now

-- The count of a key: the clocks of the puts that are left are just those of what kept views find, each once.

clocks_count : {D : Type 0} (erases : D → Bool) (es : List (Edit D)) → length (clocks_left erases es) ≡ puts_in erases es
clocks_count erases [] = refl
clocks_count {D} erases (e ∷ es) = by_test (erases e.deed) (clocks_count erases es)
  where
    by_test : (b : Bool) → length (clocks_left erases es) ≡ puts_in erases es → length (if b then clocks_left erases es else e.clock ∷ clocks_left erases es) ≡ (if not b then suc (puts_in erases es) else puts_in erases es)
    by_test true rest = rest
    by_test false rest = ap suc rest

clocks_each : {D : Type 0} (erases : D → Bool) (P : ℕ → Type 0) (es : List (Edit D)) → Each (λ (e : Edit D). P e.clock) es → Each P (clocks_left erases es)
clocks_each erases P [] h = tt
clocks_each {D} erases P (e ∷ es) h = by_test (erases e.deed) (clocks_each erases P es h.1)
  where
    by_test : (b : Bool) → Each P (clocks_left erases es) → Each P (if b then clocks_left erases es else e.clock ∷ clocks_left erases es)
    by_test true rest = rest
    by_test false rest = (h.0, rest)

clocks_different : {D : Type 0} (erases : D → Bool) (es : List (Edit D)) → Pairwise OtherClock es → Different (clocks_left erases es)
clocks_different erases [] apart = tt
clocks_different {D} erases (e ∷ es) apart = by_test (erases e.deed) (clocks_different erases es apart.1)
  where
    by_test : (b : Bool) → Different (clocks_left erases es) → Different (if b then clocks_left erases es else e.clock ∷ clocks_left erases es)
    by_test true rest = rest
    by_test false rest = (clocks_each erases (λ (b : ℕ). e.clock ≢ b) es apart.0, rest)

pub record HasPut {D : Type 0} (erases : D → Bool) (es : List (Edit D)) (clock : ℕ) : Type 0 where
  pub edit : Edit D
  pub among : Among edit es
  pub puts : erases edit.deed ≡ false
  pub is : edit.clock ≡ clock

clocks_from : {D : Type 0} (erases : D → Bool) (es : List (Edit D)) (clock : ℕ) → Contains (clocks_left erases es) clock → HasPut erases es clock
clocks_from erases [] clock here = absurd (nil_none clock here)
clocks_from {D} erases (e ∷ es) clock here = by_test (erases e.deed) refl here (clocks_from erases es clock)
  where
    more : HasPut erases es clock → HasPut erases (e ∷ es) clock
    more rest = record { edit = rest.edit; among = inr rest.among; puts = rest.puts; is = rest.is }

    by_case : erases e.deed ≡ false → (e.clock ≡ clock) ⊎ Contains (clocks_left erases es) clock → (Contains (clocks_left erases es) clock → HasPut erases es clock) → HasPut erases (e ∷ es) clock
    by_case puts (inl is) left = record { edit = e; among = inl refl; puts = puts; is = is }
    by_case puts (inr later) left = more (left later)

    by_test : (b : Bool) → erases e.deed ≡ b → Contains (if b then clocks_left erases es else e.clock ∷ clocks_left erases es) clock → (Contains (clocks_left erases es) clock → HasPut erases es clock) → HasPut erases (e ∷ es) clock
    by_test true is at left = more (left at)
    by_test false is at left = by_case is (cons_cases e.clock clock (clocks_left erases es) at) left

clocks_to : {D : Type 0} (erases : D → Bool) (es : List (Edit D)) (e : Edit D) → Among e es → erases e.deed ≡ false → Contains (clocks_left erases es) e.clock
clocks_to erases [] e among puts = absurd among
clocks_to {D} erases (f ∷ fs) e (inl is) puts = by_test (erases f.deed) (ap (λ (g : Edit D). erases g.deed) is ∙ puts)
  where
    by_test : (b : Bool) → b ≡ false → Contains (if b then clocks_left erases fs else f.clock ∷ clocks_left erases fs) e.clock
    by_test true not_put = absurd (false≢true (sym not_put))
    by_test false not_put = (0, omega arith, ap (λ (g : Edit D). g.clock) is)
clocks_to {D} erases (f ∷ fs) e (inr later) puts = by_test (erases f.deed) (clocks_to erases fs e later puts)
  where
    by_test : (b : Bool) → Contains (clocks_left erases fs) e.clock → Contains (if b then clocks_left erases fs else f.clock ∷ clocks_left erases fs) e.clock
    by_test true rest = rest
    by_test false rest = cons_rest f.clock e.clock (clocks_left erases fs) rest

among_each : {D : Type 0} (P : Edit D → Type 0) (es : List (Edit D)) (e : Edit D) → Each P es → Among e es → P e
among_each P [] e h among = absurd among
among_each P (f ∷ fs) e h (inl is) = subst P is h.0
among_each P (f ∷ fs) e h (inr later) = among_each P fs e h.1 later

put_is_put : {D : Type 0} (erases : D → Bool) (o : Option (Edit D)) (e : Edit D) → put_of erases o ≡ Some e → erases e.deed ≡ false
put_is_put erases None e is = absurd (grind arith)
put_is_put {D} erases (Some f) e is = by_test (erases f.deed) refl is
  where
    some_is : (a b : Edit D) → Some a ≡ Some b → a ≡ b
    some_is a b same = grind arith

    by_test : (b : Bool) → erases f.deed ≡ b → (if b then None else Some f) ≡ Some e → erases e.deed ≡ false
    by_test true at same = absurd (grind arith)
    by_test false at same = ap (λ (g : Edit D). erases g.deed) (sym (some_is f e same)) ∙ at

-- the clocks of the puts that are left are the held ones of the key
pub left_is_held : {D : Type 0} (erases : D → Bool) (views : List Snapshot) (es : List (Edit D)) → Pairwise OneOwner es → ListsHeld erases views es (clocks_left erases (reclaimed erases views es))
left_is_held {D} erases views es one = record {
  once = clocks_different erases (reclaimed erases views es) (reclaimed_clocks erases views es one);
  only = λ clock here. only clock (clocks_from erases (reclaimed erases views es) clock here);
  each = λ clock held. each clock held;
}
  where
    only : (clock : ℕ) → HasPut erases (reclaimed erases views es) clock → IsHeldClock erases views es clock
    only clock put = record { edit = put.edit; here = among_each (FoundUnlessErasure erases views es) (reclaimed erases views es) put.edit (reclaimed_puts erases views es) put.among put.puts; is = put.is }

    each : (clock : ℕ) → IsHeldClock erases views es clock → Contains (clocks_left erases (reclaimed erases views es)) clock
    each clock held = subst (λ (n : ℕ). Contains (clocks_left erases (reclaimed erases views es)) n) held.is (clocks_to erases (reclaimed erases views es) held.edit (found_left erases views es held.edit held.here) (put_is_put erases (last_seen held.here.view es) held.edit held.here.found_is))

-- Lists of numbers, each once, of the same numbers, are of one length.

without : (n : ℕ) → List ℕ → List ℕ
without n [] = []
without n (m ∷ ms) = if m == n then ms else m ∷ without n ms

without_length : (n : ℕ) (ms : List ℕ) → Contains ms n → length ms ≡ suc (length (without n ms))
unfolding without
without_length n [] here = absurd (nil_none n here)
without_length n (m ∷ ms) here = by_test (m == n) refl (cons_cases m n ms here) (without_length n ms)
  where
    by_test : (b : Bool) → (m == n) ≡ b → (m ≡ n) ⊎ Contains ms n → (Contains ms n → length ms ≡ suc (length (without n ms))) → suc (length ms) ≡ suc (length (if b then ms else m ∷ without n ms))
    by_test true at which left = refl
    by_test false at (inl is) left = absurd (false≢true (sym at ∙ (let same : (m == n) ≡ true = grind (arith, nat_tests) in same)))
    by_test false at (inr later) left = ap suc (left later)

without_has : (n k : ℕ) (ms : List ℕ) → Contains ms k → k ≢ n → Contains (without n ms) k
unfolding without
without_has n k [] here apart = absurd (nil_none k here)
without_has n k (m ∷ ms) here apart = by_test (m == n) refl (cons_cases m k ms here) (without_has n k ms)
  where
    by_test : (b : Bool) → (m == n) ≡ b → (m ≡ k) ⊎ Contains ms k → (Contains ms k → k ≢ n → Contains (without n ms) k) → Contains (if b then ms else m ∷ without n ms) k
    by_test true at (inl is) left = absurd (apart (let same : m ≡ n = grind (arith, nat_tests) in sym is ∙ same))
    by_test true at (inr later) left = later
    by_test false at (inl is) left = (0, omega arith, is)
    by_test false at (inr later) left = cons_rest m k (without n ms) (left later apart)

pub each_contains : {X : Type 0} (P : X → Type 0) (ns : List X) (k : X) → Each P ns → Contains ns k → P k
each_contains P [] k h here = absurd (nil_none k here)
each_contains P (n ∷ ns) k h here = by_case (cons_cases n k ns here) (each_contains P ns k h.1)
  where
    by_case : (n ≡ k) ⊎ Contains ns k → (Contains ns k → P k) → P k
    by_case (inl is) left = subst P is h.0
    by_case (inr later) left = left later

fewer : (ns ms : List ℕ) → Different ns → ((k : ℕ) → Contains ns k → Contains ms k) → length ns ≤ length ms
fewer [] ms once within = omega arith
fewer (n ∷ ns) ms once within =
    let rest : length ns ≤ length (without n ms) = fewer ns (without n ms) once.1 (λ k here. without_has n k ms (within k (cons_rest n k ns here)) (λ is. each_contains (λ (m : ℕ). n ≢ m) ns k once.0 here (sym is))) in
    let size : length ms ≡ suc (length (without n ms)) = without_length n ms (within n (0, omega arith, refl)) in
    omega arith

-- The puts that are left of a key are as many as the held block versions of the key, however those are listed.
pub puts_are_held : {D : Type 0} (erases : D → Bool) (views : List Snapshot) (es : List (Edit D)) (clocks : List ℕ) → Pairwise OneOwner es → ListsHeld erases views es clocks → puts_in erases (reclaimed erases views es) ≡ length clocks
puts_are_held {D} erases views es clocks one lists =
    let mine : ListsHeld erases views es (clocks_left erases (reclaimed erases views es)) = left_is_held erases views es one in
    let count : length (clocks_left erases (reclaimed erases views es)) ≡ puts_in erases (reclaimed erases views es) = clocks_count erases (reclaimed erases views es) in
    let most : length (clocks_left erases (reclaimed erases views es)) ≤ length clocks = fewer (clocks_left erases (reclaimed erases views es)) clocks mine.once (λ k here. lists.each k (mine.only k here)) in
    let least : length clocks ≤ length (clocks_left erases (reclaimed erases views es)) = fewer clocks (clocks_left erases (reclaimed erases views es)) lists.once (λ k here. mine.each k (lists.only k here)) in
    omega arith

-- A reclamation that looks at listed keys alone reclaims all.

pub record IsListed {K D : Type 0} (erases : D → Bool) (x : Transactions) (listed : K → Type 0) (chain : K → List (Version D)) : Type 0 where
  pub settled : (key : K) → IsSettled erases x (chain key) ⊎ listed key

-- what it did: to each listed key's versions, and to no other's
pub record ReclaimsListed {K D : Type 0} (erases : D → Bool) (x : Transactions) (listed : K → Type 0) (old new : K → List (Version D)) : Type 0 where
  pub here : (key : K) → listed key → new key ≡ vacuumed erases x (old key)
  pub others : (key : K) → (listed key → ⊥) → new key ≡ old key

-- each key is listed or not
pub all_reclaimed : {K D : Type 0} (erases : D → Bool) (x : Transactions) (listed : K → Type 0) (old new : K → List (Version D)) → ((key : K) → listed key ⊎ (listed key → ⊥)) → ((key : K) → IsStack x (standing x (old key))) → IsListed erases x listed old → ReclaimsListed erases x listed old new → (key : K) → new key ≡ vacuumed erases x (old key)
all_reclaimed {K} erases x listed old new either stacks lists reclaims key = by_case (either key) (lists.settled key)
  where
    by_case : listed key ⊎ (listed key → ⊥) → IsSettled erases x (old key) ⊎ listed key → new key ≡ vacuumed erases x (old key)
    by_case (inl is) settled = reclaims.here key is
    by_case (inr apart) (inr is) = absurd (apart is)
    by_case (inr apart) (inl settled) = reclaims.others key apart ∙ sym (settled_stays erases x (old key) settled (stacks key))

-- the keys to look at, through an end of a level or transaction
pub listed_turned : {K D : Type 0} (erases : D → Bool) (turn : Owner → Option Owner) (old new : Transactions) (listed : K → Type 0) (chain : K → List (Version D)) → ((c : ℕ) → turn (Committed c) ≡ Some (Committed c)) → Turns turn old new → ((key : K) → Fits old (chain key)) → IsListed erases old listed chain → IsListed erases new listed chain
listed_turned {K} erases turn old new listed chain keeps turns fits lists = record { settled = λ key. by_case key (lists.settled key) }
  where
    by_case : (key : K) → IsSettled erases old (chain key) ⊎ listed key → IsSettled erases new (chain key) ⊎ listed key
    by_case key (inl settled) = inl (settled_turned erases turn old new (chain key) keeps turns (fits key) settled)
    by_case key (inr is) = inr is
