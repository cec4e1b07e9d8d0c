-- The blocks in use after a reclamation, over all keys, are as many as the held block versions.
use Rattle.std.proofs.Common.{ℕ, suc, ◌+◌, ◌≤◌, ◌≡◌, ◌≢◌, ◌⊎◌, inl, inr, Bool, true, false, List, [], ◌∷◌, ◌++◌, length, map, refl, ap, sym, subst, ◌∙◌, arith, length-append}
use Rattle.std.specs.Prelude.{not, ◌==◌, ◌&&◌, if◌then◌else◌, Contains}
use Rattle.std.proofs.lemmas.Bool.{false≢true}
use Rattle.std.proofs.lemmas.Bool.Decides.{nat_tests}
use Rattle.std.proofs.lemmas.List.Elements.{Contains-append_left, Contains-append_right, Contains-append_cases}
use Rattle.lo_model.specs.Edit.{Edit}
use Rattle.xact_core.specs.declared.snapshot.Snapshot.{Snapshot}
use Rattle.row_versions.specs.Stack.{Each, Pairwise}
use Rattle.row_versions.specs.Vacuum.{reclaimed, OneOwner}
use Rattle.row_versions.specs.Count.{Different, puts_in, clocks_left, IsHeldClock, Mark, mark, Apart, ListsAllHeld, blocks_in}
use Rattle.row_versions.proofs.Counting.{left_is_held, each_contains}
use Rattle.row_versions.proofs.Keeping.{cons_cases, cons_rest, nil_none}

-- marks, each once, that stand in another list are no more

same_mark : Mark → Mark → Bool
same_mark a b = (a.key == b.key) && (a.clock == b.clock)

mark_is : (a b : Mark) → same_mark a b ≡ true → a ≡ b
unfolding same_mark
mark_is a b is =
    let key : a.key ≡ b.key = grind (arith, nat_tests) in
    let clock : a.clock ≡ b.clock = grind (arith, nat_tests) in
    ap (λ (n : ℕ). mark n a.clock) key ∙ ap (mark b.key) clock

mark_itself : (a b : Mark) → a ≡ b → same_mark a b ≡ true
unfolding same_mark
mark_itself a b is = let key : a.key ≡ b.key = ap (λ (m : Mark). m.key) is in let clock : a.clock ≡ b.clock = ap (λ (m : Mark). m.clock) is in grind (arith, nat_tests)

without : Mark → List Mark → List Mark
without n [] = []
without n (m ∷ ms) = if same_mark m n then ms else m ∷ without n ms

without_length : (n : Mark) (ms : List Mark) → Contains ms n → length ms ≡ suc (length (without n ms))
unfolding without
without_length n [] here = absurd (nil_none n here)
without_length n (m ∷ ms) here = by_test (same_mark m n) refl (cons_cases m n ms here) (without_length n ms)
  where
    by_test : (b : Bool) → same_mark m n ≡ b → (m ≡ n) ⊎ Contains ms n → (Contains ms n → length ms ≡ suc (length (without n ms))) → suc (length ms) ≡ suc (length (if b then ms else m ∷ without n ms))
    by_test true at which left = refl
    by_test false at (inl is) left = absurd (false≢true (sym at ∙ mark_itself m n is))
    by_test false at (inr later) left = ap suc (left later)

without_has : (n k : Mark) (ms : List Mark) → Contains ms k → k ≢ n → Contains (without n ms) k
unfolding without
without_has n k [] here apart = absurd (nil_none k here)
without_has n k (m ∷ ms) here apart = by_test (same_mark m n) refl (cons_cases m k ms here) (without_has n k ms)
  where
    by_test : (b : Bool) → same_mark m n ≡ b → (m ≡ k) ⊎ Contains ms k → (Contains ms k → k ≢ n → Contains (without n ms) k) → Contains (if b then ms else m ∷ without n ms) k
    by_test true at (inl is) left = absurd (apart (sym is ∙ mark_is m n at))
    by_test true at (inr later) left = later
    by_test false at (inl is) left = (0, omega arith, is)
    by_test false at (inr later) left = cons_rest m k (without n ms) (left later apart)

fewer : (ns ms : List Mark) → Apart ns → ((k : Mark) → Contains ns k → Contains ms k) → length ns ≤ length ms
fewer [] ms once within = omega arith
fewer (n ∷ ns) ms once within =
    let rest : length ns ≤ length (without n ms) = fewer ns (without n ms) once.1 (λ k here. without_has n k ms (within k (cons_rest n k ns here)) (λ is. each_contains (λ (m : Mark). n ≢ m) ns k once.0 here (sym is))) in
    let size : length ms ≡ suc (length (without n ms)) = without_length n ms (within n (0, omega arith, refl)) in
    omega arith

-- the marks that are left

abbrev marks_of : ℕ → List ℕ → List Mark
marks_of key clocks = map (mark key) clocks

marks_apart : (key : ℕ) (clocks : List ℕ) → Different clocks → Apart (marks_of key clocks)
marks_apart key [] once = tt
marks_apart key (c ∷ cs) once = (others cs once.0, marks_apart key cs once.1)
  where
    others : (ds : List ℕ) → Each (λ (d : ℕ). c ≢ d) ds → Each (λ (m : Mark). mark key c ≢ m) (marks_of key ds)
    others [] apart = tt
    others (d ∷ ds) apart = ((λ is. apart.0 (ap (λ (m : Mark). m.clock) is)), others ds apart.1)

marks_keyed : (key : ℕ) (clocks : List ℕ) (m : Mark) → Contains (marks_of key clocks) m → (m.key ≡ key) × Contains clocks m.clock
marks_keyed key [] m here = absurd (nil_none m here)
marks_keyed key (c ∷ cs) m here = by_case (cons_cases (mark key c) m (marks_of key cs) here) (marks_keyed key cs m)
  where
    by_case : (mark key c ≡ m) ⊎ Contains (marks_of key cs) m → (Contains (marks_of key cs) m → (m.key ≡ key) × Contains cs m.clock) → (m.key ≡ key) × Contains (c ∷ cs) m.clock
    by_case (inl is) left = (sym (ap (λ (n : Mark). n.key) is), (0, omega arith, ap (λ (n : Mark). n.clock) is))
    by_case (inr later) left = let rest : (m.key ≡ key) × Contains cs m.clock = left later in (rest.0, cons_rest c m.clock cs rest.1)

marks_have : (key : ℕ) (clocks : List ℕ) (c : ℕ) → Contains clocks c → Contains (marks_of key clocks) (mark key c)
marks_have key [] c here = absurd (nil_none c here)
marks_have key (d ∷ ds) c here = by_case (cons_cases d c ds here) (marks_have key ds c)
  where
    by_case : (d ≡ c) ⊎ Contains ds c → (Contains ds c → Contains (marks_of key ds) (mark key c)) → Contains (marks_of key (d ∷ ds)) (mark key c)
    by_case (inl is) left = (0, omega arith, ap (mark key) is)
    by_case (inr later) left = cons_rest (mark key d) (mark key c) (marks_of key ds) (left later)

marks_length : (key : ℕ) (clocks : List ℕ) → length (marks_of key clocks) ≡ length clocks
marks_length key [] = refl
marks_length key (c ∷ cs) = ap suc (marks_length key cs)

apart_both : (xs ys : List Mark) → Apart xs → Apart ys → ((a b : Mark) → Contains xs a → Contains ys b → a ≢ b) → Apart (xs ++ ys)
apart_both [] ys first second between = second
apart_both (x ∷ xs) ys first second between = (joined xs first.0 (each_of ys), apart_both xs ys first.1 second (λ a b here there. between a b (cons_rest x a xs here) there))
  where
    joined : (zs : List Mark) → Each (λ (m : Mark). x ≢ m) zs → Each (λ (m : Mark). x ≢ m) ys → Each (λ (m : Mark). x ≢ m) (zs ++ ys)
    joined [] h g = g
    joined (z ∷ zs) h g = (h.0, joined zs h.1 g)

    each_in : (zs : List Mark) → ((b : Mark) → Contains zs b → x ≢ b) → Each (λ (m : Mark). x ≢ m) zs
    each_in [] all = tt
    each_in (z ∷ zs) all = (all z (0, omega arith, refl), each_in zs (λ b here. all b (cons_rest z b zs here)))

    each_of : (zs : List Mark) → Each (λ (m : Mark). x ≢ m) ys
    each_of zs = each_in ys (λ b there. between x b (0, omega arith, refl) there)

module _ {D : Type 0} (erases : D → Bool) (views : List Snapshot) (edits : ℕ → List (Edit D)) where
  abbrev left_at : ℕ → List ℕ
  left_at key = clocks_left erases (reclaimed erases views (edits key))

  abbrev all_left : List ℕ → List Mark
  all_left [] = []
  all_left (key ∷ keys) = marks_of key (left_at key) ++ all_left keys

  left_keyed : ((key : ℕ) → Pairwise OneOwner (edits key)) → (keys : List ℕ) (m : Mark) → Contains (all_left keys) m → Contains keys m.key × IsHeldClock erases views (edits m.key) m.clock
  left_keyed one [] m here = absurd (nil_none m here)
  left_keyed one (key ∷ keys) m here = by_case (Contains-append_cases (marks_of key (left_at key)) (all_left keys) m here) (left_keyed one keys m)
    where
      own : (m.key ≡ key) × Contains (left_at key) m.clock → Contains (key ∷ keys) m.key × IsHeldClock erases views (edits m.key) m.clock
      own both =
          let held : IsHeldClock erases views (edits key) m.clock = (left_is_held erases views (edits key) (one key)).only m.clock both.1 in
          ((0, omega arith, sym both.0), subst (λ (k : ℕ). IsHeldClock erases views (edits k) m.clock) (sym both.0) held)

      by_case : Contains (marks_of key (left_at key)) m ⊎ Contains (all_left keys) m → (Contains (all_left keys) m → Contains keys m.key × IsHeldClock erases views (edits m.key) m.clock) → Contains (key ∷ keys) m.key × IsHeldClock erases views (edits m.key) m.clock
      by_case (inl here) left = own (marks_keyed key (left_at key) m here)
      by_case (inr later) left = let rest : Contains keys m.key × IsHeldClock erases views (edits m.key) m.clock = left later in (cons_rest key m.key keys rest.0, rest.1)

  left_has : ((key : ℕ) → Pairwise OneOwner (edits key)) → (keys : List ℕ) (key clock : ℕ) → Contains keys key → IsHeldClock erases views (edits key) clock → Contains (all_left keys) (mark key clock)
  left_has one [] key clock here held = absurd (nil_none key here)
  left_has one (k ∷ ks) key clock here held = by_case (cons_cases k key ks here) (λ later. left_has one ks key clock later held)
    where
      by_case : (k ≡ key) ⊎ Contains ks key → (Contains ks key → Contains (all_left ks) (mark key clock)) → Contains (all_left (k ∷ ks)) (mark key clock)
      by_case (inl is) left = subst (λ (n : ℕ). Contains (marks_of n (left_at n) ++ all_left ks) (mark key clock)) (sym is) (Contains-append_left (marks_of key (left_at key)) (all_left ks) (mark key clock) (marks_have key (left_at key) clock ((left_is_held erases views (edits key) (one key)).each clock held)))
      by_case (inr later) left = Contains-append_right (marks_of k (left_at k)) (all_left ks) (mark key clock) (left later)

  left_apart : ((key : ℕ) → Pairwise OneOwner (edits key)) → (keys : List ℕ) → Different keys → Apart (all_left keys)
  left_apart one [] once = tt
  left_apart one (key ∷ keys) once = apart_both (marks_of key (left_at key)) (all_left keys) (marks_apart key (left_at key) (left_is_held erases views (edits key) (one key)).once) (left_apart one keys once.1) between
    where
      not_in : (ks : List ℕ) (k : ℕ) → Each (λ (j : ℕ). key ≢ j) ks → Contains ks k → key ≢ k
      not_in [] k h here = absurd (nil_none k here)
      not_in (j ∷ js) k h here = by_case (cons_cases j k js here) (not_in js k h.1)
        where
          by_case : (j ≡ k) ⊎ Contains js k → (Contains js k → key ≢ k) → key ≢ k
          by_case (inl is) left = λ same. h.0 (same ∙ sym is)
          by_case (inr later) left = left later

      between : (a b : Mark) → Contains (marks_of key (left_at key)) a → Contains (all_left keys) b → a ≢ b
      between a b here there is = not_in keys b.key once.0 (left_keyed one keys b there).0 (sym (marks_keyed key (left_at key) a here).0 ∙ ap (λ (m : Mark). m.key) is)

  count_left : (es : List (Edit D)) → length (clocks_left erases es) ≡ puts_in erases es
  count_left [] = refl
  count_left (e ∷ es) = by_test (erases e.deed) (count_left es)
    where
      by_test : (b : Bool) → length (clocks_left erases es) ≡ puts_in erases es → length (if b then clocks_left erases es else e.clock ∷ clocks_left erases es) ≡ (if not b then suc (puts_in erases es) else puts_in erases es)
      by_test true rest = rest
      by_test false rest = ap suc rest

  left_length : (keys : List ℕ) → length (all_left keys) ≡ blocks_in erases views keys edits
  left_length [] = refl
  left_length (key ∷ keys) =
      let both : length (marks_of key (left_at key) ++ all_left keys) ≡ length (marks_of key (left_at key)) + length (all_left keys) = length-append (marks_of key (left_at key)) (all_left keys) in
      let first : length (marks_of key (left_at key)) ≡ length (left_at key) = marks_length key (left_at key) in
      let puts : length (left_at key) ≡ puts_in erases (reclaimed erases views (edits key)) = count_left (reclaimed erases views (edits key)) in
      let rest : length (all_left keys) ≡ blocks_in erases views keys edits = left_length keys in
      omega arith

  -- The blocks in use after a reclamation are as many as the held block versions, however those are listed.
  pub blocks_are_held : (keys : List ℕ) (held : List Mark) → Different keys → ((key : ℕ) → Pairwise OneOwner (edits key)) → ListsAllHeld erases views keys edits held → blocks_in erases views keys edits ≡ length held
  blocks_are_held keys held once one lists =
      let count : length (all_left keys) ≡ blocks_in erases views keys edits = left_length keys in
      let most : length (all_left keys) ≤ length held = fewer (all_left keys) held (left_apart one keys once) (λ m here. (let is : Contains keys m.key × IsHeldClock erases views (edits m.key) m.clock = left_keyed one keys m here in lists.each m.key m.clock is.0 is.1)) in
      let least : length held ≤ length (all_left keys) = fewer held (all_left keys) lists.once (λ m here. left_has one keys m.key m.clock (lists.keyed m here) (lists.only m here)) in
      omega arith
