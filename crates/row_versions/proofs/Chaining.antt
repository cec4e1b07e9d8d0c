-- The steps of a reclamation of one key.
use Rattle.std.proofs.Common.{ℕ, zero, suc, ◌+◌, ◌-◌, ◌<◌, ◌≤◌, ◌≡◌, Bool, true, false, List, [], ◌∷◌, ◌++◌, length, map, take, drop, set, Option, Some, refl, ap, sym, subst, ◌∙◌, arith}
use Rattle.std.specs.Prelude.{not, ◌&&◌, ◌||◌, if◌then◌else◌, filter, slice_get, slice_index_or}
use Rattle.std.specs.List.{list_any}
use Rattle.std.proofs.lemmas.Bool.{false≢true}
use Rattle.xact_core.specs.declared.snapshot.Snapshot.{Snapshot}
use Rattle.xact_core.specs.Kept.{kept_views}
use Rattle.xact_core.specs.Stamp.{sees_stamp}
use Rattle.xact_core.specs.Transactions.{Transactions}
use Rattle.row_versions.specs.declared.chain.Entry.{Entry}
use Rattle.row_versions.specs.Chain.{version_of, is_needed, flagged, cleared, sees_any, marked, marked_by, gone_at, unmarked}
use Rattle.row_versions.specs.Found.{is_erasure}
use Rattle.row_versions.specs.Stands.{Version, is_last_version, last_versions, trimmed_versions, vacuumed}

or_false : (b : Bool) → (b || false) ≡ b
or_false true = refl
or_false false = refl

and_not : (b c : Bool) → c ≡ true → (b && not c) ≡ false
and_not true c is = rw is refl
and_not false c is = refl

or_true : (b : Bool) → (b || true) ≡ true
or_true true = refl
or_true false = refl

or_again : (a b c : Bool) → ((a || b) || c) ≡ (a || (b || c))
or_again true b c = refl
or_again false b c = refl

nothing_marked : (D : Type 0) (x : Transactions) (views : List Snapshot) → marked_by {D = D} x views [] ≡ []
nothing_marked D x [] = refl
nothing_marked D x (v ∷ vs) = nothing_marked D x vs

module _ {D : Type 0} where
  -- the first marks cleared

  abbrev pub cleared_first : ℕ → List (Entry D) → List (Entry D)
  cleared_first zero es = es
  cleared_first (suc i) [] = []
  cleared_first (suc i) (e ∷ es) = cleared e ∷ cleared_first i es

  pub cleared_length : (i : ℕ) (es : List (Entry D)) → length (cleared_first i es) ≡ length es
  cleared_length zero es = refl
  cleared_length (suc i) [] = refl
  cleared_length (suc i) (e ∷ es) = ap suc (cleared_length i es)

  pub cleared_next : (i : ℕ) (es : List (Entry D)) (e d : Entry D) → i < length es → e ≡ slice_index_or (cleared_first i es) i d → set (cleared_first i es) i (cleared e) ≡ cleared_first (suc i) es
  cleared_next i [] e d within is = absurd (omega arith)
  cleared_next zero (f ∷ fs) e d within is = ap (λ (g : Entry D). cleared g ∷ fs) is
  cleared_next (suc i) (f ∷ fs) e d within is = ap (λ gs. cleared f ∷ gs) (cleared_next i fs e d (omega arith) is)

  pub cleared_all : (i : ℕ) (es : List (Entry D)) → length es ≤ i → cleared_first i es ≡ map cleared es
  cleared_all zero [] past = refl
  cleared_all zero (e ∷ es) past = absurd (omega arith)
  cleared_all (suc i) [] past = refl
  cleared_all (suc i) (e ∷ es) past = ap (λ fs. cleared e ∷ fs) (cleared_all i es (omega arith))

  -- the mark of a view

  unseen_stays : (x : Transactions) (v : Snapshot) (es : List (Entry D)) → sees_any x v es ≡ false → marked x v es ≡ es
  unseen_stays x v [] none = refl
  unseen_stays x v (e ∷ es) none = by_seen (sees_stamp x v e.stamp) refl none (unseen_stays x v es)
    where
      by_seen : (b : Bool) → sees_stamp x v e.stamp ≡ b → (b || sees_any x v es) ≡ false → (sees_any x v es ≡ false → marked x v es ≡ es) → flagged (e.needed || (b && not (sees_any x v es))) e ∷ marked x v es ≡ e ∷ es
      by_seen true at none left = absurd (false≢true (sym none))
      by_seen false at none left = rw (or_false e.needed) (ap (λ fs. e ∷ fs) (left none))

  any_at : (x : Transactions) (v : Snapshot) (es : List (Entry D)) (i : ℕ) (e d : Entry D) → i < length es → e ≡ slice_index_or es i d → sees_stamp x v e.stamp ≡ true → sees_any x v es ≡ true
  any_at x v [] i e d within is sees = absurd (omega arith)
  any_at x v (f ∷ fs) zero e d within is sees = let first : sees_stamp x v f.stamp ≡ true = ap (λ (g : Entry D). sees_stamp x v g.stamp) (sym is) ∙ sees in rw first refl
  any_at x v (f ∷ fs) (suc i) e d within is sees = by_first (sees_stamp x v f.stamp) (any_at x v fs i e d (omega arith) is sees)
    where
      by_first : (b : Bool) → sees_any x v fs ≡ true → (b || sees_any x v fs) ≡ true
      by_first true rest = refl
      by_first false rest = rest

  pub marked_at : (x : Transactions) (v : Snapshot) (es : List (Entry D)) (i : ℕ) (e d : Entry D) → i < length es → e ≡ slice_index_or es i d → sees_stamp x v e.stamp ≡ true → sees_any x v (drop (suc i) es) ≡ false → set es i (flagged true e) ≡ marked x v es
  marked_at x v [] i e d within is sees none = absurd (omega arith)
  marked_at x v (f ∷ fs) zero e d within is sees none =
      let first : sees_stamp x v f.stamp ≡ true = ap (λ (g : Entry D). sees_stamp x v g.stamp) (sym is) ∙ sees in
      rw (first, none, or_true f.needed, unseen_stays x v fs none) (ap (λ (g : Entry D). flagged true g ∷ fs) is)
  marked_at x v (f ∷ fs) (suc i) e d within is sees none =
      let some : sees_any x v fs ≡ true = any_at x v fs i e d (omega arith) is sees in
      rw (and_not (sees_stamp x v f.stamp) (sees_any x v fs) some, or_false f.needed) (ap (λ gs. f ∷ gs) (marked_at x v fs i e d (omega arith) is sees none))

  -- walking from the end, nothing was seen yet
  pub record NoneSeen (x : Transactions) (v : Snapshot) (old now : List (Entry D)) (i : ℕ) : Type 0 where
    pub same : now ≡ old
    pub within : i ≤ length now
    pub none : sees_any x v (drop i now) ≡ false

  none_more : (x : Transactions) (v : Snapshot) (es : List (Entry D)) (i : ℕ) (e d : Entry D) → i < length es → e ≡ slice_index_or es i d → sees_stamp x v e.stamp ≡ false → sees_any x v (drop (suc i) es) ≡ false → sees_any x v (drop i es) ≡ false
  none_more x v [] i e d within is unseen none = absurd (omega arith)
  none_more x v (f ∷ fs) zero e d within is unseen none = let first : sees_stamp x v f.stamp ≡ false = ap (λ (g : Entry D). sees_stamp x v g.stamp) (sym is) ∙ unseen in rw first none
  none_more x v (f ∷ fs) (suc i) e d within is unseen none = none_more x v fs i e d (omega arith) is unseen none

  -- all views' marks, and what is left by them

  seen_as_was : (x : Transactions) (u v : Snapshot) (es : List (Entry D)) → sees_any x u (marked x v es) ≡ sees_any x u es
  seen_as_was x u v [] = refl
  seen_as_was x u v (e ∷ es) = ap (λ (b : Bool). sees_stamp x u e.stamp || b) (seen_as_was x u v es)

  marks_first : (x : Transactions) (views : List Snapshot) (e : Entry D) (es : List (Entry D)) → marked_by x views (e ∷ es) ≡ flagged (e.needed || list_any (λ u. sees_stamp x u e.stamp && not (sees_any x u es)) views) e ∷ marked_by x views es
  marks_first x [] e es = rw (or_false e.needed) refl
  marks_first x (v ∷ vs) e es =
      marks_first x vs (flagged (e.needed || (sees_stamp x v e.stamp && not (sees_any x v es))) e) (marked x v es)
      ∙ (ap (λ (b : Bool). flagged ((e.needed || (sees_stamp x v e.stamp && not (sees_any x v es))) || b) e ∷ marked_by x vs (marked x v es)) (same_tests vs)
      ∙ ap (λ (b : Bool). flagged b e ∷ marked_by x vs (marked x v es)) (or_again e.needed (sees_stamp x v e.stamp && not (sees_any x v es)) (list_any (λ u. sees_stamp x u e.stamp && not (sees_any x u es)) vs)))
    where
      same_tests : (us : List Snapshot) → list_any (λ u. sees_stamp x u e.stamp && not (sees_any x u (marked x v es))) us ≡ list_any (λ u. sees_stamp x u e.stamp && not (sees_any x u es)) us
      same_tests [] = refl
      same_tests (u ∷ us) = rw (seen_as_was x u v es, same_tests us) refl

  seen_versions : (x : Transactions) (u : Snapshot) (es : List (Entry D)) → sees_any x u (map cleared es) ≡ list_any (λ (w : Version (Option D)). sees_stamp x u w.stamp) (map version_of es)
  seen_versions x u [] = refl
  seen_versions x u (e ∷ es) = ap (λ (b : Bool). sees_stamp x u e.stamp || b) (seen_versions x u es)

  last_as : (x : Transactions) (views : List Snapshot) (e : Entry D) (es : List (Entry D)) → list_any (λ u. sees_stamp x u e.stamp && not (sees_any x u (map cleared es))) views ≡ is_last_version x views (version_of e) (map version_of es)
  last_as x [] e es = refl
  last_as x (v ∷ vs) e es = rw (seen_versions x v es, last_as x vs e es) refl

  pub marks_leave : (x : Transactions) (views : List Snapshot) (es : List (Entry D)) → map version_of (filter is_needed (marked_by x views (map cleared es))) ≡ last_versions x views (map version_of es)
  marks_leave x views [] = ap (λ fs. map version_of (filter is_needed fs)) (nothing_marked D x views)
  marks_leave x views (e ∷ es) =
      ap (λ fs. map version_of (filter is_needed fs)) (marks_first x views (cleared e) (map cleared es))
      ∙ (rw (last_as x views e es) (by_last (is_last_version x views (version_of e) (map version_of es)) (marks_leave x views es)))
    where
      by_last : (b : Bool) → map version_of (filter is_needed (marked_by x views (map cleared es))) ≡ last_versions x views (map version_of es) → map version_of (filter is_needed (flagged b e ∷ marked_by x views (map cleared es))) ≡ (if b then version_of e ∷ last_versions x views (map version_of es) else last_versions x views (map version_of es))
      by_last true rest = ap (λ vs. version_of e ∷ vs) rest
      by_last false rest = rest

  pub unmarks_leave : (x : Transactions) (es : List (Entry D)) → map version_of (filter is_needed (unmarked x es)) ≡ trimmed_versions is_erasure x (map version_of (filter is_needed es))
  unmarks_leave x [] = refl
  unmarks_leave x (e ∷ es) = by_tests e.needed (gone_at x e) refl refl (unmarks_leave x es)
    where
      by_tests : (a b : Bool) → e.needed ≡ a → gone_at x e ≡ b → map version_of (filter is_needed (unmarked x es)) ≡ trimmed_versions is_erasure x (map version_of (filter is_needed es)) → map version_of (filter is_needed (unmarked x (e ∷ es))) ≡ trimmed_versions is_erasure x (map version_of (filter is_needed (e ∷ es)))
      by_tests true true at gone rest = rw (at, gone) rest
      by_tests true false at gone rest = rw (at, gone) refl
      by_tests false b at gone rest = rw at rest

  pub reclaims : (x : Transactions) (es : List (Entry D)) → map version_of (filter is_needed (unmarked x (marked_by x (kept_views x) (map cleared es)))) ≡ vacuumed is_erasure x (map version_of es)
  reclaims x es = unmarks_leave x (marked_by x (kept_views x) (map cleared es)) ∙ ap (trimmed_versions is_erasure x) (marks_leave x (kept_views x) es)

  -- the loop over views

  pub view_next : (x : Transactions) (views : List Snapshot) (k : ℕ) (v : Snapshot) (es : List (Entry D)) → slice_get views k ≡ Some v → marked_by x (drop k views) es ≡ marked_by x (drop (suc k) views) (marked x v es)
  view_next x [] k v es at = absurd (grind arith)
  view_next x (u ∷ us) zero v es at = ap (λ (w : Snapshot). marked_by x us (marked x w es)) (grind arith)
  view_next x (u ∷ us) (suc k) v es at = view_next x us k v es at

  -- the loop that takes marks off

  pub trim_skips : (x : Transactions) (es : List (Entry D)) (i : ℕ) (e d : Entry D) → i < length es → e ≡ slice_index_or es i d → e.needed ≡ false → take (suc i) es ++ unmarked x (drop (suc i) es) ≡ take i es ++ unmarked x (drop i es)
  trim_skips x [] i e d within is unneeded = absurd (omega arith)
  trim_skips x (f ∷ fs) zero e d within is unneeded = let first : f.needed ≡ false = ap (λ (g : Entry D). g.needed) (sym is) ∙ unneeded in rw first refl
  trim_skips x (f ∷ fs) (suc i) e d within is unneeded = ap (λ gs. f ∷ gs) (trim_skips x fs i e d (omega arith) is unneeded)

  pub trim_takes : (x : Transactions) (es : List (Entry D)) (i : ℕ) (e d : Entry D) → i < length es → e ≡ slice_index_or es i d → e.needed ≡ true → gone_at x e ≡ true → take (suc i) (set es i (cleared e)) ++ unmarked x (drop (suc i) (set es i (cleared e))) ≡ take i es ++ unmarked x (drop i es)
  trim_takes x [] i e d within is needed gone = absurd (omega arith)
  trim_takes x (f ∷ fs) zero e d within is needed gone =
      let first : f.needed ≡ true = ap (λ (g : Entry D). g.needed) (sym is) ∙ needed in
      let second : gone_at x f ≡ true = ap (gone_at x) (sym is) ∙ gone in
      rw (first, second) (ap (λ (g : Entry D). cleared g ∷ unmarked x fs) is)
  trim_takes x (f ∷ fs) (suc i) e d within is needed gone = ap (λ gs. f ∷ gs) (trim_takes x fs i e d (omega arith) is needed gone)

  pub trim_stops : (x : Transactions) (es : List (Entry D)) (i : ℕ) (e d : Entry D) → i < length es → e ≡ slice_index_or es i d → e.needed ≡ true → gone_at x e ≡ false → es ≡ take i es ++ unmarked x (drop i es)
  trim_stops x [] i e d within is needed stays = absurd (omega arith)
  trim_stops x (f ∷ fs) zero e d within is needed stays =
      let first : f.needed ≡ true = ap (λ (g : Entry D). g.needed) (sym is) ∙ needed in
      let second : gone_at x f ≡ false = ap (gone_at x) (sym is) ∙ stays in
      rw (first, second) refl
  trim_stops x (f ∷ fs) (suc i) e d within is needed stays = ap (λ gs. f ∷ gs) (trim_stops x fs i e d (omega arith) is needed stays)

  pub trim_ends : (x : Transactions) (es : List (Entry D)) (i : ℕ) → length es ≤ i → take i es ++ unmarked x (drop i es) ≡ es
  trim_ends x [] zero past = refl
  trim_ends x [] (suc i) past = refl
  trim_ends x (f ∷ fs) zero past = absurd (omega arith)
  trim_ends x (f ∷ fs) (suc i) past = ap (λ gs. f ∷ gs) (trim_ends x fs i (omega arith))

  pub none_before : (x : Transactions) (v : Snapshot) (es : List (Entry D)) (i : ℕ) (e d : Entry D) → i < length es → e ≡ slice_index_or es i d → sees_stamp x v e.stamp ≡ false → sees_any x v (drop (suc i) es) ≡ false → sees_any x v (drop i es) ≡ false
  none_before x v es i e d within is unseen none = none_more x v es i e d within is unseen none

  pub none_at_all : (x : Transactions) (v : Snapshot) (old now : List (Entry D)) → NoneSeen x v old now 0 → now ≡ marked x v old
  none_at_all x v old now h = h.same ∙ sym (unseen_stays x v old (subst (λ (es : List (Entry D)). sees_any x v es ≡ false) h.same h.none))

  -- the steps of the loops, in the words of their goals

  pub at_same : (es : List (Entry D)) (k : ℕ) (d d' : Entry D) → k < length es → slice_index_or es k d ≡ slice_index_or es k d'
  at_same [] k d d' within = absurd (omega arith)
  at_same (e ∷ es) zero d d' within = refl
  at_same (e ∷ es) (suc k) d d' within = at_same es k d d' (omega arith)

  pub clear_step : (i : ℕ) (old now : List (Entry D)) (e : Entry D) → now ≡ cleared_first i old → i < length old → e ≡ slice_index_or now i e → set now i (cleared e) ≡ cleared_first (i + 1) old
  clear_step i old now e done within is =
      let next : suc i ≡ i + 1 = omega arith in
      ap (λ (es : List (Entry D)). set es i (cleared e)) done ∙ (cleared_next i old e e within (subst (λ (es : List (Entry D)). e ≡ slice_index_or es i e) done is) ∙ ap (λ (n : ℕ). cleared_first n old) next)

  pub mark_step : (x : Transactions) (v : Snapshot) (old now : List (Entry D)) (i : ℕ) (e f : Entry D) → NoneSeen x v old now i → 0 < i → e ≡ slice_index_or now (i - 1) e → sees_stamp x v e.stamp ≡ true → f ≡ slice_index_or now (i - 1) f → set now (i - 1) (flagged true f) ≡ marked x v old
  mark_step x v old now i e f walked some is sees is' =
      let within : i - 1 < length now = omega (arith, walked.within, some) in
      let same : e ≡ f = is ∙ (at_same now (i - 1) e f within ∙ sym is') in
      let next : i ≡ suc (i - 1) = omega arith in
      marked_at x v now (i - 1) f f within is' (ap (λ (g : Entry D). sees_stamp x v g.stamp) (sym same) ∙ sees) (subst (λ (n : ℕ). sees_any x v (drop n now) ≡ false) next walked.none)
      ∙ ap (marked x v) walked.same

  pub mark_end : (x : Transactions) (v : Snapshot) (old now : List (Entry D)) (i : ℕ) → NoneSeen x v old now i → i ≤ 0 → now ≡ marked x v old
  mark_end x v old now i walked end = let zero_is : i ≡ 0 = omega arith in none_at_all x v old now (subst (λ (n : ℕ). NoneSeen x v old now n) zero_is walked)

  pub view_step : (x : Transactions) (k : ℕ) (v : Snapshot) (es new whole : List (Entry D)) → marked_by x (drop k (kept_views x)) es ≡ whole → slice_get (kept_views x) k ≡ Some v → new ≡ marked x v es → marked_by x (drop (k + 1) (kept_views x)) new ≡ whole
  view_step x k v es new whole left at done =
      let next : suc k ≡ k + 1 = omega arith in
      ap (marked_by x (drop (k + 1) (kept_views x))) done
      ∙ (ap (λ (n : ℕ). marked_by x (drop n (kept_views x)) (marked x v es)) (sym next)
      ∙ (sym (view_next x (kept_views x) k v es at) ∙ left))
