-- The relation through each call of the transactions, a put, and a reclamation.
use Rattle.std.proofs.Common.{ℕ, ◌+◌, ◌-◌, ◌<◌, ◌≤◌, ◌≡◌, ◌⊎◌, inl, inr, Bool, true, false, cond, List, [], ◌∷◌, ◌++◌, length, take, Option, Some, None, refl, ap, sym, subst, ◌∙◌, arith, append-nil}
use Rattle.std.specs.Prelude.{◌&&◌, ◌||◌, not, if◌then◌else◌, Contains, option_and_then}
use Rattle.std.specs.List.{list_any}
use Rattle.std.proofs.lemmas.Bool.{cases_eq, cases_lt}
use Rattle.std.proofs.lemmas.Bool.Decides.{nat_tests}
use Rattle.std.proofs.lemmas.List.{length-take}
use Rattle.std.proofs.lemmas.List.Elements.{filter-append, Contains-push_cases}
use Rattle.lo_model.specs.declared.owner.Owner.{Owner}
use Rattle.lo_model.specs.declared.owner.Owner.TheVariants.{Running, Committed}
use Rattle.lo_model.specs.declared.viewer.Viewer.{Viewer}
use Rattle.lo_model.specs.declared.viewer.Viewer.TheVariants.{Nobody, Whole, Below}
use Rattle.lo_model.specs.Edit.{Edit}
use Rattle.lo_model.specs.Levels.{is_from_level, released_owner, committed_owner, released, undone, committed}
use Rattle.lo_model.specs.View.{sees, sees_edit, view}
use Rattle.xact_core.specs.declared.snapshot.Snapshot.{Snapshot}
use Rattle.xact_core.specs.Ends.{Turns, same, release, undo, commit_at, Opens}
use Rattle.xact_core.specs.Kept.{view_at, kept_views}
use Rattle.xact_core.specs.Stamp.{made_at, owner_of, IsIssued, sees_made, sees_stamp}
use Rattle.xact_core.specs.Transactions.{Transactions, levels_of, HasLevels}
use Rattle.row_versions.specs.Stack.{Each, IsOwner, IsMade, IsStack, owned, turned, KeepsStacks, IsFreeFor}
use Rattle.row_versions.specs.Looks.{IsLook, IsCovered}
use Rattle.xact_core.specs.Kept.{KeptBy, ByNobody, ByWhole, ByBelow, ByHold, LooksWhole, HoldsWholeViews}
use Rattle.row_versions.specs.Vacuum.{has_seen, last_in, last_seen, put_of, found, is_last, lasts, is_committed, trimmed, reclaimed}
use Rattle.row_versions.specs.Stands.{Version, edit_of, standing_of, standing, Fits, after_all, HasMark, replaces, StandsAt, Stands, is_last_version, last_versions, is_gone, trimmed_versions, vacuumed, IsPutBy, IsSettled, IsNew, made_now, AddsOwn, Erases}
use Rattle.row_versions.proofs.Stacking.{each_more, each_end, stack_pushed, release_keeps, undo_keeps, abort_keeps, commit_keeps, later_keeps, opens_more, levels_here, levels_apart}
use Rattle.row_versions.proofs.Keeping.{kept_is, nobody_kept, held_kept}
use Rattle.row_versions.proofs.Covering.{Undoes, sees_past, release_covers, undo_covers, commit_covers, tick_covers, held_covers, opens_covers}
use Rattle.row_versions.proofs.Vacuuming.{reclaimed_found, reclaimed_each, reclaimed_stack, any_contains}
use Rattle.row_versions.proofs.Agreeing.{linked_each, stands_turned}

module _ {D E S : Type 0} (value : ℕ → D → S) (after : S → ℕ → E → S) (first : S) where
  pub stands_released : (s k : ℕ) (old new : Transactions) (vs : List (Version D)) (ys : List (Edit E)) → 1 ≤ s → 2 ≤ k → k ≤ length (levels_of old s) → Turns (release s k) old new → HasLevels s (take (k - 1) (levels_of old s)) old new → new.clock ≡ old.clock → new.held ≡ old.held → HoldsWholeViews old → Stands old value after first vs ys → Stands new value after first vs (turned (release s k) ys)
  stands_released s k old new vs ys one low high turns has clock held readers stands =
      stands_turned (IsLook old) (IsLook new) value after first (release s k) old new vs ys (release_keeps s k old new one low high has clock) turns (release_covers s k old new one low high has clock held readers ys) stands

  pub stands_undone : (s k : ℕ) (old new : Transactions) (vs : List (Version D)) (ys : List (Edit E)) → 1 ≤ s → 1 ≤ k → k ≤ length (levels_of old s) → Turns (undo s k) old new → HasLevels s (take k (levels_of old s)) old new → new.clock ≡ old.clock → new.held ≡ old.held → HoldsWholeViews old → Stands old value after first vs ys → Stands new value after first vs (turned (undo s k) ys)
  stands_undone s k old new vs ys one low high turns has clock held readers stands =
      stands_turned (IsLook old) (IsLook new) value after first (undo s k) old new vs ys (undo_keeps s k old new one low high has clock) turns (undo_covers s k old new by readers ys stands.edits) stands
    where
      here : length (levels_of new s) ≡ k
      here = ap (λ (names : List (Option (List ℕ))). length names) (levels_here s _ old new has (omega arith)) ∙ (omega (arith, length-take k (levels_of old s)))

      by : Undoes s k old new
      by = record { first = one; low = low; high = high; left = omega (arith, here); others = λ t low' apart. levels_apart s _ old new has t one low' apart; clock = clock; held = held }

  pub stands_aborted : (s : ℕ) (old new : Transactions) (vs : List (Version D)) (ys : List (Edit E)) → 1 ≤ s → 0 < length (levels_of old s) → Turns (undo s 1) old new → HasLevels s [] old new → new.clock ≡ old.clock → new.held ≡ old.held → HoldsWholeViews old → Stands old value after first vs ys → Stands new value after first vs (turned (undo s 1) ys)
  stands_aborted s old new vs ys one some turns has clock held readers stands =
      stands_turned (IsLook old) (IsLook new) value after first (undo s 1) old new vs ys (abort_keeps s old new one has clock) turns (undo_covers s 1 old new by readers ys stands.edits) stands
    where
      here : length (levels_of new s) ≡ 0
      here = ap (λ (names : List (Option (List ℕ))). length names) (levels_here s _ old new has some)

      by : Undoes s 1 old new
      by = record { first = one; low = omega arith; high = omega (arith, some); left = omega (arith, here); others = λ t low' apart. levels_apart s _ old new has t one low' apart; clock = clock; held = held }

  pub stands_committed : (s : ℕ) (old new : Transactions) (vs : List (Version D)) (ys : List (Edit E)) → 1 ≤ s → 0 < length (levels_of old s) → Turns (commit_at s old.clock) old new → HasLevels s [] old new → new.clock ≡ old.clock → new.held ≡ old.held → HoldsWholeViews old → Stands old value after first vs ys → Stands new value after first vs (turned (commit_at s old.clock) ys)
  stands_committed s old new vs ys one some turns has clock held readers stands =
      stands_turned (IsLook old) (IsLook new) value after first (commit_at s old.clock) old new vs ys (commit_keeps s old new one has clock) turns (commit_covers s old new one some has clock held readers ys stands.edits) stands

  -- calls that change no owner

  pub turned_same : {X : Type 0} (es : List (Edit X)) → turned same es ≡ es
  turned_same [] = refl
  turned_same (e ∷ es) = ap (λ rest. e ∷ rest) (turned_same es)

  stands_same : (old new : Transactions) (vs : List (Version D)) (ys : List (Edit E)) → KeepsStacks same old new → Turns same old new → ((v : Snapshot) → IsLook new v → IsCovered same old ys v) → Stands old value after first vs ys → Stands new value after first vs ys
  stands_same old new vs ys keeps turns covers stands = subst (λ es. Stands new value after first vs es) (turned_same ys) (stands_turned (IsLook old) (IsLook new) value after first same old new vs ys keeps turns covers stands)

  and_same : (o : Option Owner) → o ≡ option_and_then same o
  and_same None = refl
  and_same (Some w) = refl

  pub stands_ticked : (old : Transactions) (vs : List (Version D)) (ys : List (Edit E)) → Stands old value after first vs ys → Stands (record old { clock = old.clock + 1 }) value after first vs ys
  stands_ticked old vs ys stands =
      stands_same old (record old { clock = old.clock + 1 }) vs ys
      (later_keeps old (record old { clock = old.clock + 1 }) (omega arith) (λ t low. omega arith))
      (record { owners = λ st given. and_same (owner_of old st); issued = λ st given. record { place = given.place; undos = given.undos; clock = omega (arith, given.clock) } })
      (tick_covers old ys stands.edits)
      stands

  pub stands_opened : (s : ℕ) (name : Option (List ℕ)) (old new : Transactions) (vs : List (Version D)) (ys : List (Edit E)) → 1 ≤ s → Opens s name old new → Stands old value after first vs ys → Stands new value after first vs ys
  stands_opened s name old new vs ys one opens stands = stands_same old new vs ys (later_keeps old new (omega (arith, opens.clock)) (opens_more s name old new one opens.levels)) opens.owners (opens_covers s name old new one opens.levels opens.clock opens.held ys stands.edits) stands

  pub stands_holding : (old : Transactions) (held : List Snapshot) (vs : List (Version D)) (ys : List (Edit E)) → ((v : Snapshot) → Contains held v → Contains (kept_views old) v) → Stands old value after first vs ys → Stands (record old { held = held }) value after first vs ys
  stands_holding old held vs ys were stands =
      stands_same old (record old { held = held }) vs ys
      (later_keeps old (record old { held = held }) (omega arith) (λ t low. omega arith))
      (record { owners = λ st given. and_same (owner_of old st); issued = λ st given. record { place = given.place; undos = given.undos; clock = given.clock } })
      (held_covers old held ys were)
      stands

  pub stands_held : (old : Transactions) (v : Snapshot) (vs : List (Version D)) (ys : List (Edit E)) → Contains (kept_views old) v → Stands old value after first vs ys → Stands (record old { held = old.held ++ v ∷ [] }) value after first vs ys
  stands_held old v vs ys kept stands = stands_holding old (old.held ++ v ∷ []) vs ys were stands
    where
      by_end : (u : Snapshot) → Contains old.held u ⊎ (v ≡ u) → Contains (kept_views old) u
      by_end u (inl before) = held_kept old u before
      by_end u (inr is) = subst (λ (w : Snapshot). Contains (kept_views old) w) is kept

      were : (u : Snapshot) → Contains (old.held ++ v ∷ []) u → Contains (kept_views old) u
      were u here = by_end u (Contains-push_cases old.held v u here)

  pub stands_let_go : (old : Transactions) (held : List Snapshot) (vs : List (Version D)) (ys : List (Edit E)) → ((v : Snapshot) → Contains held v → Contains old.held v) → Stands old value after first vs ys → Stands (record old { held = held }) value after first vs ys
  stands_let_go old held vs ys were stands = stands_holding old held vs ys (λ v here. held_kept old v (were v here)) stands

-- the model's words for what an end makes of edits

pub turned_released : {E : Type 0} (s k : ℕ) (edits : List (Edit E)) → turned (release s k) edits ≡ released s k edits
turned_released s k [] = refl
turned_released s k (e ∷ es) = ap (λ rest. owned (released_owner s k e.owner) e ∷ rest) (turned_released s k es)

pub turned_committed : {E : Type 0} (s clock : ℕ) (edits : List (Edit E)) → turned (commit_at s clock) edits ≡ committed s clock edits
turned_committed s clock [] = refl
turned_committed s clock (e ∷ es) = ap (λ rest. owned (committed_owner s clock e.owner) e ∷ rest) (turned_committed s clock es)

pub turned_undone : {E : Type 0} (s k : ℕ) (edits : List (Edit E)) → turned (undo s k) edits ≡ undone s k edits
turned_undone s k [] = refl
turned_undone {E} s k (e ∷ es) = by_test (is_from_level s k e.owner) refl (turned_undone s k es)
  where
    by_test : (b : Bool) → is_from_level s k e.owner ≡ b → turned (undo s k) es ≡ undone s k es → turned (undo s k) (e ∷ es) ≡ undone s k (e ∷ es)
    by_test true is left = rw is left
    by_test false is left = rw is (ap (λ rest. e ∷ rest) left)

pub stands_edits : {D E S : Type 0} (value : ℕ → D → S) (after : S → ℕ → E → S) (first : S) (x : Transactions) (vs : List (Version D)) (ys zs : List (Edit E)) → ys ≡ zs → Stands x value after first vs ys → Stands x value after first vs zs
stands_edits {D} {E} value after first x vs ys zs is stands = subst (λ (es : List (Edit E)). Stands x value after first vs es) is stands

-- a place that nothing was done to
pub stands_none : {D E S : Type 0} (value : ℕ → D → S) (after : S → ℕ → E → S) (first : S) (x : Transactions) → Stands {D = D} {E = E} x value after first [] []
stands_none value after first x = record { fits = tt; versions = record { made = tt; order = tt }; edits = record { made = tt; order = tt }; linked = tt; same = record { same = λ v kept. refl } }

-- One edit more

pub standing_end : {D : Type 0} (x : Transactions) (v : Version D) (w : Owner) → owner_of x v.stamp ≡ Some w → (vs : List (Version D)) → standing x (vs ++ v ∷ []) ≡ standing x vs ++ edit_of v w ∷ []
standing_end x v w is [] = rw is refl
standing_end {D} x v w is (u ∷ us) = by_owner (owner_of x u.stamp) (standing_end x v w is us)
  where
    by_owner : (o : Option Owner) → standing x (us ++ v ∷ []) ≡ standing x us ++ edit_of v w ∷ [] → standing_of o u (standing x (us ++ v ∷ [])) ≡ standing_of o u (standing x us) ++ edit_of v w ∷ []
    by_owner None rest = rest
    by_owner (Some p) rest = ap (λ es. edit_of u p ∷ es) rest

-- what a kept view sees of an edit that is made now: nothing, or it is the maker's own view
pub record SeesAsOwn (x : Transactions) (s : ℕ) (v : Snapshot) : Type 0 where
  pub new : sees v.clock v.viewer x.clock (Running s (length (levels_of x s))) ≡ true
  pub as_own : (made : ℕ) (w : Owner) → made ≤ x.clock → IsOwner x made w → sees v.clock v.viewer made w ≡ sees (x.clock + 1) (Whole s) made w

abbrev NewSeen : Transactions → ℕ → Snapshot → Type 0
NewSeen x s v = (sees v.clock v.viewer x.clock (Running s (length (levels_of x s))) ≡ false) ⊎ SeesAsOwn x s v

whole_new : (x : Transactions) (s t n : ℕ) → (t ≡ s) ⊎ (t ≡ s → ⊥) → (x.clock < n) ⊎ (n ≤ x.clock) → NewSeen x s (view_at n (Whole t))
whole_new x s t n (inr apart) when = inl (grind (arith, nat_tests))
whole_new x s t n (inl is) (inr early) = inl (grind (arith, nat_tests))
whole_new x s t n (inl is) (inl late) = inr (record { new = grind (arith, nat_tests); as_own = as_own })
  where
    as_own : (made : ℕ) (w : Owner) → made ≤ x.clock → IsOwner x made w → sees n (Whole t) made w ≡ sees (x.clock + 1) (Whole s) made w
    as_own made (Committed a) past owner = let was : a ≤ x.clock = owner.1 in grind (arith, nat_tests)
    as_own made (Running u l) past owner = grind (arith, nat_tests)

new_seen : (x : Transactions) (s : ℕ) (v : Snapshot) → HoldsWholeViews x → IsLook x v → NewSeen x s v
new_seen x s v readers kept = by_way (kept_is x v kept)
  where
    top : ℕ
    top = length (levels_of x s)

    held_case : (n : ℕ) (w : Viewer) → LooksWhole w → NewSeen x s (view_at n w)
    held_case n Nobody whole = inl (grind (arith, nat_tests))
    held_case n (Whole t) whole = whole_new x s t n (cases_eq t s) (cases_lt x.clock n)
    held_case n (Below t l) whole = absurd whole

    below_case : (t l : ℕ) → l ≤ length (levels_of x t) → (t ≡ s) ⊎ (t ≡ s → ⊥) → NewSeen x s (view_at (x.clock + 1) (Below t l))
    below_case t l most (inl is) = let within : l ≤ length (levels_of x s) = subst (λ (u : ℕ). l ≤ length (levels_of x u)) is most in inl (grind (arith, nat_tests))
    below_case t l most (inr apart) = inl (grind (arith, nat_tests))

    by_way : KeptBy x v → NewSeen x s v
    by_way (ByNobody is) = rw is (inl (grind (arith, nat_tests)))
    by_way (ByWhole t low some is) = rw is (whole_new x s t (x.clock + 1) (cases_eq t s) (cases_lt x.clock (x.clock + 1)))
    by_way (ByBelow t l low one most is) = rw is (below_case t l most (cases_eq t s))
    by_way (ByHold held) = held_case v.clock v.viewer (readers.whole v held)

-- any view at all sees an edit that is made now as its maker's own view does, or not
below_new : (x : Transactions) (s t k n : ℕ) → (t ≡ s) ⊎ (t ≡ s → ⊥) → (length (levels_of x s) < k) ⊎ (k ≤ length (levels_of x s)) → (x.clock < n) ⊎ (n ≤ x.clock) → NewSeen x s (view_at n (Below t k))
below_new x s t k n (inr apart) high when = inl (grind (arith, nat_tests))
below_new x s t k n (inl is) high (inr early) = inl (grind (arith, nat_tests))
below_new x s t k n (inl is) (inr low) (inl late) = inl (grind (arith, nat_tests))
below_new x s t k n (inl is) (inl high) (inl late) = inr (record { new = grind (arith, nat_tests); as_own = as_own })
  where
    as_own : (made : ℕ) (w : Owner) → made ≤ x.clock → IsOwner x made w → sees n (Below t k) made w ≡ sees (x.clock + 1) (Whole s) made w
    as_own made (Committed a) past owner = let was : a ≤ x.clock = owner.1 in grind (arith, nat_tests)
    as_own made (Running u l) past owner = by_equal (cases_eq u s)
      where
        by_equal : (u ≡ s) ⊎ (u ≡ s → ⊥) → sees n (Below t k) made (Running u l) ≡ sees (x.clock + 1) (Whole s) made (Running u l)
        by_equal (inl own) = let within : l ≤ length (levels_of x s) = subst (λ (i : ℕ). l ≤ length (levels_of x i)) own owner.2 in grind (arith, nat_tests)
        by_equal (inr other) = grind (arith, nat_tests)

pub new_seen_any : (x : Transactions) (s : ℕ) (v : Snapshot) → NewSeen x s v
new_seen_any x s v = by_viewer v.clock v.viewer
  where
    by_viewer : (n : ℕ) (w : Viewer) → NewSeen x s (view_at n w)
    by_viewer n Nobody = inl (grind (arith, nat_tests))
    by_viewer n (Whole t) = whole_new x s t n (cases_eq t s) (cases_lt x.clock n)
    by_viewer n (Below t k) = below_new x s t k n (cases_eq t s) (cases_lt (length (levels_of x s)) k) (cases_lt x.clock n)

pub view_same : {D : Type 0} (v u : Snapshot) (es : List (Edit D)) → Each (λ (e : Edit D). sees v.clock v.viewer e.clock e.owner ≡ sees u.clock u.viewer e.clock e.owner) es → view v.clock v.viewer es ≡ view u.clock u.viewer es
view_same v u [] alike = refl
view_same v u (e ∷ es) alike = let first : sees v.clock v.viewer e.clock e.owner ≡ sees u.clock u.viewer e.clock e.owner = alike.0 in rw (first, view_same v u es alike.1) refl

after_end : {D S : Type 0} (after : S → ℕ → D → S) (old : S) (es : List (Edit D)) (e : Edit D) → after_all after old (es ++ e ∷ []) ≡ after (after_all after old es) e.clock e.deed
after_end after old [] e = refl
after_end after old (f ∷ fs) e = after_end after (after old f.clock f.deed) fs e

-- what a view makes of a place with one edit more
pub after_unseen : {D S : Type 0} (after : S → ℕ → D → S) (first : S) (v : Snapshot) (es : List (Edit D)) (e : Edit D) → sees v.clock v.viewer e.clock e.owner ≡ false → after_all after first (view v.clock v.viewer (es ++ e ∷ [])) ≡ after_all after first (view v.clock v.viewer es)
after_unseen {D} after first v es e unseen =
    let front : view v.clock v.viewer (es ++ e ∷ []) ≡ view v.clock v.viewer es ++ view v.clock v.viewer (e ∷ []) = filter-append (sees_edit {D = D} v.clock v.viewer) es (e ∷ []) in
    let none : view v.clock v.viewer (e ∷ []) ≡ [] = rw unseen refl in
    ap (after_all after first) front ∙ rw none (ap (after_all after first) (append-nil (view v.clock v.viewer es)))

pub after_seen : {D S : Type 0} (after : S → ℕ → D → S) (first : S) (v : Snapshot) (es : List (Edit D)) (e : Edit D) → sees v.clock v.viewer e.clock e.owner ≡ true → after_all after first (view v.clock v.viewer (es ++ e ∷ [])) ≡ after (after_all after first (view v.clock v.viewer es)) e.clock e.deed
after_seen {D} after first v es e seen =
    let front : view v.clock v.viewer (es ++ e ∷ []) ≡ view v.clock v.viewer es ++ view v.clock v.viewer (e ∷ []) = filter-append (sees_edit {D = D} v.clock v.viewer) es (e ∷ []) in
    let one : view v.clock v.viewer (e ∷ []) ≡ e ∷ [] = rw seen refl in
    ap (after_all after first) front ∙ rw one (after_end after first (view v.clock v.viewer es) e)

mark_front : {E : Type 0} (c : ℕ) (w : Owner) (ys : List (Edit E)) (f : Edit E) → HasMark c w ys → HasMark c w (ys ++ f ∷ [])
mark_front c w [] f mark = absurd mark
mark_front c w (y ∷ ys) f (inl is) = inl is
mark_front c w (y ∷ ys) f (inr later) = inr (mark_front c w ys f later)

mark_end : {E : Type 0} (ys : List (Edit E)) (f : Edit E) → HasMark f.clock f.owner (ys ++ f ∷ [])
mark_end [] f = inl (refl, refl)
mark_end (y ∷ ys) f = inr (mark_end ys f)

pub stands_pushed_in : {D E S : Type 0} (W : Snapshot → Type 0) (value : ℕ → D → S) (after : S → ℕ → E → S) (first : S) (x : Transactions) (s : ℕ) (vs : List (Version D)) (ys : List (Edit E)) (put : Version D) (deed : E) → 1 ≤ s → 0 < length (levels_of x s) → ((v : Snapshot) → W v → NewSeen x s v) → IsNew x s put → Each (λ (e : Edit E). IsFreeFor s e.owner) ys → value x.clock put.deed ≡ after (after_all after first (view (x.clock + 1) (Whole s) ys)) x.clock deed → StandsAt W x value after first vs ys → StandsAt W x value after first (vs ++ put ∷ []) (ys ++ made_now x s deed ∷ [])
stands_pushed_in {D} {E} {S} W value after first x s vs ys put deed one some sees_new new free makes stands =
    record {
      fits = each_end (λ (v : Version D). IsIssued x v.stamp) vs put stands.fits new.issued;
      versions = rw are (stack_pushed x s put.deed (standing x vs) one some stands.versions (linked_each (λ (c : ℕ) (w : Owner). IsFreeFor s w) (standing x vs) ys free stands.linked));
      edits = stack_pushed x s deed ys one some stands.edits free;
      linked = rw are (each_end (λ (e : Edit D). HasMark e.clock e.owner (ys ++ made ∷ [])) (standing x vs) mine (each_more (λ (e : Edit D). HasMark e.clock e.owner ys) (λ (e : Edit D). HasMark e.clock e.owner (ys ++ made ∷ [])) (λ e mark. mark_front e.clock e.owner ys made mark) (standing x vs) stands.linked) (mark_end ys made));
      same = rw are (record { same = λ v kept. by_seen v kept (sees_new v kept) });
    }
  where
    made : Edit E
    made = made_now x s deed

    mine : Edit D
    mine = made_now x s put.deed

    are : standing x (vs ++ put ∷ []) ≡ standing x vs ++ mine ∷ []
    are = standing_end x put (Running s (length (levels_of x s))) new.owner vs ∙ ap (λ (c : ℕ). standing x vs ++ record { clock = c; owner = Running s (length (levels_of x s)); deed = put.deed } ∷ []) new.clock

    by_seen : (v : Snapshot) → W v → NewSeen x s v → after_all (replaces value) first (view v.clock v.viewer (standing x vs ++ mine ∷ [])) ≡ after_all after first (view v.clock v.viewer (ys ++ made ∷ []))
    by_seen v kept (inl unseen) = after_unseen (replaces value) first v (standing x vs) mine unseen ∙ (stands.same.same v kept ∙ sym (after_unseen after first v ys made unseen))
    by_seen v kept (inr own) =
        let as_own : view v.clock v.viewer ys ≡ view (x.clock + 1) (Whole s) ys = view_same v (view_at (x.clock + 1) (Whole s)) ys (each_more (IsMade {D = E} x) (λ (e : Edit E). sees v.clock v.viewer e.clock e.owner ≡ sees (x.clock + 1) (Whole s) e.clock e.owner) (λ e is. own.as_own e.clock e.owner is.past is.owner) ys stands.edits.made) in
        after_seen (replaces value) first v (standing x vs) mine own.new
        ∙ (makes
        ∙ (ap (λ (es : List (Edit E)). after (after_all after first es) x.clock deed) (sym as_own)
        ∙ sym (after_seen after first v ys made own.new)))

-- an edit that touches the place and makes nothing else of what its maker finds there, so that nothing is put
pub stands_touched_in : {D E S : Type 0} (W : Snapshot → Type 0) (value : ℕ → D → S) (after : S → ℕ → E → S) (first : S) (x : Transactions) (s : ℕ) (vs : List (Version D)) (ys : List (Edit E)) (deed : E) → 1 ≤ s → 0 < length (levels_of x s) → ((v : Snapshot) → W v → NewSeen x s v) → Each (λ (e : Edit E). IsFreeFor s e.owner) ys → after_all after first (view (x.clock + 1) (Whole s) ys) ≡ after (after_all after first (view (x.clock + 1) (Whole s) ys)) x.clock deed → StandsAt W x value after first vs ys → StandsAt W x value after first vs (ys ++ made_now x s deed ∷ [])
stands_touched_in {D} {E} {S} W value after first x s vs ys deed one some sees_new free makes stands =
    record {
      fits = stands.fits;
      versions = stands.versions;
      edits = stack_pushed x s deed ys one some stands.edits free;
      linked = each_more (λ (e : Edit D). HasMark e.clock e.owner ys) (λ (e : Edit D). HasMark e.clock e.owner (ys ++ made ∷ [])) (λ e mark. mark_front e.clock e.owner ys made mark) (standing x vs) stands.linked;
      same = record { same = λ v kept. by_seen v kept (sees_new v kept) };
    }
  where
    made : Edit E
    made = made_now x s deed

    by_seen : (v : Snapshot) → W v → NewSeen x s v → after_all (replaces value) first (view v.clock v.viewer (standing x vs)) ≡ after_all after first (view v.clock v.viewer (ys ++ made ∷ []))
    by_seen v kept (inl unseen) = stands.same.same v kept ∙ sym (after_unseen after first v ys made unseen)
    by_seen v kept (inr own) =
        let as_own : view v.clock v.viewer ys ≡ view (x.clock + 1) (Whole s) ys = view_same v (view_at (x.clock + 1) (Whole s)) ys (each_more (IsMade {D = E} x) (λ (e : Edit E). sees v.clock v.viewer e.clock e.owner ≡ sees (x.clock + 1) (Whole s) e.clock e.owner) (λ e is. own.as_own e.clock e.owner is.past is.owner) ys stands.edits.made) in
        stands.same.same v kept
        ∙ (ap (after_all after first) as_own
        ∙ (makes
        ∙ (ap (λ (es : List (Edit E)). after (after_all after first es) x.clock deed) (sym as_own)
        ∙ sym (after_seen after first v ys made own.new))))

-- in the kept views
pub stands_pushed : {D E S : Type 0} (value : ℕ → D → S) (after : S → ℕ → E → S) (first : S) (x : Transactions) (s : ℕ) (vs : List (Version D)) (ys : List (Edit E)) (put : Version D) (deed : E) → 1 ≤ s → 0 < length (levels_of x s) → HoldsWholeViews x → IsNew x s put → Each (λ (e : Edit E). IsFreeFor s e.owner) ys → value x.clock put.deed ≡ after (after_all after first (view (x.clock + 1) (Whole s) ys)) x.clock deed → Stands x value after first vs ys → Stands x value after first (vs ++ put ∷ []) (ys ++ made_now x s deed ∷ [])
stands_pushed value after first x s vs ys put deed one some readers new free makes stands = stands_pushed_in (IsLook x) value after first x s vs ys put deed one some (λ v kept. new_seen x s v readers kept) new free makes stands

pub stands_touched : {D E S : Type 0} (value : ℕ → D → S) (after : S → ℕ → E → S) (first : S) (x : Transactions) (s : ℕ) (vs : List (Version D)) (ys : List (Edit E)) (deed : E) → 1 ≤ s → 0 < length (levels_of x s) → HoldsWholeViews x → Each (λ (e : Edit E). IsFreeFor s e.owner) ys → after_all after first (view (x.clock + 1) (Whole s) ys) ≡ after (after_all after first (view (x.clock + 1) (Whole s) ys)) x.clock deed → Stands x value after first vs ys → Stands x value after first vs (ys ++ made_now x s deed ∷ [])
stands_touched value after first x s vs ys deed one some readers free makes stands = stands_touched_in (IsLook x) value after first x s vs ys deed one some (λ v kept. new_seen x s v readers kept) free makes stands

-- what a version puts may be read in another way that gives the same, as where other blocks of a pool change
pub stands_revalued : {D E S : Type 0} (value value' : ℕ → D → S) (after : S → ℕ → E → S) (first : S) (x : Transactions) (vs : List (Version D)) (ys : List (Edit E)) → Each (λ (v : Version D). (clock : ℕ) → value' clock v.deed ≡ value clock v.deed) vs → Stands x value after first vs ys → Stands x value' after first vs ys
stands_revalued {D} {E} {S} value value' after first x vs ys alike stands = record {
  fits = stands.fits;
  versions = stands.versions;
  edits = stands.edits;
  linked = stands.linked;
  same = record { same = λ v kept. folds v first (standing x vs) (deeds_alike vs alike) ∙ stands.same.same v kept };
}
  where
    deeds_alike : (us : List (Version D)) → Each (λ (v : Version D). (clock : ℕ) → value' clock v.deed ≡ value clock v.deed) us → Each (λ (e : Edit D). (clock : ℕ) → value' clock e.deed ≡ value clock e.deed) (standing x us)
    deeds_alike [] h = tt
    deeds_alike (u ∷ us) h = by_owner (owner_of x u.stamp) (deeds_alike us h.1)
      where
        by_owner : (o : Option Owner) → Each (λ (e : Edit D). (clock : ℕ) → value' clock e.deed ≡ value clock e.deed) (standing x us) → Each (λ (e : Edit D). (clock : ℕ) → value' clock e.deed ≡ value clock e.deed) (standing_of o u (standing x us))
        by_owner None rest = rest
        by_owner (Some w) rest = (h.0, rest)

    folds : (v : Snapshot) (old : S) (es : List (Edit D)) → Each (λ (e : Edit D). (clock : ℕ) → value' clock e.deed ≡ value clock e.deed) es → after_all (replaces value') old (view v.clock v.viewer es) ≡ after_all (replaces value) old (view v.clock v.viewer es)
    folds v old [] h = refl
    folds v old (e ∷ es) h = by_seen (sees v.clock v.viewer e.clock e.owner) (λ was. folds v was es h.1)
      where
        by_seen : (b : Bool) → ((was : S) → after_all (replaces value') was (view v.clock v.viewer es) ≡ after_all (replaces value) was (view v.clock v.viewer es)) → after_all (replaces value') old (cond b (e ∷ view v.clock v.viewer es) (view v.clock v.viewer es)) ≡ after_all (replaces value) old (cond b (e ∷ view v.clock v.viewer es) (view v.clock v.viewer es))
        by_seen true left = ap (λ (was : S). after_all (replaces value') was (view v.clock v.viewer es)) (h.0 e.clock) ∙ left (value e.clock e.deed)
        by_seen false left = left old

-- before a request's first edit the current view may be taken at its clock or at the one above
pub view_past : {D : Type 0} (x : Transactions) (n : ℕ) (viewer : Viewer) (es : List (Edit D)) → x.clock < n → IsStack x es → view n viewer es ≡ view (x.clock + 1) viewer es
view_past {D} x n viewer es late stack = view_same (view_at n viewer) (view_at (x.clock + 1) viewer) es (each_more (IsMade {D = D} x) (λ (e : Edit D). sees n viewer e.clock e.owner ≡ sees (x.clock + 1) viewer e.clock e.owner) (λ e made. sees_past x n e.clock viewer e.owner late made.past made.owner) es stack.made)

-- Want of memory: the versions of a call that failed are gone with the level in which it was made

pub standing_append : {D : Type 0} (x : Transactions) (vs us : List (Version D)) → standing x (vs ++ us) ≡ standing x vs ++ standing x us
standing_append x [] us = refl
standing_append {D} x (v ∷ vs) us = by_owner (owner_of x v.stamp) (standing_append x vs us)
  where
    by_owner : (o : Option Owner) → standing x (vs ++ us) ≡ standing x vs ++ standing x us → standing_of o v (standing x (vs ++ us)) ≡ standing_of o v (standing x vs) ++ standing x us
    by_owner None rest = rest
    by_owner (Some w) rest = ap (λ es. edit_of v w ∷ es) rest

none_left : {D : Type 0} (s : ℕ) (old new : Transactions) (us : List (Version D)) → Turns (undo s (length (levels_of old s))) old new → Each (IsNew old s) us → standing new us ≡ []
none_left s old new [] turns own = refl
none_left s old new (u ∷ us) turns own =
    let from : is_from_level s (length (levels_of old s)) (Running s (length (levels_of old s))) ≡ true = grind (arith, nat_tests) in
    let gone : owner_of new u.stamp ≡ None = turns.owners u.stamp own.0.issued ∙ (ap (option_and_then (undo s (length (levels_of old s)))) own.0.owner ∙ rw from refl) in
    rw gone (none_left s old new us turns own.1)

pub restored : {D : Type 0} (s : ℕ) (old new : Transactions) (vs us : List (Version D)) → Turns (undo s (length (levels_of old s))) old new → AddsOwn old s vs us → standing new us ≡ standing new vs
restored s old new vs us turns adds = rw adds.is (standing_append new vs adds.more ∙ rw (none_left s old new adds.more turns adds.own) (append-nil (standing new vs)))

pub stands_restored : {D E S : Type 0} (value : ℕ → D → S) (after : S → ℕ → E → S) (first : S) (s : ℕ) (old new : Transactions) (vs us : List (Version D)) (ys : List (Edit E)) → Turns (undo s (length (levels_of old s))) old new → AddsOwn old s vs us → Fits new us → Stands new value after first vs ys → Stands new value after first us ys
stands_restored value after first s old new vs us ys turns adds fits stands =
    let are : standing new us ≡ standing new vs = restored s old new vs us turns adds in
    record { fits = fits; versions = rw are stands.versions; edits = stands.edits; linked = rw are stands.linked; same = rw are stands.same }

-- Reclamation

any_same : {X : Type 0} (f g : X → Bool) → ((x : X) → f x ≡ g x) → (xs : List X) → list_any f xs ≡ list_any g xs
any_same f g alike [] = refl
any_same f g alike (x ∷ xs) = rw (alike x, any_same f g alike xs) refl

any_never : {X : Type 0} (f : X → Bool) → ((x : X) → f x ≡ false) → (xs : List X) → list_any f xs ≡ false
any_never f never [] = refl
any_never f never (x ∷ xs) = rw (never x, any_never f never xs) refl

seen_later : {D : Type 0} (x : Transactions) (u : Snapshot) (vs : List (Version D)) → list_any (λ (w : Version D). sees_stamp x u w.stamp) vs ≡ list_any (has_seen u) (standing x vs)
seen_later x u [] = refl
seen_later {D} x u (v ∷ vs) = by_owner (owner_of x v.stamp) (seen_later x u vs)
  where
    by_owner : (o : Option Owner) → list_any (λ (w : Version D). sees_stamp x u w.stamp) vs ≡ list_any (has_seen u) (standing x vs) → (sees_made u (made_at v.stamp) o || list_any (λ (w : Version D). sees_stamp x u w.stamp) vs) ≡ list_any (has_seen u) (standing_of o v (standing x vs))
    by_owner None rest = rest
    by_owner (Some w) rest = rw rest refl

standing_lasts : {D : Type 0} (x : Transactions) (views : List Snapshot) (vs : List (Version D)) → standing x (last_versions x views vs) ≡ lasts views (standing x vs)
standing_lasts x views [] = refl
standing_lasts {D} x views (v ∷ vs) = by_owner (owner_of x v.stamp) refl (standing_lasts x views vs)
  where
    later : Snapshot → Bool
    later u = list_any (λ (w : Version D). sees_stamp x u w.stamp) vs

    by_last : (b : Bool) (w : Owner) → owner_of x v.stamp ≡ Some w → standing x (last_versions x views vs) ≡ lasts views (standing x vs) → standing x (if b then v ∷ last_versions x views vs else last_versions x views vs) ≡ (if b then edit_of v w ∷ lasts views (standing x vs) else lasts views (standing x vs))
    by_last true w is rest = rw is (ap (λ es. edit_of v w ∷ es) rest)
    by_last false w is rest = rest

    none_last : owner_of x v.stamp ≡ None → is_last_version x views v vs ≡ false
    none_last is = any_never (λ u. sees_stamp x u v.stamp && not (later u)) (λ u. rw is refl) views

    some_last : (w : Owner) → owner_of x v.stamp ≡ Some w → is_last_version x views v vs ≡ is_last views (edit_of v w) (standing x vs)
    some_last w is = any_same (λ u. sees_stamp x u v.stamp && not (later u)) (λ u. has_seen u (edit_of v w) && not (list_any (has_seen u) (standing x vs))) (λ u. rw (is, seen_later x u vs) refl) views

    by_owner : (o : Option Owner) → owner_of x v.stamp ≡ o → standing x (last_versions x views vs) ≡ lasts views (standing x vs) → standing x (last_versions x views (v ∷ vs)) ≡ lasts views (standing_of o v (standing x vs))
    by_owner None is rest = rw (none_last is) rest
    by_owner (Some w) is rest = rw (some_last w is) (by_last (is_last views (edit_of v w) (standing x vs)) w is rest)

standing_trimmed : {D : Type 0} (erases : D → Bool) (x : Transactions) (vs : List (Version D)) → standing x (trimmed_versions erases x vs) ≡ trimmed erases (standing x vs)
standing_trimmed erases x [] = refl
standing_trimmed {D} erases x (v ∷ vs) = by_owner (owner_of x v.stamp) refl (standing_trimmed erases x vs)
  where
    by_gone : (b : Bool) (w : Owner) → owner_of x v.stamp ≡ Some w → standing x (trimmed_versions erases x vs) ≡ trimmed erases (standing x vs) → standing x (if b then trimmed_versions erases x vs else v ∷ vs) ≡ (if b then trimmed erases (standing x vs) else edit_of v w ∷ standing x vs)
    by_gone true w is rest = rest
    by_gone false w is rest = rw is refl

    by_owner : (o : Option Owner) → owner_of x v.stamp ≡ o → standing x (trimmed_versions erases x vs) ≡ trimmed erases (standing x vs) → standing x (if is_gone erases o v.deed then trimmed_versions erases x vs else v ∷ vs) ≡ trimmed erases (standing_of o v (standing x vs))
    by_owner None is rest = rest
    by_owner (Some w) is rest = by_gone (is_committed w && erases v.deed) w is rest

pub standing_vacuumed : {D : Type 0} (erases : D → Bool) (x : Transactions) (vs : List (Version D)) → standing x (vacuumed erases x vs) ≡ reclaimed erases (kept_views x) (standing x vs)
standing_vacuumed erases x vs = standing_trimmed erases x (last_versions x (kept_views x) vs) ∙ ap (trimmed erases) (standing_lasts x (kept_views x) vs)

pub vacuumed_each : {D : Type 0} (P : Version D → Type 0) (erases : D → Bool) (x : Transactions) (vs : List (Version D)) → Each P vs → Each P (vacuumed erases x vs)
vacuumed_each {D} P erases x vs h = trims (last_versions x (kept_views x) vs) (keeps vs h)
  where
    keeps : (us : List (Version D)) → Each P us → Each P (last_versions x (kept_views x) us)
    keeps [] g = tt
    keeps (u ∷ us) g = by_last (is_last_version x (kept_views x) u us) (keeps us g.1)
      where
        by_last : (b : Bool) → Each P (last_versions x (kept_views x) us) → Each P (if b then u ∷ last_versions x (kept_views x) us else last_versions x (kept_views x) us)
        by_last true rest = (g.0, rest)
        by_last false rest = rest

    trims : (us : List (Version D)) → Each P us → Each P (trimmed_versions erases x us)
    trims [] g = tt
    trims (u ∷ us) g = by_gone (is_gone erases (owner_of x u.stamp) u.deed) (trims us g.1)
      where
        by_gone : (b : Bool) → Each P (trimmed_versions erases x us) → Each P (if b then trimmed_versions erases x us else u ∷ us)
        by_gone true rest = rest
        by_gone false rest = g

-- the value of a place that only replacing edits were made to
abbrev pub value_of : {D S : Type 0} → (ℕ → D → S) → S → Option (Edit D) → S
value_of value first None = first
value_of value first (Some e) = value e.clock e.deed

value_from : {D S : Type 0} (value : ℕ → D → S) (first : S) (v : Snapshot) (old : Option (Edit D)) (es : List (Edit D)) → after_all (replaces value) (value_of value first old) (view v.clock v.viewer es) ≡ value_of value first (last_in (has_seen v) old es)
value_from value first v old [] = refl
value_from {D} {S} value first v old (e ∷ es) = by_seen (sees v.clock v.viewer e.clock e.owner) (λ was. value_from value first v was es)
  where
    by_seen : (b : Bool) → ((was : Option (Edit D)) → after_all (replaces value) (value_of value first was) (view v.clock v.viewer es) ≡ value_of value first (last_in (has_seen v) was es)) → after_all (replaces value) (value_of value first old) (cond b (e ∷ view v.clock v.viewer es) (view v.clock v.viewer es)) ≡ value_of value first (last_in (has_seen v) (if b then Some e else old) es)
    by_seen true left = left (Some e)
    by_seen false left = left old

value_put : {D S : Type 0} (erases : D → Bool) (value : ℕ → D → S) (first : S) → Erases erases value first → (o : Option (Edit D)) → value_of value first (put_of erases o) ≡ value_of value first o
value_put erases value first gives None = refl
value_put {D} {S} erases value first gives (Some e) = by_test (erases e.deed) refl
  where
    by_test : (b : Bool) → erases e.deed ≡ b → value_of value first (if b then None else Some e) ≡ value e.clock e.deed
    by_test true is = sym (gives.gives e.clock e.deed is)
    by_test false is = refl

-- what a view makes of the versions is what it finds
pub after_found : {D S : Type 0} (erases : D → Bool) (value : ℕ → D → S) (first : S) → Erases erases value first → (v : Snapshot) (es : List (Edit D)) → after_all (replaces value) first (view v.clock v.viewer es) ≡ value_of value first (found erases v es)
after_found erases value first gives v es = value_from value first v None es ∙ sym (value_put erases value first gives (last_seen v es))

pub stands_vacuumed : {D E S : Type 0} (erases : D → Bool) (value : ℕ → D → S) (after : S → ℕ → E → S) (first : S) (x : Transactions) (vs : List (Version D)) (ys : List (Edit E)) → Erases erases value first → Stands x value after first vs ys → Stands x value after first (vacuumed erases x vs) ys
stands_vacuumed {D} {E} {S} erases value after first x vs ys gives stands =
    let are : standing x (vacuumed erases x vs) ≡ reclaimed erases (kept_views x) (standing x vs) = standing_vacuumed erases x vs in
    record {
      fits = vacuumed_each (λ (v : Version D). IsIssued x v.stamp) erases x vs stands.fits;
      versions = rw are (reclaimed_stack erases (kept_views x) x (standing x vs) stands.versions);
      edits = stands.edits;
      linked = rw are (reclaimed_each (λ (e : Edit D). HasMark e.clock e.owner ys) erases (kept_views x) (standing x vs) stands.linked);
      same = rw are (record { same = λ v kept. after_found erases value first gives v (reclaimed erases (kept_views x) (standing x vs)) ∙ (ap (value_of value first) (reclaimed_found erases (kept_views x) v kept (standing x vs)) ∙ (sym (after_found erases value first gives v (standing x vs)) ∙ stands.same.same v kept)) });
    }

-- Keys that a reclamation need not look at

settled_one : {D : Type 0} (erases : D → Bool) (x : Transactions) (v : Version D) (o : Option Owner) → owner_of x v.stamp ≡ o → IsPutBy erases o v.deed → IsStack x (standing_of o v []) → vacuumed erases x (v ∷ []) ≡ v ∷ []
settled_one erases x v None is settled stack = absurd settled
settled_one erases x v (Some (Running s l)) is settled stack = absurd settled
settled_one {D} erases x v (Some (Committed c)) is settled stack =
    let past : made_at v.stamp ≤ x.clock = stack.made.0.past in
    let was : c ≤ x.clock = stack.made.0.owner.1 in
    let seen : sees (x.clock + 1) Nobody (made_at v.stamp) (Committed c) ≡ true = grind (arith, nat_tests) in
    let last : is_last_version x (kept_views x) v [] ≡ true = any_contains (λ u. sees_stamp x u v.stamp && true) (kept_views x) (view_at (x.clock + 1) Nobody) (nobody_kept x) (rw (is, seen) refl) in
    rw (last, is, settled) refl

pub settled_stays : {D : Type 0} (erases : D → Bool) (x : Transactions) (vs : List (Version D)) → IsSettled erases x vs → IsStack x (standing x vs) → vacuumed erases x vs ≡ vs
settled_stays erases x [] settled stack = refl
settled_stays erases x (v ∷ []) settled stack = settled_one erases x v (owner_of x v.stamp) refl settled stack
settled_stays erases x (v ∷ (w ∷ vs)) settled stack = absurd settled

-- and no end unsettles them
pub settled_turned : {D : Type 0} (erases : D → Bool) (turn : Owner → Option Owner) (old new : Transactions) (vs : List (Version D)) → ((c : ℕ) → turn (Committed c) ≡ Some (Committed c)) → Turns turn old new → Fits old vs → IsSettled erases old vs → IsSettled erases new vs
settled_turned erases turn old new [] keeps turns fits settled = tt
settled_turned erases turn old new (v ∷ (w ∷ vs)) keeps turns fits settled = absurd settled
settled_turned {D} erases turn old new (v ∷ []) keeps turns fits settled = subst (λ (o : Option Owner). IsPutBy erases o v.deed) (sym (turns.owners v.stamp fits.0)) (by_owner (owner_of old v.stamp) settled)
  where
    by_owner : (o : Option Owner) → IsPutBy erases o v.deed → IsPutBy erases (option_and_then turn o) v.deed
    by_owner None is = absurd is
    by_owner (Some (Running s l)) is = absurd is
    by_owner (Some (Committed c)) is = rw (keeps c) is

-- Until then a view that sees no edit of the failed call reads as before.

new_unseen : {D : Type 0} (x : Transactions) (s : ℕ) (v : Snapshot) (us : List (Version D)) → sees v.clock v.viewer x.clock (Running s (length (levels_of x s))) ≡ false → Each (IsNew x s) us → view v.clock v.viewer (standing x us) ≡ []
new_unseen x s v [] unseen own = refl
new_unseen {D} x s v (u ∷ us) unseen own =
    let owner : owner_of x u.stamp ≡ Some (Running s (length (levels_of x s))) = own.0.owner in
    let clock : made_at u.stamp ≡ x.clock = own.0.clock in
    let here : sees v.clock v.viewer (made_at u.stamp) (Running s (length (levels_of x s))) ≡ false = ap (λ (c : ℕ). sees v.clock v.viewer c (Running s (length (levels_of x s)))) clock ∙ unseen in
    rw (owner, here) (new_unseen x s v us unseen own.1)

pub unseen_reads : {D : Type 0} (x : Transactions) (s : ℕ) (v : Snapshot) (vs us : List (Version D)) → sees v.clock v.viewer x.clock (Running s (length (levels_of x s))) ≡ false → AddsOwn x s vs us → view v.clock v.viewer (standing x us) ≡ view v.clock v.viewer (standing x vs)
unseen_reads {D} x s v vs us unseen adds =
    let both : standing x us ≡ standing x vs ++ standing x adds.more = rw adds.is (standing_append x vs adds.more) in
    let parts : view v.clock v.viewer (standing x vs ++ standing x adds.more) ≡ view v.clock v.viewer (standing x vs) ++ view v.clock v.viewer (standing x adds.more) = filter-append (sees_edit {D = D} v.clock v.viewer) (standing x vs) (standing x adds.more) in
    let none : view v.clock v.viewer (standing x adds.more) ≡ [] = new_unseen x s v adds.more unseen adds.own in
    ap (λ (es : List (Edit D)). view v.clock v.viewer es) both ∙ (parts ∙ rw none (append-nil (view v.clock v.viewer (standing x vs))))
