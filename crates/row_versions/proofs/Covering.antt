-- Each view that is kept after an end has at each place what a view that was kept before had there.
use Rattle.std.proofs.Common.{ℕ, ◌+◌, ◌-◌, ◌<◌, ◌≤◌, ◌≡◌, ◌≢◌, ◌⊎◌, inl, inr, min, Bool, true, false, List, [], ◌∷◌, ◌++◌, length, take, Option, refl, ap, sym, subst, ◌∙◌, arith, length-append}
use Rattle.std.specs.Prelude.{nat_lt, nat_le, ◌==◌, ◌&&◌, if◌then◌else◌, Contains}
use Rattle.std.proofs.lemmas.Bool.{false≢true, cases_eq, cases_lt}
use Rattle.std.proofs.lemmas.Bool.Decides.{nat_tests}
use Rattle.std.proofs.lemmas.List.{length-take}
use Rattle.lo_model.specs.declared.owner.Owner.{Owner}
use Rattle.lo_model.specs.declared.owner.Owner.TheVariants.{Running, Committed}
use Rattle.lo_model.specs.declared.viewer.Viewer.{Viewer}
use Rattle.lo_model.specs.declared.viewer.Viewer.TheVariants.{Nobody, Whole, Below}
use Rattle.lo_model.specs.Edit.{Edit}
use Rattle.lo_model.specs.Levels.{is_from_level, committed_owner}
use Rattle.lo_model.specs.View.{sees}
use Rattle.xact_core.specs.declared.snapshot.Snapshot.{Snapshot}
use Rattle.xact_core.specs.Ends.{same, release, undo, commit_at}
use Rattle.xact_core.specs.Kept.{view_at, kept_views}
use Rattle.xact_core.specs.Laws.{looks_as, before_release, before_undo}
use Rattle.xact_core.specs.Stamp.{sees_made}
use Rattle.xact_core.specs.Transactions.{Transactions, levels_of, HasLevels}
use Rattle.xact_core.proofs.ViewLaws.{sees_released, sees_undone, sees_other, undo_spares}
use Rattle.row_versions.specs.Stack.{Each, Pairwise, Follows, IsOver, IsOwner, IsMade, IsStack}
use Rattle.row_versions.specs.Looks.{SeesAsBefore, IsCoveredBy, IsCovered}
use Rattle.xact_core.specs.Kept.{KeptBy, ByNobody, ByWhole, ByBelow, ByHold, LooksWhole, HoldsWholeViews}
use Rattle.row_versions.proofs.Stacking.{each_more, each_both, each_all, levels_cases, levels_here, levels_apart}
use Rattle.row_versions.proofs.Keeping.{kept_is, nobody_kept, whole_kept, below_kept, held_kept}

-- an open edit in a stack, and what stands beside it

abbrev pub Among : {D : Type 0} → Edit D → List (Edit D) → Type 0
Among f [] = ⊥
Among f (e ∷ es) = (e ≡ f) ⊎ Among f es

each_among : {D : Type 0} (P : Edit D → Type 0) → (es : List (Edit D)) (f : Edit D) → Each P es → Among f es → P f
each_among P [] f h among = absurd among
each_among P (e ∷ es) f h (inl is) = subst P is h.0
each_among P (e ∷ es) f h (inr later) = each_among P es f h.1 later

-- an edit at the place of an open one of level l that was made at clock d
abbrev pub Beside : (s l d : ℕ) → (made : ℕ) → Owner → Type 0
Beside s l d c (Committed a) = (c ≤ a) × (a ≤ d)
Beside s l d c (Running t m) = (t ≡ s) × (m < l → c ≤ d)

pub record HasOpen {D : Type 0} (s : ℕ) (test : Edit D → Bool) (es : List (Edit D)) : Type 0 where
  pub found : Edit D
  pub level : ℕ
  pub is : found.owner ≡ Running s level
  pub passes : test found ≡ true
  pub among : Among found es
  pub beside : Each (λ (e : Edit D). Beside s level found.clock e.clock e.owner) es

pub record IsOpenOf (s : ℕ) (w : Owner) : Type 0 where
  pub level : ℕ
  pub is : w ≡ Running s level

under_open : (s l d c : ℕ) (w : Owner) → Follows c w d (Running s l) → Beside s l d c w
under_open s l d c (Committed a) h = h
under_open s l d c (Running t m) h = (h.0, λ less. h.2)

over_open : (s l d c : ℕ) (w : Owner) → Follows d (Running s l) c w → Beside s l d c w
over_open s l d c (Committed a) h = absurd h
over_open s l d c (Running t m) h = (sym h.0, λ less. absurd (omega (arith, less, h.1)))

pub either_open : {D : Type 0} (s : ℕ) (test : Edit D → Bool) → ((e : Edit D) → test e ≡ true → IsOpenOf s e.owner) → (es : List (Edit D)) → Pairwise IsOver es → HasOpen s test es ⊎ Each (λ (e : Edit D). test e ≡ false) es
either_open s test opens [] order = inr tt
either_open {D} s test opens (e ∷ es) order = by_rest (either_open s test opens es order.1)
  where
    by_test : (b : Bool) → test e ≡ b → Each (λ (f : Edit D). test f ≡ false) es → HasOpen s test (e ∷ es) ⊎ Each (λ (f : Edit D). test f ≡ false) (e ∷ es)
    by_test false at none = inr (at, none)
    by_test true at none =
        let own : IsOpenOf s e.owner = opens e at in
        inl (record {
          found = e;
          level = own.level;
          is = own.is;
          passes = at;
          among = inl refl;
          beside = (
            subst (λ (w : Owner). Beside s own.level e.clock e.clock w) (sym own.is) (refl, λ less. omega arith),
            each_more (IsOver e) (λ (f : Edit D). Beside s own.level e.clock f.clock f.owner) (λ f over. over_open s own.level e.clock f.clock f.owner (subst (λ (w : Owner). Follows e.clock w f.clock f.owner) own.is over)) es order.0,
          );
        })

    by_rest : HasOpen s test es ⊎ Each (λ (f : Edit D). test f ≡ false) es → HasOpen s test (e ∷ es) ⊎ Each (λ (f : Edit D). test f ≡ false) (e ∷ es)
    by_rest (inr none) = by_test (test e) refl none
    by_rest (inl has) = inl (record {
      found = has.found;
      level = has.level;
      is = has.is;
      passes = has.passes;
      among = inr has.among;
      beside = (under_open s has.level has.found.clock e.clock e.owner (subst (λ (w : Owner). Follows e.clock e.owner has.found.clock w) has.is (each_among (IsOver e) es has.found order.0 has.among)), has.beside);
    })

-- Release: each kept view itself

release_view : (s k : ℕ) (old new : Transactions) (v : Snapshot) → 1 ≤ s → 2 ≤ k → k ≤ length (levels_of old s) → HasLevels s (take (k - 1) (levels_of old s)) old new → new.clock ≡ old.clock → new.held ≡ old.held → HoldsWholeViews old → Contains (kept_views new) v → (before_release s k v.viewer ≡ v.viewer) × Contains (kept_views old) v
release_view s k old new v first low high has clock held readers kept = by_way (kept_is new v kept)
  where
    here : levels_of new s ≡ take (k - 1) (levels_of old s)
    here = levels_here s _ old new has (omega arith)

    count : length (levels_of new s) ≡ k - 1
    count = ap (λ (names : List (Option (List ℕ))). length names) here ∙ (omega (arith, length-take (k - 1) (levels_of old s)))

    some_before : (t : ℕ) → 1 ≤ t → 0 < length (levels_of new t) → 0 < length (levels_of old t)
    some_before t low' some = by_equal (cases_eq t s)
      where
        by_equal : (t ≡ s) ⊎ (t ≡ s → ⊥) → 0 < length (levels_of old t)
        by_equal (inl is) = rw is (omega arith)
        by_equal (inr apart) = subst (λ (names : List (Option (List ℕ))). 0 < length names) (levels_apart s _ old new has t first low' apart) some

    held_stays : (w : Viewer) → v.viewer ≡ w → LooksWhole w → before_release s k w ≡ w
    held_stays Nobody is whole = refl
    held_stays (Whole t) is whole = refl
    held_stays (Below t l) is whole = absurd whole

    below_case : (t l : ℕ) → 1 ≤ t → 1 ≤ l → l ≤ length (levels_of new t) → (t ≡ s) ⊎ (t ≡ s → ⊥) → ((if (t == s) && nat_le k l then Whole t else Below t l) ≡ Below t l) × Contains (kept_views old) (view_at (old.clock + 1) (Below t l))
    below_case t l low' one most (inl is) =
        let less : l ≤ k - 1 = subst (λ (n : ℕ). l ≤ n) count (subst (λ (u : ℕ). l ≤ length (levels_of new u)) is most) in
        let under : ((t == s) && nat_le k l) ≡ false = grind (arith, nat_tests) in
        (rw under refl, below_kept old t l low' one (rw is (omega arith)))
    below_case t l low' one most (inr apart) =
        let under : ((t == s) && nat_le k l) ≡ false = grind (arith, nat_tests) in
        (rw under refl, below_kept old t l low' one (subst (λ (names : List (Option (List ℕ))). l ≤ length names) (levels_apart s _ old new has t first low' apart) most))

    by_way : KeptBy new v → (before_release s k v.viewer ≡ v.viewer) × Contains (kept_views old) v
    by_way (ByNobody is) = rw (is, clock) (refl, nobody_kept old)
    by_way (ByWhole t low' some is) = rw (is, clock) (refl, whole_kept old t low' (some_before t low' some))
    by_way (ByBelow t l low' one most is) = rw (is, clock) (below_case t l low' one most (cases_eq t s))
    by_way (ByHold in_held) =
        let was : Contains old.held v = subst (λ (views : List Snapshot). Contains views v) held in_held in
        (held_stays v.viewer refl (readers.whole v was), held_kept old v was)

pub release_covers : {D : Type 0} (s k : ℕ) (old new : Transactions) → 1 ≤ s → 2 ≤ k → k ≤ length (levels_of old s) → HasLevels s (take (k - 1) (levels_of old s)) old new → new.clock ≡ old.clock → new.held ≡ old.held → HoldsWholeViews old → (es : List (Edit D)) (v : Snapshot) → Contains (kept_views new) v → IsCovered (release s k) old es v
release_covers {D} s k old new first low high has clock held readers es v kept =
    let stays : (before_release s k v.viewer ≡ v.viewer) × Contains (kept_views old) v = release_view s k old new v first low high has clock held readers kept in
    record {
      before = v;
      kept = stays.1;
      alike = each_all (SeesAsBefore (release s k) v v) (λ e. sees_released s k v.clock e.clock v.viewer e.owner (omega arith) ∙ ap (λ (w : Viewer). sees v.clock w e.clock e.owner) stays.0) es;
    }

-- Undoing: the whole view of the session was the one below the level. A held one was it, or itself

late_below : (s k l d n c made : ℕ) (w : Owner) → k ≤ l → d < n → d ≤ c → made ≤ c → Beside s l d made w → sees n (Below s k) made w ≡ sees (c + 1) (Below s k) made w
late_below s k l d n c made (Committed a) high before past past' beside =
    let x : made ≤ a = beside.0 in
    let y : a ≤ d = beside.1 in
    grind (arith, nat_tests)
late_below s k l d n c made (Running t m) high before past past' beside = by_level (cases_lt m k)
  where
    by_level : (m < k) ⊎ (k ≤ m) → sees n (Below s k) made (Running t m) ≡ sees (c + 1) (Below s k) made (Running t m)
    by_level (inl less) = let x : made ≤ d = beside.1 (omega arith) in grind (arith, nat_tests)
    by_level (inr more) = grind (arith, nat_tests)

-- whether an edit is from a level, and made before a clock
abbrev is_from_before : {D : Type 0} → (s k n : ℕ) → Edit D → Bool
is_from_before s k n e = is_from_level s k e.owner && nat_lt e.clock n

is_own : (s k n made : ℕ) (w : Owner) → (is_from_level s k w && nat_lt made n) ≡ true → IsOpenOf s w
is_own s k n made (Committed a) is = absurd (false≢true is)
is_own s k n made (Running t l) is = record { level = l; is = (let equal : t ≡ s = grind (arith, nat_tests) in ap (λ (u : ℕ). Running u l) equal) }

from_level : (s k n made l : ℕ) → (is_from_level s k (Running s l) && nat_lt made n) ≡ true → (k ≤ l) × (made < n)
from_level s k n made l is = (grind (arith, nat_tests), grind (arith, nat_tests))

below_is_whole : (s k n made : ℕ) (w : Owner) → (is_from_level s k w && nat_lt made n) ≡ false → sees n (Below s k) made w ≡ sees n (Whole s) made w
below_is_whole s k n made (Committed a) none = refl
below_is_whole s k n made (Running t l) none = grind (arith, nat_tests)

before_own : (s k : ℕ) → before_undo s k (Whole s) ≡ Below s k
before_own s k = let itself : (s == s) ≡ true = grind (arith, nat_tests) in rw itself refl

-- what the undoings of a level and of a transaction have in common
pub record Undoes (s k : ℕ) (old new : Transactions) : Type 0 where
  pub first : 1 ≤ s
  pub low : 1 ≤ k
  pub high : k ≤ length (levels_of old s)
  pub left : length (levels_of new s) ≤ k
  pub others : (t : ℕ) → 1 ≤ t → t ≢ s → levels_of new t ≡ levels_of old t
  pub clock : new.clock ≡ old.clock
  pub held : new.held ≡ old.held

undo_itself : {D : Type 0} (s k : ℕ) (old : Transactions) (es : List (Edit D)) (v : Snapshot) → before_undo s k v.viewer ≡ v.viewer → Contains (kept_views old) v → IsCovered (undo s k) old es v
undo_itself s k old es v stays kept = record {
  before = v;
  kept = kept;
  alike = each_all (SeesAsBefore (undo s k) v v) (λ e. sees_undone s k v.clock e.clock v.viewer e.owner ∙ ap (λ (w : Viewer). sees v.clock w e.clock e.owner) stays) es;
}

undo_held_own : {D : Type 0} (s k n : ℕ) (old : Transactions) (es : List (Edit D)) → 1 ≤ s → 1 ≤ k → k ≤ length (levels_of old s) → IsStack old es → Contains old.held (view_at n (Whole s)) → IsCovered (undo s k) old es (view_at n (Whole s))
undo_held_own {D} s k n old es first low high stack held = by_case (either_open s (is_from_before s k n) (λ e is. is_own s k n e.clock e.owner is) es stack.order)
  where
    to_below : (e : Edit D) → sees_made (view_at n (Whole s)) e.clock (undo s k e.owner) ≡ sees n (Below s k) e.clock e.owner
    to_below e = sees_undone s k n e.clock (Whole s) e.owner ∙ ap (λ (w : Viewer). sees n w e.clock e.owner) (before_own s k)

    by_case : HasOpen s (is_from_before s k n) es ⊎ Each (λ (e : Edit D). is_from_before s k n e ≡ false) es → IsCovered (undo s k) old es (view_at n (Whole s))
    by_case (inl has) =
        let from : (k ≤ has.level) × (has.found.clock < n) = from_level s k n has.found.clock has.level (subst (λ (w : Owner). (is_from_level s k w && nat_lt has.found.clock n) ≡ true) has.is has.passes) in
        let past : IsMade old has.found = each_among (IsMade old) es has.found stack.made has.among in
        record {
          before = view_at (old.clock + 1) (Below s k);
          kept = below_kept old s k first low high;
          alike = each_both (IsMade {D = D} old) (λ (e : Edit D). Beside s has.level has.found.clock e.clock e.owner) (SeesAsBefore (undo s k) (view_at n (Whole s)) (view_at (old.clock + 1) (Below s k))) (λ e made beside. to_below e ∙ late_below s k has.level has.found.clock n old.clock e.clock e.owner from.0 from.1 past.past made.past beside) es stack.made has.beside;
        }
    by_case (inr none) = record {
      before = view_at n (Whole s);
      kept = held_kept old (view_at n (Whole s)) held;
      alike = each_more (λ (e : Edit D). is_from_before s k n e ≡ false) (SeesAsBefore (undo s k) (view_at n (Whole s)) (view_at n (Whole s))) (λ e is. to_below e ∙ below_is_whole s k n e.clock e.owner is) es none;
    }

pub undo_covers : {D : Type 0} (s k : ℕ) (old new : Transactions) → Undoes s k old new → HoldsWholeViews old → (es : List (Edit D)) → IsStack old es → (v : Snapshot) → Contains (kept_views new) v → IsCovered (undo s k) old es v
undo_covers {D} s k old new by readers es stack v kept = by_way (kept_is new v kept)
  where
    whole_case : (t : ℕ) → 1 ≤ t → 0 < length (levels_of new t) → (t ≡ s) ⊎ (t ≡ s → ⊥) → IsCovered (undo s k) old es (view_at (old.clock + 1) (Whole t))
    whole_case t low some (inl is) = subst (λ (u : ℕ). IsCovered (undo s k) old es (view_at (old.clock + 1) (Whole u))) (sym is) (record {
      before = view_at (old.clock + 1) (Below s k);
      kept = below_kept old s k by.first by.low by.high;
      alike = each_all (SeesAsBefore (undo s k) (view_at (old.clock + 1) (Whole s)) (view_at (old.clock + 1) (Below s k))) (λ e. sees_undone s k (old.clock + 1) e.clock (Whole s) e.owner ∙ ap (λ (w : Viewer). sees (old.clock + 1) w e.clock e.owner) (before_own s k)) es;
    })
    whole_case t low some (inr apart) =
        let other : (t == s) ≡ false = grind (arith, nat_tests) in
        undo_itself s k old es (view_at (old.clock + 1) (Whole t)) (undo_spares s k (Whole t) other) (whole_kept old t low (subst (λ (names : List (Option (List ℕ))). 0 < length names) (by.others t low apart) some))

    below_case : (t l : ℕ) → 1 ≤ t → 1 ≤ l → l ≤ length (levels_of new t) → (t ≡ s) ⊎ (t ≡ s → ⊥) → IsCovered (undo s k) old es (view_at (old.clock + 1) (Below t l))
    below_case t l low one most (inl is) =
        let least : l ≤ k = (let here : l ≤ length (levels_of new s) = subst (λ (u : ℕ). l ≤ length (levels_of new u)) is most in omega (arith, here, by.left)) in
        let least_is : min l k ≡ l = omega arith in
        let own : (t == s) ≡ true = grind (arith, nat_tests) in
        undo_itself s k old es (view_at (old.clock + 1) (Below t l)) (rw (own, least_is) refl) (below_kept old t l low one (rw is (omega (arith, by.high))))
    below_case t l low one most (inr apart) =
        let other : (t == s) ≡ false = grind (arith, nat_tests) in
        undo_itself s k old es (view_at (old.clock + 1) (Below t l)) (undo_spares s k (Below t l) other) (below_kept old t l low one (subst (λ (names : List (Option (List ℕ))). l ≤ length names) (by.others t low apart) most))

    held_case : (n : ℕ) (w : Viewer) → LooksWhole w → Contains old.held (view_at n w) → IsCovered (undo s k) old es (view_at n w)
    held_case n Nobody whole was = undo_itself s k old es (view_at n Nobody) refl (held_kept old (view_at n Nobody) was)
    held_case n (Below t l) whole was = absurd whole
    held_case n (Whole t) whole was = by_equal (cases_eq t s)
      where
        by_equal : (t ≡ s) ⊎ (t ≡ s → ⊥) → IsCovered (undo s k) old es (view_at n (Whole t))
        by_equal (inl is) = subst (λ (u : ℕ). IsCovered (undo s k) old es (view_at n (Whole u))) (sym is) (undo_held_own s k n old es by.first by.low by.high stack (subst (λ (u : ℕ). Contains old.held (view_at n (Whole u))) is was))
        by_equal (inr apart) =
            let other : (t == s) ≡ false = grind (arith, nat_tests) in
            undo_itself s k old es (view_at n (Whole t)) (undo_spares s k (Whole t) other) (held_kept old (view_at n (Whole t)) was)

    by_way : KeptBy new v → IsCovered (undo s k) old es v
    by_way (ByNobody is) = rw (is, by.clock) (undo_itself s k old es (view_at (old.clock + 1) Nobody) refl (nobody_kept old))
    by_way (ByWhole t low some is) = rw (is, by.clock) (whole_case t low some (cases_eq t s))
    by_way (ByBelow t l low one most is) = rw (is, by.clock) (below_case t l low one most (cases_eq t s))
    by_way (ByHold in_held) =
        let was : Contains old.held v = subst (λ (views : List Snapshot). Contains views v) by.held in_held in
        held_case v.clock v.viewer (readers.whole v was) was

-- Commit: a later view of nobody was the session's whole one, and so was any other where the session has an open edit. An
-- earlier one is itself, or what was committed

abbrev IsPast : ℕ → Owner → Type 0
IsPast c (Committed a) = a ≤ c
IsPast c (Running t l) = Unit {0}

owner_past : (x : Transactions) (made : ℕ) (w : Owner) → IsOwner x made w → IsPast x.clock w
owner_past x made (Committed a) is = is.1
owner_past x made (Running s l) is = tt

late_nobody : (s c n made : ℕ) (w : Owner) → c < n → made ≤ c → IsPast c w → sees n Nobody made (committed_owner s c w) ≡ sees (c + 1) (Whole s) made w
late_nobody s c n made (Committed a) late past was = grind (arith, nat_tests)
late_nobody s c n made (Running t l) late past was = grind (arith, nat_tests)

late_own : (s c n made : ℕ) (w : Owner) → c < n → made ≤ c → IsPast c w → sees n (Whole s) made (committed_owner s c w) ≡ sees (c + 1) (Whole s) made w
late_own s c n made (Committed a) late past was = grind (arith, nat_tests)
late_own s c n made (Running t l) late past was = grind (arith, nat_tests)

late_beside : (s c n l d made : ℕ) (viewer : Viewer) (w : Owner) → c < n → made ≤ c → IsPast c w → Beside s l d made w → sees n viewer made (committed_owner s c w) ≡ sees (c + 1) (Whole s) made w
late_beside s c n l d made viewer (Committed a) late past was beside = grind (arith, nat_tests)
late_beside s c n l d made viewer (Running t m) late past was beside = let own : t ≡ s = beside.0 in shown (is_from_level s 0 (Running t m)) (let is : is_from_level s 0 (Running t m) ≡ true = grind (arith, nat_tests) in is)
  where
    shown : (b : Bool) → b ≡ true → sees n viewer made (if b then Committed c else Running t m) ≡ sees (c + 1) (Whole s) made (Running t m)
    shown true is = let own : t ≡ s = beside.0 in grind (arith, nat_tests)
    shown false is = absurd (false≢true is)

early_other : (s c n made : ℕ) (viewer : Viewer) (w : Owner) → n ≤ c → looks_as s viewer ≡ false → sees n viewer made (committed_owner s c w) ≡ sees n viewer made w
early_other s c n made viewer (Committed a) early apart = refl
early_other s c n made Nobody (Running t m) early apart = grind (arith, nat_tests)
early_other s c n made (Whole u) (Running t m) early apart = grind (arith, nat_tests)
early_other s c n made (Below u l) (Running t m) early apart = grind (arith, nat_tests)

early_beside : (s c n l d made : ℕ) (w : Owner) → n ≤ c → d < n → made ≤ c → Beside s l d made w → sees n (Whole s) made (committed_owner s c w) ≡ sees (c + 1) Nobody made w
early_beside s c n l d made (Committed a) early before past beside =
    let x : made ≤ a = beside.0 in
    let y : a ≤ d = beside.1 in
    grind (arith, nat_tests)
early_beside s c n l d made (Running t m) early before past beside = let own : t ≡ s = beside.0 in grind (arith, nat_tests)

early_own : (s c n made : ℕ) (w : Owner) → n ≤ c → (is_from_level s 0 w && nat_lt made n) ≡ false → sees n (Whole s) made (committed_owner s c w) ≡ sees n (Whole s) made w
early_own s c n made (Committed a) early none = refl
early_own s c n made (Running t m) early none = grind (arith, nat_tests)

is_own_any : (s : ℕ) (w : Owner) → is_from_level s 0 w ≡ true → IsOpenOf s w
is_own_any s (Committed a) is = absurd (false≢true is)
is_own_any s (Running t l) is = record { level = l; is = (let equal : t ≡ s = grind (arith, nat_tests) in ap (λ (u : ℕ). Running u l) equal) }

-- a later view, of nobody or of the session
commit_late_own : {D : Type 0} (s n : ℕ) (viewer : Viewer) (old : Transactions) (es : List (Edit D)) → 1 ≤ s → 0 < length (levels_of old s) → ((made : ℕ) (w : Owner) → made ≤ old.clock → IsPast old.clock w → sees n viewer made (committed_owner s old.clock w) ≡ sees (old.clock + 1) (Whole s) made w) → IsStack old es → IsCovered (commit_at s old.clock) old es (view_at n viewer)
commit_late_own {D} s n viewer old es first some as_own stack = record {
  before = view_at (old.clock + 1) (Whole s);
  kept = whole_kept old s first some;
  alike = each_more (IsMade {D = D} old) (SeesAsBefore (commit_at s old.clock) (view_at n viewer) (view_at (old.clock + 1) (Whole s))) (λ e made. as_own e.clock e.owner made.past (owner_past old e.clock e.owner made.owner)) es stack.made;
}

-- a later view of another
commit_late_other : {D : Type 0} (s n : ℕ) (viewer : Viewer) (old : Transactions) (es : List (Edit D)) → 1 ≤ s → 0 < length (levels_of old s) → old.clock < n → IsStack old es → Contains (kept_views old) (view_at n viewer) → IsCovered (commit_at s old.clock) old es (view_at n viewer)
commit_late_other {D} s n viewer old es first some late stack kept = by_case (either_open s (λ (e : Edit D). is_from_level s 0 e.owner) (λ e is. is_own_any s e.owner is) es stack.order)
  where
    by_case : HasOpen s (λ (e : Edit D). is_from_level s 0 e.owner) es ⊎ Each (λ (e : Edit D). is_from_level s 0 e.owner ≡ false) es → IsCovered (commit_at s old.clock) old es (view_at n viewer)
    by_case (inl has) = record {
      before = view_at (old.clock + 1) (Whole s);
      kept = whole_kept old s first some;
      alike = each_both (IsMade {D = D} old) (λ (e : Edit D). Beside s has.level has.found.clock e.clock e.owner) (SeesAsBefore (commit_at s old.clock) (view_at n viewer) (view_at (old.clock + 1) (Whole s))) (λ e made beside. late_beside s old.clock n has.level has.found.clock e.clock viewer e.owner late made.past (owner_past old e.clock e.owner made.owner) beside) es stack.made has.beside;
    }
    by_case (inr none) = record {
      before = view_at n viewer;
      kept = kept;
      alike = each_more (λ (e : Edit D). is_from_level s 0 e.owner ≡ false) (SeesAsBefore (commit_at s old.clock) (view_at n viewer) (view_at n viewer)) (λ e is. sees_other s old.clock n e.clock viewer e.owner is) es none;
    }

-- an earlier view of another
commit_early_other : {D : Type 0} (s n : ℕ) (viewer : Viewer) (old : Transactions) (es : List (Edit D)) → n ≤ old.clock → looks_as s viewer ≡ false → Contains (kept_views old) (view_at n viewer) → IsCovered (commit_at s old.clock) old es (view_at n viewer)
commit_early_other s n viewer old es early apart kept = record {
  before = view_at n viewer;
  kept = kept;
  alike = each_all (SeesAsBefore (commit_at s old.clock) (view_at n viewer) (view_at n viewer)) (λ e. early_other s old.clock n e.clock viewer e.owner early apart) es;
}

-- an earlier view of the session
commit_early_own : {D : Type 0} (s n : ℕ) (old : Transactions) (es : List (Edit D)) → n ≤ old.clock → IsStack old es → Contains (kept_views old) (view_at n (Whole s)) → IsCovered (commit_at s old.clock) old es (view_at n (Whole s))
commit_early_own {D} s n old es early stack kept = by_case (either_open s (is_from_before s 0 n) (λ e is. is_own s 0 n e.clock e.owner is) es stack.order)
  where
    by_case : HasOpen s (is_from_before s 0 n) es ⊎ Each (λ (e : Edit D). is_from_before s 0 n e ≡ false) es → IsCovered (commit_at s old.clock) old es (view_at n (Whole s))
    by_case (inl has) =
        let from : (0 ≤ has.level) × (has.found.clock < n) = from_level s 0 n has.found.clock has.level (subst (λ (w : Owner). (is_from_level s 0 w && nat_lt has.found.clock n) ≡ true) has.is has.passes) in
        record {
          before = view_at (old.clock + 1) Nobody;
          kept = nobody_kept old;
          alike = each_both (IsMade {D = D} old) (λ (e : Edit D). Beside s has.level has.found.clock e.clock e.owner) (SeesAsBefore (commit_at s old.clock) (view_at n (Whole s)) (view_at (old.clock + 1) Nobody)) (λ e made beside. early_beside s old.clock n has.level has.found.clock e.clock e.owner early from.1 made.past beside) es stack.made has.beside;
        }
    by_case (inr none) = record {
      before = view_at n (Whole s);
      kept = kept;
      alike = each_more (λ (e : Edit D). is_from_before s 0 n e ≡ false) (SeesAsBefore (commit_at s old.clock) (view_at n (Whole s)) (view_at n (Whole s))) (λ e is. early_own s old.clock n e.clock e.owner early is) es none;
    }

pub commit_covers : {D : Type 0} (s : ℕ) (old new : Transactions) → 1 ≤ s → 0 < length (levels_of old s) → HasLevels s [] old new → new.clock ≡ old.clock → new.held ≡ old.held → HoldsWholeViews old → (es : List (Edit D)) → IsStack old es → (v : Snapshot) → Contains (kept_views new) v → IsCovered (commit_at s old.clock) old es v
commit_covers {D} s old new first some has clock held readers es stack v kept = by_way (kept_is new v kept)
  where
    now : ℕ
    now = old.clock

    gone : (t : ℕ) → 0 < length (levels_of new t) → t ≡ s → ⊥
    gone t more is =
        let none : length (levels_of new s) ≡ 0 = ap (λ (names : List (Option (List ℕ))). length names) (levels_here s _ old new has some) in
        omega (arith, none, subst (λ (u : ℕ). 0 < length (levels_of new u)) is more)

    stays : (t : ℕ) → 1 ≤ t → 0 < length (levels_of new t) → levels_of new t ≡ levels_of old t
    stays t low more = levels_apart s _ old new has t first low (gone t more)

    held_case : (n : ℕ) (w : Viewer) → LooksWhole w → Contains old.held (view_at n w) → (n ≤ now) ⊎ (now < n) → IsCovered (commit_at s now) old es (view_at n w)
    held_case n (Below t l) whole was when = absurd whole
    held_case n Nobody whole was (inl early) = commit_early_other s n Nobody old es early refl (held_kept old (view_at n Nobody) was)
    held_case n Nobody whole was (inr late) = commit_late_own s n Nobody old es first some (λ made w past past'. late_nobody s now n made w late past past') stack
    held_case n (Whole t) whole was when = by_equal (cases_eq t s) when
      where
        by_equal : (t ≡ s) ⊎ (t ≡ s → ⊥) → (n ≤ now) ⊎ (now < n) → IsCovered (commit_at s now) old es (view_at n (Whole t))
        by_equal (inl is) (inl early) = subst (λ (u : ℕ). IsCovered (commit_at s now) old es (view_at n (Whole u))) (sym is) (commit_early_own s n old es early stack (subst (λ (u : ℕ). Contains (kept_views old) (view_at n (Whole u))) is (held_kept old (view_at n (Whole t)) was)))
        by_equal (inl is) (inr late) = subst (λ (u : ℕ). IsCovered (commit_at s now) old es (view_at n (Whole u))) (sym is) (commit_late_own s n (Whole s) old es first some (λ made w past past'. late_own s now n made w late past past') stack)
        by_equal (inr apart) (inl early) = commit_early_other s n (Whole t) old es early (let other : (t == s) ≡ false = grind (arith, nat_tests) in other) (held_kept old (view_at n (Whole t)) was)
        by_equal (inr apart) (inr late) = commit_late_other s n (Whole t) old es first some late stack (held_kept old (view_at n (Whole t)) was)

    either : (n : ℕ) → (n < now + 1) ⊎ (now + 1 ≤ n) → (n ≤ now) ⊎ (now < n)
    either n (inl less) = inl (omega arith)
    either n (inr more) = inr (omega arith)

    by_way : KeptBy new v → IsCovered (commit_at s now) old es v
    by_way (ByNobody is) = rw (is, clock) (commit_late_own s (now + 1) Nobody old es first some (λ made w past past'. late_nobody s now (now + 1) made w (omega arith) past past') stack)
    by_way (ByWhole t low more is) = rw (is, clock) (commit_late_other s (now + 1) (Whole t) old es first some (omega arith) stack (whole_kept old t low (subst (λ (names : List (Option (List ℕ))). 0 < length names) (stays t low more) more)))
    by_way (ByBelow t l low one most is) = rw (is, clock) (commit_late_other s (now + 1) (Below t l) old es first some (omega arith) stack (below_kept old t l low one (subst (λ (names : List (Option (List ℕ))). l ≤ length names) (stays t low (omega arith)) most)))
    by_way (ByHold in_held) =
        let was : Contains old.held v = subst (λ (views : List Snapshot). Contains views v) held in_held in
        held_case v.clock v.viewer (readers.whole v was) was (either v.clock (cases_lt v.clock (now + 1)))

-- Calls that change no owner

-- a view at the clock above a later one
pub sees_past : (x : Transactions) (n made : ℕ) (viewer : Viewer) (w : Owner) → x.clock < n → made ≤ x.clock → IsOwner x made w → sees n viewer made w ≡ sees (x.clock + 1) viewer made w
sees_past x n made viewer (Committed a) late past is = let was : a ≤ x.clock = is.1 in grind (arith, nat_tests)
sees_past x n made Nobody (Running t l) late past is = grind (arith, nat_tests)
sees_past x n made (Whole s) (Running t l) late past is = grind (arith, nat_tests)
sees_past x n made (Below s k) (Running t l) late past is = grind (arith, nat_tests)

as_past : {D : Type 0} (old : Transactions) (n : ℕ) (viewer : Viewer) (es : List (Edit D)) → old.clock < n → IsStack old es → Contains (kept_views old) (view_at (old.clock + 1) viewer) → IsCovered same old es (view_at n viewer)
as_past {D} old n viewer es late stack kept = record {
  before = view_at (old.clock + 1) viewer;
  kept = kept;
  alike = each_more (IsMade {D = D} old) (SeesAsBefore same (view_at n viewer) (view_at (old.clock + 1) viewer)) (λ e made. sees_past old n e.clock viewer e.owner late made.past made.owner) es stack.made;
}

as_it_was : {D : Type 0} (old : Transactions) (v : Snapshot) (es : List (Edit D)) → Contains (kept_views old) v → IsCovered same old es v
as_it_was old v es kept = record { before = v; kept = kept; alike = each_all (SeesAsBefore same v v) (λ e. refl) es }

pub tick_covers : {D : Type 0} (old : Transactions) (es : List (Edit D)) → IsStack old es → (v : Snapshot) → Contains (kept_views (record old { clock = old.clock + 1 })) v → IsCovered same old es v
tick_covers old es stack v kept = by_way (kept_is (record old { clock = old.clock + 1 }) v kept)
  where
    by_way : KeptBy (record old { clock = old.clock + 1 }) v → IsCovered same old es v
    by_way (ByNobody is) = rw is (as_past old (old.clock + 1 + 1) Nobody es (omega arith) stack (nobody_kept old))
    by_way (ByWhole t low some is) = rw is (as_past old (old.clock + 1 + 1) (Whole t) es (omega arith) stack (whole_kept old t low some))
    by_way (ByBelow t l low one most is) = rw is (as_past old (old.clock + 1 + 1) (Below t l) es (omega arith) stack (below_kept old t l low one most))
    by_way (ByHold held) = as_it_was old v es (held_kept old v held)

-- a hold adds a view that is kept, and its end takes one away
pub held_covers : {D : Type 0} (old : Transactions) (held : List Snapshot) (es : List (Edit D)) → ((v : Snapshot) → Contains held v → Contains (kept_views old) v) → (v : Snapshot) → Contains (kept_views (record old { held = held })) v → IsCovered same old es v
held_covers old held es were v kept = by_way (kept_is (record old { held = held }) v kept)
  where
    by_way : KeptBy (record old { held = held }) v → IsCovered same old es v
    by_way (ByNobody is) = rw is (as_it_was old (view_at (old.clock + 1) Nobody) es (nobody_kept old))
    by_way (ByWhole t low some is) = rw is (as_it_was old (view_at (old.clock + 1) (Whole t)) es (whole_kept old t low some))
    by_way (ByBelow t l low one most is) = rw is (as_it_was old (view_at (old.clock + 1) (Below t l)) es (below_kept old t l low one most))
    by_way (ByHold held_one) = as_it_was old v es (were v held_one)

-- a new level: the view below it is the whole one, or nobody's where it is the first

no_level : (old : Transactions) (s l made : ℕ) (w : Owner) → length (levels_of old s) ≡ 0 → IsOwner old made w → (n : ℕ) → (sees n (Whole s) made w ≡ sees n Nobody made w) × (sees n (Below s l) made w ≡ sees n Nobody made w)
no_level old s l made (Committed a) none is n = (refl, refl)
no_level old s l made (Running t m) none is n = by_equal (cases_eq t s)
  where
    by_equal : (t ≡ s) ⊎ (t ≡ s → ⊥) → (sees n (Whole s) made (Running t m) ≡ sees n Nobody made (Running t m)) × (sees n (Below s l) made (Running t m) ≡ sees n Nobody made (Running t m))
    by_equal (inl equal) = absurd (omega (arith, none, is.1, subst (λ (u : ℕ). m ≤ length (levels_of old u)) equal is.2))
    by_equal (inr apart) = (grind (arith, nat_tests), grind (arith, nat_tests))

all_below : (old : Transactions) (s made : ℕ) (w : Owner) → IsOwner old made w → (n : ℕ) → sees n (Below s (length (levels_of old s) + 1)) made w ≡ sees n (Whole s) made w
all_below old s made (Committed a) is n = refl
all_below old s made (Running t m) is n = by_equal (cases_eq t s)
  where
    by_equal : (t ≡ s) ⊎ (t ≡ s → ⊥) → sees n (Below s (length (levels_of old s) + 1)) made (Running t m) ≡ sees n (Whole s) made (Running t m)
    by_equal (inl equal) = let within : m ≤ length (levels_of old s) = subst (λ (u : ℕ). m ≤ length (levels_of old u)) equal is.2 in grind (arith, nat_tests)
    by_equal (inr apart) = grind (arith, nat_tests)

as_other : {D : Type 0} (old : Transactions) (v u : Snapshot) (es : List (Edit D)) → IsStack old es → Contains (kept_views old) u → ((made : ℕ) (w : Owner) → IsOwner old made w → sees v.clock v.viewer made w ≡ sees u.clock u.viewer made w) → IsCovered same old es v
as_other {D} old v u es stack kept alike = record { before = u; kept = kept; alike = each_more (IsMade {D = D} old) (SeesAsBefore same v u) (λ e made. alike e.clock e.owner made.owner) es stack.made }

pub opens_covers : {D : Type 0} (s : ℕ) (name : Option (List ℕ)) (old new : Transactions) → 1 ≤ s → HasLevels s (levels_of old s ++ name ∷ []) old new → new.clock ≡ old.clock → new.held ≡ old.held → (es : List (Edit D)) → IsStack old es → (v : Snapshot) → Contains (kept_views new) v → IsCovered same old es v
opens_covers {D} s name old new first has clock held es stack v kept = by_way (kept_is new v kept)
  where
    top : ℕ
    top = length (levels_of old s)

    count : length (levels_of old s ++ name ∷ []) ≡ top + 1
    count = length-append (levels_of old s) (name ∷ [])

    whole_some : (0 < top) ⊎ (top ≤ 0) → IsCovered same old es (view_at (old.clock + 1) (Whole s))
    whole_some (inl some) = as_it_was old (view_at (old.clock + 1) (Whole s)) es (whole_kept old s first some)
    whole_some (inr none) = as_other old (view_at (old.clock + 1) (Whole s)) (view_at (old.clock + 1) Nobody) es stack (nobody_kept old) (λ made w is. (no_level old s 0 made w (omega (arith, none)) is (old.clock + 1)).0)

    whole_case : (t : ℕ) → 1 ≤ t → 0 < length (levels_of new t) → ((t ≡ s) × (levels_of new t ≡ levels_of old s ++ name ∷ [])) ⊎ (levels_of new t ≡ levels_of old t) → IsCovered same old es (view_at (old.clock + 1) (Whole t))
    whole_case t low some (inl own) = subst (λ (u : ℕ). IsCovered same old es (view_at (old.clock + 1) (Whole u))) (sym own.0) (whole_some (cases_lt 0 top))
    whole_case t low some (inr stays) = as_it_was old (view_at (old.clock + 1) (Whole t)) es (whole_kept old t low (subst (λ (names : List (Option (List ℕ))). 0 < length names) stays some))

    below_last : (0 < top) ⊎ (top ≤ 0) → IsCovered same old es (view_at (old.clock + 1) (Below s (top + 1)))
    below_last (inl some) = as_other old (view_at (old.clock + 1) (Below s (top + 1))) (view_at (old.clock + 1) (Whole s)) es stack (whole_kept old s first some) (λ made w is. all_below old s made w is (old.clock + 1))
    below_last (inr none) = as_other old (view_at (old.clock + 1) (Below s (top + 1))) (view_at (old.clock + 1) Nobody) es stack (nobody_kept old) (λ made w is. (no_level old s (top + 1) made w (omega (arith, none)) is (old.clock + 1)).1)

    below_own : (l : ℕ) → 1 ≤ l → l ≤ top + 1 → (l ≡ top + 1) ⊎ (l ≡ top + 1 → ⊥) → IsCovered same old es (view_at (old.clock + 1) (Below s l))
    below_own l one most (inl last) = subst (λ (k : ℕ). IsCovered same old es (view_at (old.clock + 1) (Below s k))) (sym last) (below_last (cases_lt 0 top))
    below_own l one most (inr before) = as_it_was old (view_at (old.clock + 1) (Below s l)) es (below_kept old s l first one (let apart : l ≢ top + 1 = before in omega (arith, apart)))

    below_case : (t l : ℕ) → 1 ≤ t → 1 ≤ l → l ≤ length (levels_of new t) → ((t ≡ s) × (levels_of new t ≡ levels_of old s ++ name ∷ [])) ⊎ (levels_of new t ≡ levels_of old t) → IsCovered same old es (view_at (old.clock + 1) (Below t l))
    below_case t l low one most (inl own) = subst (λ (u : ℕ). IsCovered same old es (view_at (old.clock + 1) (Below u l))) (sym own.0) (below_own l one (let here : l ≤ length (levels_of old s ++ name ∷ []) = subst (λ (names : List (Option (List ℕ))). l ≤ length names) own.1 most in omega (arith, here, count)) (cases_eq l (top + 1)))
    below_case t l low one most (inr stays) = as_it_was old (view_at (old.clock + 1) (Below t l)) es (below_kept old t l low one (subst (λ (names : List (Option (List ℕ))). l ≤ length names) stays most))

    by_way : KeptBy new v → IsCovered same old es v
    by_way (ByNobody is) = rw (is, clock) (as_it_was old (view_at (old.clock + 1) Nobody) es (nobody_kept old))
    by_way (ByWhole t low some is) = rw (is, clock) (whole_case t low some (levels_cases s _ old new has t first low))
    by_way (ByBelow t l low one most is) = rw (is, clock) (below_case t l low one most (levels_cases s _ old new has t first low))
    by_way (ByHold in_held) = as_it_was old v es (held_kept old v (subst (λ (views : List Snapshot). Contains views v) held in_held))

-- The same for the class of all views, in which a store answers that never reclaims

abbrev pub IsAnyView : Snapshot → Type 0
IsAnyView v = Unit {0}

pub release_covers_any : {D : Type 0} (s k : ℕ) → 1 ≤ k → (es : List (Edit D)) (v : Snapshot) → IsCoveredBy IsAnyView (release s k) es v
release_covers_any s k low es v = record {
  before = view_at v.clock (before_release s k v.viewer);
  kept = tt;
  alike = each_all (SeesAsBefore (release s k) v (view_at v.clock (before_release s k v.viewer))) (λ e. sees_released s k v.clock e.clock v.viewer e.owner low) es;
}

pub undo_covers_any : {D : Type 0} (s k : ℕ) (es : List (Edit D)) (v : Snapshot) → IsCoveredBy IsAnyView (undo s k) es v
undo_covers_any s k es v = record {
  before = view_at v.clock (before_undo s k v.viewer);
  kept = tt;
  alike = each_all (SeesAsBefore (undo s k) v (view_at v.clock (before_undo s k v.viewer))) (λ e. sees_undone s k v.clock e.clock v.viewer e.owner) es;
}

pub same_covers_any : {D : Type 0} (es : List (Edit D)) (v : Snapshot) → IsCoveredBy IsAnyView same es v
same_covers_any es v = record { before = v; kept = tt; alike = each_all (SeesAsBefore same v v) (λ e. refl) es }

-- an earlier view of the session, after a commit, has what was committed
early_nobody : (s c n made : ℕ) (viewer : Viewer) (w : Owner) → n ≤ c → looks_as s viewer ≡ true → sees n viewer made (committed_owner s c w) ≡ sees n Nobody made w
early_nobody s c n made viewer (Committed a) early own = refl
early_nobody s c n made Nobody (Running t m) early own = absurd (false≢true own)
early_nobody s c n made (Whole u) (Running t m) early own = grind (arith, nat_tests)
early_nobody s c n made (Below u l) (Running t m) early own = grind (arith, nat_tests)

late_any_own : (s c n made : ℕ) (viewer : Viewer) (w : Owner) → c < n → made ≤ c → IsPast c w → looks_as s viewer ≡ true → sees n viewer made (committed_owner s c w) ≡ sees (c + 1) (Whole s) made w
late_any_own s c n made viewer (Committed a) late past was own = grind (arith, nat_tests)
late_any_own s c n made Nobody (Running t m) late past was own = absurd (false≢true own)
late_any_own s c n made (Whole u) (Running t m) late past was own = grind (arith, nat_tests)
late_any_own s c n made (Below u l) (Running t m) late past was own = grind (arith, nat_tests)

pub commit_covers_any : {D : Type 0} (s : ℕ) (old : Transactions) (es : List (Edit D)) → IsStack old es → (v : Snapshot) → IsCoveredBy IsAnyView (commit_at s old.clock) es v
commit_covers_any {D} s old es stack v = by_case (cases_lt old.clock v.clock) (looks_as s v.viewer) refl
  where
    whole : ((e : Edit D) → IsMade old e → sees v.clock v.viewer e.clock (committed_owner s old.clock e.owner) ≡ sees (old.clock + 1) (Whole s) e.clock e.owner) → IsCoveredBy IsAnyView (commit_at s old.clock) es v
    whole alike = record { before = view_at (old.clock + 1) (Whole s); kept = tt; alike = each_more (IsMade {D = D} old) (SeesAsBefore (commit_at s old.clock) v (view_at (old.clock + 1) (Whole s))) alike es stack.made }

    late_case : old.clock < v.clock → HasOpen s (λ (e : Edit D). is_from_level s 0 e.owner) es ⊎ Each (λ (e : Edit D). is_from_level s 0 e.owner ≡ false) es → IsCoveredBy IsAnyView (commit_at s old.clock) es v
    late_case late (inl has) = record {
      before = view_at (old.clock + 1) (Whole s);
      kept = tt;
      alike = each_both (IsMade {D = D} old) (λ (e : Edit D). Beside s has.level has.found.clock e.clock e.owner) (SeesAsBefore (commit_at s old.clock) v (view_at (old.clock + 1) (Whole s))) (λ e made beside. late_beside s old.clock v.clock has.level has.found.clock e.clock v.viewer e.owner late made.past (owner_past old e.clock e.owner made.owner) beside) es stack.made has.beside;
    }
    late_case late (inr none) = record {
      before = v;
      kept = tt;
      alike = each_more (λ (e : Edit D). is_from_level s 0 e.owner ≡ false) (SeesAsBefore (commit_at s old.clock) v v) (λ e is. sees_other s old.clock v.clock e.clock v.viewer e.owner is) es none;
    }

    by_case : (old.clock < v.clock) ⊎ (v.clock ≤ old.clock) → (b : Bool) → looks_as s v.viewer ≡ b → IsCoveredBy IsAnyView (commit_at s old.clock) es v
    by_case (inl late) true own = whole (λ e made. late_any_own s old.clock v.clock e.clock v.viewer e.owner late made.past (owner_past old e.clock e.owner made.owner) own)
    by_case (inl late) false apart = late_case late (either_open s (λ (e : Edit D). is_from_level s 0 e.owner) (λ e is. is_own_any s e.owner is) es stack.order)
    by_case (inr early) true own = record { before = view_at v.clock Nobody; kept = tt; alike = each_all (SeesAsBefore (commit_at s old.clock) v (view_at v.clock Nobody)) (λ e. early_nobody s old.clock v.clock e.clock v.viewer e.owner early own) es }
    by_case (inr early) false apart = record { before = v; kept = tt; alike = each_all (SeesAsBefore (commit_at s old.clock) v v) (λ e. early_other s old.clock v.clock e.clock v.viewer e.owner early apart) es }
