-- What a reclamation keeps of the standing edits of one key.
use Rattle.std.proofs.Common.{ℕ, ◌+◌, ◌<◌, ◌≤◌, ◌≡◌, ◌⊎◌, inl, inr, Bool, true, false, List, [], ◌∷◌, length, Option, Some, None, refl, ap, sym, subst, ◌∙◌, arith}
use Rattle.std.specs.Prelude.{◌==◌, ◌&&◌, ◌||◌, not, if◌then◌else◌, Contains}
use Rattle.std.specs.List.{list_any}
use Rattle.std.proofs.lemmas.Bool.{false≢true, cases_lt}
use Rattle.std.proofs.lemmas.Bool.Decides.{nat_tests}
use Rattle.std.proofs.lemmas.Option.{none-some}
use Rattle.lo_model.specs.declared.owner.Owner.{Owner}
use Rattle.lo_model.specs.declared.owner.Owner.TheVariants.{Running, Committed}
use Rattle.lo_model.specs.declared.viewer.Viewer.{Viewer}
use Rattle.lo_model.specs.declared.viewer.Viewer.TheVariants.{Nobody, Whole, Below}
use Rattle.lo_model.specs.Edit.{Edit}
use Rattle.lo_model.specs.View.{sees, has_open}
use Rattle.xact_core.specs.declared.snapshot.Snapshot.{Snapshot}
use Rattle.xact_core.specs.Kept.{view_at, kept_views}
use Rattle.xact_core.specs.Transactions.{Transactions, levels_of}
use Rattle.row_versions.specs.Stack.{Each, Pairwise, Follows, IsOver, IsOwner, IsMade, IsStack}
use Rattle.row_versions.specs.Vacuum.{has_seen, last_in, last_seen, put_of, found, is_open_to, any_open, is_last, lasts, is_committed, trimmed, reclaimed, IsFound, FoundUnlessErasure, OneOwner, OtherClock}
use Rattle.row_versions.proofs.Stacking.{each_more, each_both}
use Rattle.row_versions.proofs.Keeping.{cons_cases, cons_rest, cons_first, nil_none, whole_kept, below_kept}
use Rattle.row_versions.proofs.Covering.{Among}

-- tests of lists

pub any_contains : {X : Type 0} (test : X → Bool) (xs : List X) (x : X) → Contains xs x → test x ≡ true → list_any test xs ≡ true
any_contains test [] x here passes = absurd (nil_none x here)
any_contains {X} test (y ∷ ys) x here passes = by_case (cons_cases y x ys here) (any_contains test ys x)
  where
    by_case : (y ≡ x) ⊎ Contains ys x → (Contains ys x → test x ≡ true → list_any test ys ≡ true) → (test y || list_any test ys) ≡ true
    by_case (inl is) left = let first : test y ≡ true = ap test is ∙ passes in rw first refl
    by_case (inr later) left = let rest : list_any test ys ≡ true = left later passes in by_first (test y) rest
      where
        by_first : (b : Bool) → list_any test ys ≡ true → (b || list_any test ys) ≡ true
        by_first true rest = refl
        by_first false rest = rest

pub record HasOne {X : Type 0} (test : X → Bool) (xs : List X) : Type 0 where
  pub one : X
  pub there : Contains xs one
  pub passes : test one ≡ true

pub any_has : {X : Type 0} (test : X → Bool) (xs : List X) → list_any test xs ≡ true → HasOne test xs
any_has test [] is = absurd (false≢true is)
any_has {X} test (x ∷ xs) is = by_first (test x) refl is (any_has test xs)
  where
    by_first : (b : Bool) → test x ≡ b → (b || list_any test xs) ≡ true → (list_any test xs ≡ true → HasOne test xs) → HasOne test (x ∷ xs)
    by_first true at is left = record { one = x; there = cons_first x xs; passes = at }
    by_first false at is left = let rest : HasOne test xs = left is in record { one = rest.one; there = cons_rest x rest.one xs rest.there; passes = rest.passes }

none_each : {X : Type 0} (test : X → Bool) (xs : List X) → list_any test xs ≡ false → Each (λ x. test x ≡ false) xs
none_each test [] is = tt
none_each {X} test (x ∷ xs) is = by_first (test x) refl is (none_each test xs)
  where
    by_first : (b : Bool) → test x ≡ b → (b || list_any test xs) ≡ false → (list_any test xs ≡ false → Each (λ x. test x ≡ false) xs) → Each (λ x. test x ≡ false) (x ∷ xs)
    by_first true at is left = absurd (false≢true (sym is))
    by_first false at is left = (at, left is)

each_none : {X : Type 0} (test : X → Bool) (xs : List X) → Each (λ x. test x ≡ false) xs → list_any test xs ≡ false
each_none test [] none = refl
each_none test (x ∷ xs) none = let first : test x ≡ false = none.0 in rw first (each_none test xs none.1)

any_among : {D : Type 0} (test : Edit D → Bool) (es : List (Edit D)) (e : Edit D) → Among e es → test e ≡ true → list_any test es ≡ true
any_among test [] e among passes = absurd among
any_among test (f ∷ fs) e (inl is) passes = let first : test f ≡ true = ap test is ∙ passes in rw first refl
any_among {D} test (f ∷ fs) e (inr later) passes = by_first (test f) (any_among test fs e later passes)
  where
    by_first : (b : Bool) → list_any test fs ≡ true → (b || list_any test fs) ≡ true
    by_first true rest = refl
    by_first false rest = rest

-- the last one

last_free : {D : Type 0} (look : Edit D → Bool) (old old' : Option (Edit D)) (es : List (Edit D)) → list_any look es ≡ true → last_in look old es ≡ last_in look old' es
last_free look old old' [] is = absurd (false≢true is)
last_free {D} look old old' (e ∷ es) is = by_first (look e) refl is (λ some. last_free look old old' es some)
  where
    by_first : (b : Bool) → look e ≡ b → (b || list_any look es) ≡ true → (list_any look es ≡ true → last_in look old es ≡ last_in look old' es) → last_in look (if b then Some e else old) es ≡ last_in look (if b then Some e else old') es
    by_first true at is left = refl
    by_first false at is left = left is

last_none : {D : Type 0} (look : Edit D → Bool) (old : Option (Edit D)) (es : List (Edit D)) → list_any look es ≡ false → last_in look old es ≡ old
last_none look old [] is = refl
last_none {D} look old (e ∷ es) is = by_first (look e) refl is (λ none. last_none look old es none)
  where
    by_first : (b : Bool) → look e ≡ b → (b || list_any look es) ≡ false → (list_any look es ≡ false → last_in look old es ≡ old) → last_in look (if b then Some e else old) es ≡ old
    by_first true at is left = absurd (false≢true (sym is))
    by_first false at is left = left is

pub record IsLastOf {D : Type 0} (look : Edit D → Bool) (es : List (Edit D)) (e : Edit D) : Type 0 where
  pub among : Among e es
  pub sees : look e ≡ true

some_is : {D : Type 0} (e f : Edit D) → Some e ≡ Some f → e ≡ f
some_is e f is = grind arith

pub last_among : {D : Type 0} (look : Edit D → Bool) (es : List (Edit D)) (e : Edit D) → last_in look None es ≡ Some e → IsLastOf look es e
last_among look [] e is = absurd (none-some e is)
last_among {D} look (f ∷ fs) e is = by_rest (list_any look fs) refl (last_among look fs e)
  where
    by_first : (b : Bool) → look f ≡ b → list_any look fs ≡ false → (if b then Some f else None) ≡ Some e → IsLastOf look (f ∷ fs) e
    by_first true at none is = let same : f ≡ e = some_is f e is in record { among = inl same; sees = ap look (sym same) ∙ at }
    by_first false at none is = absurd (none-some e is)

    by_rest : (b : Bool) → list_any look fs ≡ b → (last_in look None fs ≡ Some e → IsLastOf look fs e) → IsLastOf look (f ∷ fs) e
    by_rest true some left = let rest : IsLastOf look fs e = left (last_free look None (if look f then Some f else None) fs some ∙ is) in record { among = inr rest.among; sees = rest.sees }
    by_rest false none left = by_first (look f) refl none (sym (last_none look (if look f then Some f else None) fs none) ∙ is)

-- (i) what each kept view finds

is_last_here : {D : Type 0} (views : List Snapshot) (v : Snapshot) (e : Edit D) (later : List (Edit D)) → Contains views v → has_seen v e ≡ true → list_any (has_seen v) later ≡ false → is_last views e later ≡ true
is_last_here {D} views v e later kept sees none = any_contains (λ u. has_seen u e && not (list_any (has_seen u) later)) views v kept (rw (sees, none) refl)

lasts_from : {D : Type 0} (views : List Snapshot) (v : Snapshot) → Contains views v → (old : Option (Edit D)) (es : List (Edit D)) → last_in (has_seen v) old (lasts views es) ≡ last_in (has_seen v) old es
lasts_from views v kept old [] = refl
lasts_from {D} views v kept old (e ∷ es) = by_last (is_last views e es) refl (λ was. lasts_from views v kept was es)
  where
    by_later : (c : Bool) → has_seen v e ≡ true → list_any (has_seen v) es ≡ c → is_last views e es ≡ false → last_in (has_seen v) old es ≡ last_in (has_seen v) (Some e) es
    by_later true sees some last = last_free (has_seen v) old (Some e) es some
    by_later false sees none last = absurd (false≢true (sym last ∙ is_last_here views v e es kept sees none))

    by_seen : (b : Bool) → has_seen v e ≡ b → is_last views e es ≡ false → last_in (has_seen v) old es ≡ last_in (has_seen v) (if b then Some e else old) es
    by_seen true sees last = by_later (list_any (has_seen v) es) sees refl last
    by_seen false sees last = refl

    by_last : (b : Bool) → is_last views e es ≡ b → ((was : Option (Edit D)) → last_in (has_seen v) was (lasts views es) ≡ last_in (has_seen v) was es) → last_in (has_seen v) old (if b then e ∷ lasts views es else lasts views es) ≡ last_in (has_seen v) (if has_seen v e then Some e else old) es
    by_last true last left = left (if has_seen v e then Some e else old)
    by_last false last left = left old ∙ by_seen (has_seen v e) refl last

pub lasts_seen : {D : Type 0} (views : List Snapshot) (v : Snapshot) → Contains views v → (es : List (Edit D)) → last_seen v (lasts views es) ≡ last_seen v es
lasts_seen views v kept es = lasts_from views v kept None es

-- any look, not only that of a kept view, finds the same after a trimming
pub trimmed_found : {D : Type 0} (erases : D → Bool) (look : Edit D → Bool) (es : List (Edit D)) → put_of erases (last_in look None (trimmed erases es)) ≡ put_of erases (last_in look None es)
trimmed_found erases look [] = refl
trimmed_found {D} erases look (e ∷ es) = by_gone (is_committed e.owner && erases e.deed) refl (trimmed_found erases look es)
  where
    erased : (is_committed e.owner && erases e.deed) ≡ true → erases e.deed ≡ true
    erased is = by_tests (is_committed e.owner) is
      where
        by_tests : (b : Bool) → (b && erases e.deed) ≡ true → erases e.deed ≡ true
        by_tests true is = is
        by_tests false is = absurd (false≢true is)

    by_later : (c : Bool) → list_any look es ≡ c → erases e.deed ≡ true → put_of erases (last_in look None es) ≡ put_of erases (last_in look (Some e) es)
    by_later true some is = ap (put_of erases) (last_free look None (Some e) es some)
    by_later false none is = rw (last_none look None es none, last_none look (Some e) es none, is) refl

    by_seen : (b : Bool) → erases e.deed ≡ true → put_of erases (last_in look None es) ≡ put_of erases (last_in look (if b then Some e else None) es)
    by_seen true is = by_later (list_any look es) refl is
    by_seen false is = refl

    by_gone : (b : Bool) → (is_committed e.owner && erases e.deed) ≡ b → put_of erases (last_in look None (trimmed erases es)) ≡ put_of erases (last_in look None es) → put_of erases (last_in look None (if b then trimmed erases es else e ∷ es)) ≡ put_of erases (last_in look None (e ∷ es))
    by_gone true gone left = left ∙ by_seen (look e) (erased gone)
    by_gone false stays left = refl

pub reclaimed_found : {D : Type 0} (erases : D → Bool) (views : List Snapshot) (v : Snapshot) → Contains views v → (es : List (Edit D)) → found erases v (reclaimed erases views es) ≡ found erases v es
reclaimed_found erases views v kept es = trimmed_found erases (has_seen v) (lasts views es) ∙ ap (put_of erases) (lasts_seen views v kept es)

-- (iii) the stack

pub lasts_each : {D : Type 0} (P : Edit D → Type 0) (views : List Snapshot) (es : List (Edit D)) → Each P es → Each P (lasts views es)
lasts_each P views [] h = tt
lasts_each {D} P views (e ∷ es) h = by_last (is_last views e es) (lasts_each P views es h.1)
  where
    by_last : (b : Bool) → Each P (lasts views es) → Each P (if b then e ∷ lasts views es else lasts views es)
    by_last true rest = (h.0, rest)
    by_last false rest = rest

pub lasts_pairwise : {D : Type 0} (R : Edit D → Edit D → Type 0) (views : List Snapshot) (es : List (Edit D)) → Pairwise R es → Pairwise R (lasts views es)
lasts_pairwise R views [] h = tt
lasts_pairwise {D} R views (e ∷ es) h = by_last (is_last views e es) (lasts_pairwise R views es h.1)
  where
    by_last : (b : Bool) → Pairwise R (lasts views es) → Pairwise R (if b then e ∷ lasts views es else lasts views es)
    by_last true rest = (lasts_each (R e) views es h.0, rest)
    by_last false rest = rest

trimmed_each : {D : Type 0} (P : Edit D → Type 0) (erases : D → Bool) (es : List (Edit D)) → Each P es → Each P (trimmed erases es)
trimmed_each P erases [] h = tt
trimmed_each {D} P erases (e ∷ es) h = by_gone (is_committed e.owner && erases e.deed) (trimmed_each P erases es h.1)
  where
    by_gone : (b : Bool) → Each P (trimmed erases es) → Each P (if b then trimmed erases es else e ∷ es)
    by_gone true rest = rest
    by_gone false rest = h

trimmed_pairwise : {D : Type 0} (R : Edit D → Edit D → Type 0) (erases : D → Bool) (es : List (Edit D)) → Pairwise R es → Pairwise R (trimmed erases es)
trimmed_pairwise R erases [] h = tt
trimmed_pairwise {D} R erases (e ∷ es) h = by_gone (is_committed e.owner && erases e.deed) (trimmed_pairwise R erases es h.1)
  where
    by_gone : (b : Bool) → Pairwise R (trimmed erases es) → Pairwise R (if b then trimmed erases es else e ∷ es)
    by_gone true rest = rest
    by_gone false rest = h

pub reclaimed_each : {D : Type 0} (P : Edit D → Type 0) (erases : D → Bool) (views : List Snapshot) (es : List (Edit D)) → Each P es → Each P (reclaimed erases views es)
reclaimed_each P erases views es h = trimmed_each P erases (lasts views es) (lasts_each P views es h)

pub reclaimed_stack : {D : Type 0} (erases : D → Bool) (views : List Snapshot) (x : Transactions) (es : List (Edit D)) → IsStack x es → IsStack x (reclaimed erases views es)
reclaimed_stack erases views x es stack = record {
  made = trimmed_each (IsMade x) erases (lasts views es) (lasts_each (IsMade x) views es stack.made);
  order = trimmed_pairwise IsOver erases (lasts views es) (lasts_pairwise IsOver views es stack.order);
}

-- (ii) who holds the key, at which levels

lasts_any : {D : Type 0} (test : Edit D → Bool) (views : List Snapshot) (es : List (Edit D)) → list_any test es ≡ false → list_any test (lasts views es) ≡ false
lasts_any test views es none = each_none test (lasts views es) (lasts_each (λ e. test e ≡ false) views es (none_each test es none))

trimmed_any_open : {D : Type 0} (erases : D → Bool) (viewer : Viewer) (es : List (Edit D)) → any_open viewer (trimmed erases es) ≡ any_open viewer es
trimmed_any_open erases viewer [] = refl
trimmed_any_open {D} erases viewer (e ∷ es) = by_gone (is_committed e.owner && erases e.deed) refl (trimmed_any_open erases viewer es)
  where
    shut : (w : Owner) → (is_committed w && erases e.deed) ≡ true → is_open_to viewer w ≡ false
    shut (Committed c) is = refl
    shut (Running s l) is = absurd (false≢true is)

    by_gone : (b : Bool) → (is_committed e.owner && erases e.deed) ≡ b → any_open viewer (trimmed erases es) ≡ any_open viewer es → any_open viewer (if b then trimmed erases es else e ∷ es) ≡ any_open viewer (e ∷ es)
    by_gone true gone left = left ∙ (let first : is_open_to viewer e.owner ≡ false = shut e.owner gone in rw first refl)
    by_gone false stays left = refl

-- the last that a view sees of a stack with an open edit that it sees is open too, at no lower level
pub record LastOpen {D : Type 0} (s : ℕ) (look : Edit D → Bool) (es : List (Edit D)) : Type 0 where
  pub edit : Edit D
  pub level : ℕ
  pub is : edit.owner ≡ Running s level
  pub last : last_in look None es ≡ Some edit

abbrev is_own_seen : {D : Type 0} → ℕ → (Edit D → Bool) → Edit D → Bool
is_own_seen s look e = look e && is_open_to (Whole s) e.owner

owner_from : (s : ℕ) (w : Owner) → is_open_to (Whole s) w ≡ true → (level : ℕ) × (w ≡ Running s level)
owner_from s (Committed c) is = absurd (false≢true is)
owner_from s (Running t l) is = (l, (let equal : t ≡ s = grind (arith, nat_tests) in ap (λ (u : ℕ). Running u l) equal))

above_open : (s l c d : ℕ) (w : Owner) → Follows c (Running s l) d w → is_open_to (Whole s) w ≡ true
above_open s l c d (Committed a) over = absurd over
above_open s l c d (Running t m) over = let equal : s ≡ t = over.0 in grind (arith, nat_tests)

both : (a b : Bool) → (a && b) ≡ true → (a ≡ true) × (b ≡ true)
both true b is = (refl, is)
both false b is = absurd (false≢true is)

-- what stands over an open edit and is not an own one that is seen, is not seen
unseen_over : {D : Type 0} (s l : ℕ) (look : Edit D → Bool) (e f : Edit D) → e.owner ≡ Running s l → IsOver e f → is_own_seen s look f ≡ false → look f ≡ false
unseen_over {D} s l look e f is over none = by_look (look f) refl
  where
    own : is_open_to (Whole s) f.owner ≡ true
    own = above_open s l e.clock f.clock f.owner (subst (λ (w : Owner). Follows e.clock w f.clock f.owner) is over)

    by_look : (b : Bool) → look f ≡ b → look f ≡ false
    by_look false at = at
    by_look true at = absurd (false≢true (sym none ∙ rw (at, own) refl))

pub last_open : {D : Type 0} (s : ℕ) (look : Edit D → Bool) (es : List (Edit D)) → Pairwise IsOver es → list_any (is_own_seen s look) es ≡ true → LastOpen s look es
last_open s look [] order is = absurd (false≢true is)
last_open {D} s look (e ∷ es) order is = by_rest (list_any (is_own_seen s look) es) refl is (λ some. last_open s look es order.1 some)
  where
    any_look : (fs : List (Edit D)) → list_any (is_own_seen s look) fs ≡ true → list_any look fs ≡ true
    any_look [] some = some
    any_look (f ∷ fs) some = by_tests (look f) (is_open_to (Whole s) f.owner) some (any_look fs)
      where
        by_tests : (a b : Bool) → ((a && b) || list_any (is_own_seen s look) fs) ≡ true → (list_any (is_own_seen s look) fs ≡ true → list_any look fs ≡ true) → (a || list_any look fs) ≡ true
        by_tests true b some left = refl
        by_tests false b some left = left some

    here : is_own_seen s look e ≡ true → list_any (is_own_seen s look) es ≡ false → LastOpen s look (e ∷ es)
    here own none =
        let tests : (look e ≡ true) × (is_open_to (Whole s) e.owner ≡ true) = both (look e) (is_open_to (Whole s) e.owner) own in
        let from : (level : ℕ) × (e.owner ≡ Running s level) = owner_from s e.owner tests.1 in
        let unseen : list_any look es ≡ false = each_none look es (each_both (IsOver e) (λ (f : Edit D). is_own_seen s look f ≡ false) (λ (f : Edit D). look f ≡ false) (λ f over out. unseen_over s from.0 look e f from.1 over out) es order.0 (none_each (is_own_seen s look) es none)) in
        let sees : look e ≡ true = tests.0 in
        record { edit = e; level = from.0; is = from.1; last = rw sees (last_none look (Some e) es unseen) }

    by_first : (a : Bool) → is_own_seen s look e ≡ a → list_any (is_own_seen s look) es ≡ false → (a || false) ≡ true → LastOpen s look (e ∷ es)
    by_first true at none is = here at none
    by_first false at none is = absurd (false≢true is)

    by_rest : (b : Bool) → list_any (is_own_seen s look) es ≡ b → (is_own_seen s look e || b) ≡ true → (list_any (is_own_seen s look) es ≡ true → LastOpen s look es) → LastOpen s look (e ∷ es)
    by_rest true some is left = let rest : LastOpen s look es = left some in record { edit = rest.edit; level = rest.level; is = rest.is; last = last_free look (if look e then Some e else None) None es (any_look es some) ∙ rest.last }
    by_rest false none is left = by_first (is_own_seen s look e) refl none is

-- a view that is kept and sees of a session's open edits just those that a viewer sees
pub record OpenView (x : Transactions) (viewer : Viewer) (s : ℕ) : Type 0 where
  pub who : Viewer
  pub kept : Contains (kept_views x) (view_at (x.clock + 1) who)
  pub sees_same : (made l : ℕ) → made ≤ x.clock → IsOwner x made (Running s l) → sees (x.clock + 1) who made (Running s l) ≡ has_open viewer s l
  pub own : (t l : ℕ) → has_open viewer t l ≡ true → t ≡ s

open_view_whole : (x : Transactions) (s : ℕ) → 1 ≤ s → 0 < length (levels_of x s) → OpenView x (Whole s) s
open_view_whole x s low some = record {
  who = Whole s;
  kept = whole_kept x s low some;
  sees_same = λ made l past is. grind (arith, nat_tests);
  own = λ t l is. grind (arith, nat_tests);
}

open_view_below : (x : Transactions) (s k : ℕ) → 1 ≤ s → 1 ≤ k → 0 < length (levels_of x s) → OpenView x (Below s k) s
open_view_below x s k low one some = by_level (cases_lt (length (levels_of x s)) k)
  where
    by_level : (length (levels_of x s) < k) ⊎ (k ≤ length (levels_of x s)) → OpenView x (Below s k) s
    by_level (inl above) = record {
      who = Whole s;
      kept = whole_kept x s low some;
      sees_same = λ made l past is. (let within : l ≤ length (levels_of x s) = is.2 in grind (arith, nat_tests));
      own = λ t l is. grind (arith, nat_tests);
    }
    by_level (inr within) = record {
      who = Below s k;
      kept = below_kept x s k low one within;
      sees_same = λ made l past is. grind (arith, nat_tests);
      own = λ t l is. grind (arith, nat_tests);
    }

nobody_none : {D : Type 0} (es : List (Edit D)) → any_open Nobody es ≡ false
nobody_none [] = refl
nobody_none {D} (e ∷ es) = let first : is_open_to Nobody e.owner ≡ false = shut e.owner in rw first (nobody_none es)
  where
    shut : (w : Owner) → is_open_to Nobody w ≡ false
    shut (Committed c) = refl
    shut (Running s l) = refl

-- some open edit for a viewer is a seen one of that view
to_seen : {D : Type 0} (x : Transactions) (viewer : Viewer) (s : ℕ) (view : OpenView x viewer s) (es : List (Edit D)) → Each (IsMade x) es → any_open viewer es ≡ true → list_any (is_own_seen s (has_seen (view_at (x.clock + 1) view.who))) es ≡ true
to_seen x viewer s view [] made is = absurd (false≢true is)
to_seen {D} x viewer s view (e ∷ es) made is = by_first (is_open_to viewer e.owner) refl is (to_seen x viewer s view es made.1)
  where
    look : Edit D → Bool
    look f = has_seen (view_at (x.clock + 1) view.who) f

    first_seen : (w : Owner) → is_open_to viewer w ≡ true → IsOwner x e.clock w → (sees (x.clock + 1) view.who e.clock w && is_open_to (Whole s) w) ≡ true
    first_seen (Committed c) opens owner = absurd (false≢true opens)
    first_seen (Running t l) opens owner =
        let own : t ≡ s = view.own t l opens in
        let seen : sees (x.clock + 1) view.who e.clock (Running s l) ≡ true = view.sees_same e.clock l made.0.past (subst (λ (u : ℕ). IsOwner x e.clock (Running u l)) own owner) ∙ subst (λ (u : ℕ). has_open viewer u l ≡ true) own opens in
        let seen_there : sees (x.clock + 1) view.who e.clock (Running t l) ≡ true = subst (λ (u : ℕ). sees (x.clock + 1) view.who e.clock (Running u l) ≡ true) (sym own) seen in
        let itself : (t == s) ≡ true = grind (arith, nat_tests) in
        rw (seen_there, itself) refl

    by_first : (b : Bool) → is_open_to viewer e.owner ≡ b → (b || any_open viewer es) ≡ true → (any_open viewer es ≡ true → list_any (is_own_seen s look) es ≡ true) → (is_own_seen s look e || list_any (is_own_seen s look) es) ≡ true
    by_first true at is left = let first : is_own_seen s look e ≡ true = first_seen e.owner at made.0.owner in rw first refl
    by_first false at is left = by_own (is_own_seen s look e) (left is)
      where
        by_own : (b : Bool) → list_any (is_own_seen s look) es ≡ true → (b || list_any (is_own_seen s look) es) ≡ true
        by_own true rest = refl
        by_own false rest = rest

lasts_open : {D : Type 0} (x : Transactions) (viewer : Viewer) (s : ℕ) → OpenView x viewer s → (es : List (Edit D)) → IsStack x es → any_open viewer es ≡ true → any_open viewer (lasts (kept_views x) es) ≡ true
lasts_open {D} x viewer s view es stack some = any_among (λ (e : Edit D). is_open_to viewer e.owner) left top.edit there.among opens
  where
    v : Snapshot
    v = view_at (x.clock + 1) view.who

    left : List (Edit D)
    left = lasts (kept_views x) es

    top : LastOpen s (has_seen v) es
    top = last_open s (has_seen v) es stack.order (to_seen x viewer s view es stack.made some)

    there : IsLastOf (has_seen v) left top.edit
    there = last_among (has_seen v) left top.edit (lasts_seen (kept_views x) v view.kept es ∙ top.last)

    was : IsLastOf (has_seen v) es top.edit
    was = last_among (has_seen v) es top.edit top.last

    made_of : (fs : List (Edit D)) → Each (IsMade x) fs → Among top.edit fs → IsMade x top.edit
    made_of [] h among = absurd among
    made_of (f ∷ fs) h (inl is) = subst (λ (e : Edit D). IsMade x e) is h.0
    made_of (f ∷ fs) h (inr later) = made_of fs h.1 later

    opens : is_open_to viewer top.edit.owner ≡ true
    opens =
        let made : IsMade x top.edit = made_of es stack.made was.among in
        let owner : IsOwner x top.edit.clock (Running s top.level) = subst (λ (w : Owner). IsOwner x top.edit.clock w) top.is made.owner in
        let seen : sees (x.clock + 1) view.who top.edit.clock (Running s top.level) ≡ true = subst (λ (w : Owner). sees (x.clock + 1) view.who top.edit.clock w ≡ true) top.is was.sees in
        subst (λ (w : Owner). is_open_to viewer w ≡ true) (sym top.is) (sym (view.sees_same top.edit.clock top.level made.past owner) ∙ seen)

-- an open edit is that of a session with a level
pub record OpenLevel (x : Transactions) (viewer : Viewer) : Type 0 where
  pub session : ℕ
  pub view : OpenView x viewer session

open_level : {D : Type 0} (x : Transactions) (viewer : Viewer) (es : List (Edit D)) → Each (IsMade x) es → any_open viewer es ≡ true → OpenLevel x viewer
open_level x viewer [] made is = absurd (false≢true is)
open_level {D} x viewer (e ∷ es) made is = by_first (is_open_to viewer e.owner) refl is (open_level x viewer es made.1)
  where
    of_owner : (w : Owner) (viewer : Viewer) → is_open_to viewer w ≡ true → IsOwner x e.clock w → OpenLevel x viewer
    of_owner (Committed c) viewer opens owner = absurd (false≢true opens)
    of_owner (Running t l) Nobody opens owner = absurd (false≢true opens)
    of_owner (Running t l) (Whole s) opens owner = record { session = s; view = (let own : t ≡ s = grind (arith, nat_tests) in let count : l ≤ length (levels_of x s) = subst (λ (u : ℕ). l ≤ length (levels_of x u)) own owner.2 in open_view_whole x s (omega (arith, own, owner.0)) (omega (arith, owner.1, count))) }
    of_owner (Running t l) (Below s k) opens owner = record { session = s; view = (let own : t ≡ s = grind (arith, nat_tests) in let less : l < k = grind (arith, nat_tests) in let count : l ≤ length (levels_of x s) = subst (λ (u : ℕ). l ≤ length (levels_of x u)) own owner.2 in open_view_below x s k (omega (arith, own, owner.0)) (omega arith) (omega (arith, owner.1, count))) }

    by_first : (b : Bool) → is_open_to viewer e.owner ≡ b → (b || any_open viewer es) ≡ true → (any_open viewer es ≡ true → OpenLevel x viewer) → OpenLevel x viewer
    by_first true at is left = of_owner e.owner viewer at made.0.owner
    by_first false at is left = left is

pub lasts_any_open : {D : Type 0} (x : Transactions) (viewer : Viewer) (es : List (Edit D)) → IsStack x es → any_open viewer (lasts (kept_views x) es) ≡ any_open viewer es
lasts_any_open {D} x viewer es stack = by_any (any_open viewer es) refl
  where
    by_any : (b : Bool) → any_open viewer es ≡ b → any_open viewer (lasts (kept_views x) es) ≡ b
    by_any true some = let level : OpenLevel x viewer = open_level x viewer es stack.made some in lasts_open x viewer level.session level.view es stack some
    by_any false none = lasts_any (λ (e : Edit D). is_open_to viewer e.owner) (kept_views x) es none

pub reclaimed_any_open : {D : Type 0} (erases : D → Bool) (x : Transactions) (viewer : Viewer) (es : List (Edit D)) → IsStack x es → any_open viewer (reclaimed erases (kept_views x) es) ≡ any_open viewer es
reclaimed_any_open erases x viewer es stack = trimmed_any_open erases viewer (lasts (kept_views x) es) ∙ lasts_any_open x viewer es stack

-- The count

-- an edit that is the last of some view
pub record IsLastSeen {D : Type 0} (views : List Snapshot) (es : List (Edit D)) (e : Edit D) : Type 0 where
  pub view : Snapshot
  pub kept : Contains views view
  pub last : last_seen view es ≡ Some e

not_false : (b : Bool) → not b ≡ true → b ≡ false
not_false true is = absurd (false≢true is)
not_false false is = refl

last_in_front : {D : Type 0} (views : List Snapshot) (e f : Edit D) (es : List (Edit D)) → IsLastSeen views es f → IsLastSeen views (e ∷ es) f
last_in_front {D} views e f es is = by_any (list_any (has_seen is.view) es) refl
  where
    by_any : (b : Bool) → list_any (has_seen is.view) es ≡ b → IsLastSeen views (e ∷ es) f
    by_any true some = record { view = is.view; kept = is.kept; last = last_free (has_seen is.view) (if has_seen is.view e then Some e else None) None es some ∙ is.last }
    by_any false none = absurd (none-some f (sym (last_none (has_seen is.view) None es none) ∙ is.last))

pub lasts_last_seen : {D : Type 0} (views : List Snapshot) (es : List (Edit D)) → Each (IsLastSeen views es) (lasts views es)
lasts_last_seen views [] = tt
lasts_last_seen {D} views (e ∷ es) = by_last (is_last views e es) refl (each_more (IsLastSeen views es) (IsLastSeen views (e ∷ es)) (λ f is. last_in_front views e f es is) (lasts views es) (lasts_last_seen views es))
  where
    by_last : (b : Bool) → is_last views e es ≡ b → Each (IsLastSeen views (e ∷ es)) (lasts views es) → Each (IsLastSeen views (e ∷ es)) (if b then e ∷ lasts views es else lasts views es)
    by_last false last rest = rest
    by_last true last rest =
        let one : HasOne (λ v. has_seen v e && not (list_any (has_seen v) es)) views = any_has (λ v. has_seen v e && not (list_any (has_seen v) es)) views last in
        let tests : (has_seen one.one e ≡ true) × (not (list_any (has_seen one.one) es) ≡ true) = both (has_seen one.one e) (not (list_any (has_seen one.one) es)) one.passes in
        let sees : has_seen one.one e ≡ true = tests.0 in
        (record { view = one.one; kept = one.there; last = rw sees (last_none (has_seen one.one) (Some e) es (not_false (list_any (has_seen one.one) es) tests.1)) }, rest)

-- each put that is left is found in a kept view
pub reclaimed_puts : {D : Type 0} (erases : D → Bool) (views : List Snapshot) (es : List (Edit D)) → Each (FoundUnlessErasure erases views es) (reclaimed erases views es)
reclaimed_puts {D} erases views es = trimmed_each (FoundUnlessErasure erases views es) erases (lasts views es) (each_more (IsLastSeen views es) (FoundUnlessErasure erases views es) (λ e is puts. record { view = is.view; kept = is.kept; found_is = ap (put_of erases) is.last ∙ rw puts refl }) (lasts views es) (lasts_last_seen views es))

-- and each put that is found in a kept view is left
pub found_left : {D : Type 0} (erases : D → Bool) (views : List Snapshot) (es : List (Edit D)) (e : Edit D) → IsFound erases views es e → Among e (reclaimed erases views es)
found_left {D} erases views es e is = by_last (last_seen is.view (reclaimed erases views es)) refl (reclaimed_found erases views is.view is.kept es ∙ is.found_is)
  where
    by_put : (f : Edit D) (b : Bool) → erases f.deed ≡ b → last_seen is.view (reclaimed erases views es) ≡ Some f → (if b then None else Some f) ≡ Some e → Among e (reclaimed erases views es)
    by_put f true at last same = absurd (none-some e same)
    by_put f false at last same = subst (λ (g : Edit D). Among g (reclaimed erases views es)) (some_is f e same) (last_among (has_seen is.view) (reclaimed erases views es) f last).among

    by_last : (o : Option (Edit D)) → last_seen is.view (reclaimed erases views es) ≡ o → put_of erases o ≡ Some e → Among e (reclaimed erases views es)
    by_last None last same = absurd (none-some e same)
    by_last (Some f) last same = by_put f (erases f.deed) refl last same

-- No two that are left have one clock, where edits of one clock have one owner. So the puts that are left are as many as
-- the clocks of what kept views find
clocks_apart : {D : Type 0} (views : List Snapshot) (e : Edit D) (later : List (Edit D)) → is_last views e later ≡ true → Each (OneOwner e) later → Each (OtherClock e) later
clocks_apart {D} views e later last one = each_both (OneOwner e) (λ (f : Edit D). has_seen view.one f ≡ false) (OtherClock e) (λ f same unseen clock. apart f same unseen clock) later one (none_each (has_seen view.one) later (not_false (list_any (has_seen view.one) later) tests.1))
  where
    view : HasOne (λ v. has_seen v e && not (list_any (has_seen v) later)) views
    view = any_has (λ v. has_seen v e && not (list_any (has_seen v) later)) views last

    tests : (has_seen view.one e ≡ true) × (not (list_any (has_seen view.one) later) ≡ true)
    tests = both (has_seen view.one e) (not (list_any (has_seen view.one) later)) view.passes

    apart : (f : Edit D) → OneOwner e f → has_seen view.one f ≡ false → e.clock ≡ f.clock → ⊥
    apart f same unseen clock = false≢true (sym unseen ∙ (subst (λ (w : Owner). sees view.one.clock view.one.viewer f.clock w ≡ true) (same clock) (subst (λ (c : ℕ). sees view.one.clock view.one.viewer c e.owner ≡ true) clock tests.0)))

lasts_clocks : {D : Type 0} (views : List Snapshot) (es : List (Edit D)) → Pairwise OneOwner es → Pairwise OtherClock (lasts views es)
lasts_clocks views [] one = tt
lasts_clocks {D} views (e ∷ es) one = by_last (is_last views e es) refl (lasts_clocks views es one.1)
  where
    by_last : (b : Bool) → is_last views e es ≡ b → Pairwise OtherClock (lasts views es) → Pairwise OtherClock (if b then e ∷ lasts views es else lasts views es)
    by_last true last rest = (lasts_each (OtherClock e) views es (clocks_apart views e es last one.0), rest)
    by_last false last rest = rest

pub reclaimed_clocks : {D : Type 0} (erases : D → Bool) (views : List Snapshot) (es : List (Edit D)) → Pairwise OneOwner es → Pairwise OtherClock (reclaimed erases views es)
reclaimed_clocks erases views es one = trimmed_pairwise OtherClock erases (lasts views es) (lasts_clocks views es one)

-- what a reclamation leaves does not begin with a committed erasure
abbrev pub BeginsWell : {D : Type 0} → (erases : D → Bool) → List (Edit D) → Type 0
BeginsWell erases [] = Unit {0}
BeginsWell erases (e ∷ es) = (is_committed e.owner && erases e.deed) ≡ false

pub trimmed_begins : {D : Type 0} (erases : D → Bool) (es : List (Edit D)) → BeginsWell erases (trimmed erases es)
trimmed_begins erases [] = tt
trimmed_begins {D} erases (e ∷ es) = by_gone (is_committed e.owner && erases e.deed) refl (trimmed_begins erases es)
  where
    by_gone : (b : Bool) → (is_committed e.owner && erases e.deed) ≡ b → BeginsWell erases (trimmed erases es) → BeginsWell erases (if b then trimmed erases es else e ∷ es)
    by_gone true gone rest = rest
    by_gone false stays rest = stays
