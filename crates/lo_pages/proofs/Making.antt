-- The relation through one changing call.
use Rattle.std.proofs.Common.{◌≡◌, ◌≢◌, ℕ, zero, suc, ◌+◌, ◌/◌, ◌<◌, ◌≤◌, inl, inr, ◌⊎◌, Bool, true, false, cond, List, [], ◌∷◌, ◌++◌, length, Option, Some, None, refl, ap, sym, subst, ◌∙◌, arith, append-nil}
use Rattle.std.specs.Prelude.{◌||◌, ◌&&◌, ◌==◌, filter, if◌then◌else◌}
use Rattle.std.proofs.lemmas.Bool.{false≢true, cases_lt, cases_eq}
use Rattle.std.proofs.lemmas.Bool.Decides.{nat_tests}
use Rattle.std.proofs.lemmas.List.Elements.{filter-append}
use Rattle.std.proofs.lemmas.List.Folds.{list_any-append}
use Rattle.lo_model.specs.declared.owner.Owner.{Owner}
use Rattle.lo_model.specs.declared.owner.Owner.TheVariants.{Running, Committed}
use Rattle.lo_model.specs.declared.viewer.Viewer.{Viewer}
use Rattle.lo_model.specs.declared.viewer.Viewer.TheVariants.{Whole}
use Rattle.lo_model.specs.Edit.{Deed, Create, Write, Cut, Unlink, Put, Delete, Edit}
use Rattle.lo_model.specs.Touch.{Touched, Part, Page, covers, touched, meets, holder_of, other_session, lower_of, busy_with}
use Rattle.lo_model.specs.View.{sees, sees_edit, view}
use Rattle.lo_model.proofs.TouchLaws.{met}
use Rattle.xact_core.specs.declared.snapshot.Snapshot.{Snapshot}
use Rattle.xact_core.specs.Transactions.{Transactions, levels_of}
use Rattle.row_versions.specs.Stack.{Each, IsMade, IsFreeFor}
use Rattle.row_versions.specs.Looks.{IsLook}
use Rattle.row_versions.specs.Vacuum.{is_open_to, any_open}
use Rattle.row_versions.specs.Stands.{Version, standing, after_all, Stands, IsNew, made_now}
use Rattle.row_versions.proofs.Stacking.{each_more, each_end}
use Rattle.row_versions.proofs.Keeping.{whole_kept}
use Rattle.row_versions.proofs.Laws.{SeesAsOwn, new_seen_any, stands_pushed, stands_touched, standing_end}
use Rattle.lo_pages.specs.Content.{Content, touches_page, touches_object, cuts_at, at_page, at_object, at_cut, after_page, after_head, after_cut, Both, none_yet, after_both, after_there}
use Rattle.lo_pages.specs.Stores.{Stores, there, no_value, cut_open, open_at, OpenAlike, IsClean, IsProperEdit, PagesStand, head_at, page_at}
use Rattle.lo_pages.specs.Calls.{own, PutsOne, Leaves, Next, is_write, is_inside, Makes}
use Rattle.lo_pages.proofs.Folds.{Spares, after_at, head_spared, object_in_page, cut_in_page}
use Rattle.lo_pages.proofs.Reading.{head_found}

-- Who is not busy is free at each part that is touched.

free_owner : (s : ℕ) (w : Owner) → other_session s w ≡ None → IsFreeFor s w
free_owner s (Committed c) none = tt
free_owner s (Running t l) none = by_equal (cases_eq t s)
  where
    by_equal : (t ≡ s) ⊎ (t ≡ s → ⊥) → t ≡ s
    by_equal (inl is) = is
    by_equal (inr apart) = let test : (t == s) ≡ false = grind (arith, nat_tests, apart) in absurd (some_none t (sym (ap (λ (b : Bool). if b then None else Some t) test) ∙ none))
      where
        some_none : (n : ℕ) → Some n ≡ None → ⊥
        some_none n same = grind arith

lower_none : (o p : Option ℕ) → lower_of o p ≡ None → (o ≡ None) × (p ≡ None)
lower_none None p is = (refl, is)
lower_none (Some a) None is = absurd (grind arith)
lower_none (Some a) (Some b) is = absurd (grind arith)

pub free_at : (s : ℕ) (wanted : Touched) (part : Part) (ys : List (Edit Deed)) → covers wanted part ≡ true → busy_with s wanted ys ≡ None → Each (λ (e : Edit Deed). IsFreeFor s e.owner) (filter (λ (e : Edit Deed). covers (touched e.deed) part) ys)
free_at s wanted part [] here none = tt
free_at s wanted part (e ∷ es) here none = by_touch (covers (touched e.deed) part) refl (free_at s wanted part es here parts.1)
  where
    parts : (holder_of s wanted e ≡ None) × (busy_with s wanted es ≡ None)
    parts = lower_none (holder_of s wanted e) (busy_with s wanted es) none

    rest : List (Edit Deed)
    rest = filter (λ (f : Edit Deed). covers (touched f.deed) part) es

    by_touch : (b : Bool) → covers (touched e.deed) part ≡ b → Each (λ (f : Edit Deed). IsFreeFor s f.owner) rest → Each (λ (f : Edit Deed). IsFreeFor s f.owner) (cond b (e ∷ rest) rest)
    by_touch true is more = (free_owner s e.owner (sym (ap (λ (b : Bool). if b then other_session s e.owner else None) (met wanted (touched e.deed) part here is)) ∙ parts.0), more)
    by_touch false is more = more

-- fewer edits pass a narrower test
each_fewer : (Q : Edit Deed → Type 0) (f g : Deed → Bool) → ((d : Deed) → g d ≡ true → f d ≡ true) → (ys : List (Edit Deed)) → Each Q (filter (λ (e : Edit Deed). f e.deed) ys) → Each Q (filter (λ (e : Edit Deed). g e.deed) ys)
each_fewer Q f g more [] h = tt
each_fewer Q f g more (e ∷ es) h = by_tests (f e.deed) (g e.deed) (more e.deed) h (each_fewer Q f g more es)
  where
    fs : List (Edit Deed)
    fs = filter (λ (d : Edit Deed). f d.deed) es

    gs : List (Edit Deed)
    gs = filter (λ (d : Edit Deed). g d.deed) es

    by_tests : (a b : Bool) → (b ≡ true → a ≡ true) → Each Q (cond a (e ∷ fs) fs) → (Each Q fs → Each Q gs) → Each Q (cond b (e ∷ gs) gs)
    by_tests true true m both left = (both.0, left both.1)
    by_tests true false m both left = left both.1
    by_tests false true m both left = absurd (false≢true (m refl))
    by_tests false false m both left = left both

-- one edit more at a part

more_here : (f : Deed → Bool) (ys : List (Edit Deed)) (e : Edit Deed) → f e.deed ≡ true → filter (λ (d : Edit Deed). f d.deed) (ys ++ e ∷ []) ≡ filter (λ (d : Edit Deed). f d.deed) ys ++ e ∷ []
more_here f ys e is =
    let both : filter (λ (d : Edit Deed). f d.deed) (ys ++ e ∷ []) ≡ filter (λ (d : Edit Deed). f d.deed) ys ++ filter (λ (d : Edit Deed). f d.deed) (e ∷ []) = filter-append (λ (d : Edit Deed). f d.deed) ys (e ∷ []) in
    both ∙ rw is refl

more_else : (f : Deed → Bool) (ys : List (Edit Deed)) (e : Edit Deed) → f e.deed ≡ false → filter (λ (d : Edit Deed). f d.deed) (ys ++ e ∷ []) ≡ filter (λ (d : Edit Deed). f d.deed) ys
more_else f ys e is =
    let both : filter (λ (d : Edit Deed). f d.deed) (ys ++ e ∷ []) ≡ filter (λ (d : Edit Deed). f d.deed) ys ++ filter (λ (d : Edit Deed). f d.deed) (e ∷ []) = filter-append (λ (d : Edit Deed). f d.deed) ys (e ∷ []) in
    both ∙ rw is (append-nil (filter (λ (d : Edit Deed). f d.deed) ys))

-- views and one edit more, as in the laws of versions

view_same : {D : Type 0} (v u : Snapshot) (es : List (Edit D)) → Each (λ (e : Edit D). sees v.clock v.viewer e.clock e.owner ≡ sees u.clock u.viewer e.clock e.owner) es → view v.clock v.viewer es ≡ view u.clock u.viewer es
view_same v u [] alike = refl
view_same v u (e ∷ es) alike = let first : sees v.clock v.viewer e.clock e.owner ≡ sees u.clock u.viewer e.clock e.owner = alike.0 in rw (first, view_same v u es alike.1) refl

after_end : {D S : Type 0} (after : S → ℕ → D → S) (old : S) (es : List (Edit D)) (e : Edit D) → after_all after old (es ++ e ∷ []) ≡ after (after_all after old es) e.clock e.deed
after_end after old [] e = refl
after_end after old (f ∷ fs) e = after_end after (after old f.clock f.deed) fs e

after_unseen : {D S : Type 0} (after : S → ℕ → D → S) (first : S) (v : Snapshot) (es : List (Edit D)) (e : Edit D) → sees v.clock v.viewer e.clock e.owner ≡ false → after_all after first (view v.clock v.viewer (es ++ e ∷ [])) ≡ after_all after first (view v.clock v.viewer es)
after_unseen {D} after first v es e unseen =
    let front : view v.clock v.viewer (es ++ e ∷ []) ≡ view v.clock v.viewer es ++ view v.clock v.viewer (e ∷ []) = filter-append (sees_edit {D = D} v.clock v.viewer) es (e ∷ []) in
    let none : view v.clock v.viewer (e ∷ []) ≡ [] = rw unseen refl in
    ap (after_all after first) front ∙ rw none (ap (after_all after first) (append-nil (view v.clock v.viewer es)))

after_seen : {D S : Type 0} (after : S → ℕ → D → S) (first : S) (v : Snapshot) (es : List (Edit D)) (e : Edit D) → sees v.clock v.viewer e.clock e.owner ≡ true → after_all after first (view v.clock v.viewer (es ++ e ∷ [])) ≡ after (after_all after first (view v.clock v.viewer es)) e.clock e.deed
after_seen {D} after first v es e seen =
    let front : view v.clock v.viewer (es ++ e ∷ []) ≡ view v.clock v.viewer es ++ view v.clock v.viewer (e ∷ []) = filter-append (sees_edit {D = D} v.clock v.viewer) es (e ∷ []) in
    let one : view v.clock v.viewer (e ∷ []) ≡ e ∷ [] = rw seen refl in
    ap (after_all after first) front ∙ rw one (after_end after first (view v.clock v.viewer es) e)

-- Nothing is written where no object is.

pub both_head : (o b : ℕ) (old : Both) (es : List (Edit Deed)) → (after_all (after_both o b) old es).head ≡ after_all (after_head o) old.head es
both_head o b old [] = refl
both_head o b old (e ∷ es) = both_head o b (after_both o b old e.clock e.deed) es

there_step : (o b : ℕ) (old : Both) (c : ℕ) (d : Deed) → touches_page o b d ≡ true → (is_inside o d ≡ true → old.head ≡ true) → after_both o b old c d ≡ after_there o b old c d
there_step o b old c (Create p) here inside = let is : (p == o) ≡ true = grind (arith, nat_tests, here) in rw is refl
there_step o b old c (Write p at new) here inside = by_test (p == o) refl
  where
    by_test : (t : Bool) → (p == o) ≡ t → after_both o b old c (Write p at new) ≡ after_there o b old c (Write p at new)
    by_test true is = let head : old.head ≡ true = inside is in rw (is, head) refl
    by_test false is = absurd (far (length new) here)
      where
        far : (count : ℕ) → covers (Rattle.lo_model.specs.Touch.pages_of p at count) (Page o b) ≡ true → ⊥
        far zero touch = false≢true touch
        far (suc more) touch = false≢true (sym (rw is refl) ∙ touch)
there_step o b old c (Cut p n) here inside = let is : (p == o) ≡ true = grind (arith, nat_tests, here) in let head : old.head ≡ true = inside is in rw (is, head) refl
there_step o b old c (Unlink p) here inside = let is : (p == o) ≡ true = grind (arith, nat_tests, here) in rw is refl
there_step o b old c (Put table id values stored) here inside = absurd (false≢true here)
there_step o b old c (Delete table id) here inside = absurd (false≢true here)

pub page_head_spares : (o b : ℕ) (ys : List (Edit Deed)) → Each (Spares (after_head o) (touches_page o b)) ys
page_head_spares o b [] = tt
page_head_spares o b (e ∷ es) = (λ old missed. head_spared o old e.clock e.deed (missed_object missed), page_head_spares o b es)
  where
    missed_object : touches_page o b e.deed ≡ false → touches_object o e.deed ≡ false
    missed_object missed = by_test (touches_object o e.deed) refl
      where
        by_test : (t : Bool) → touches_object o e.deed ≡ t → touches_object o e.deed ≡ false
        by_test false is = is
        by_test true is = absurd (false≢true (sym missed ∙ object_in_page o b e.deed is))

-- For whom a key is open that has one version more.
one_open : {D : Type 0} (x : Transactions) (s : ℕ) (viewer : Viewer) (vs : List (Version D)) (put : Version D) → IsNew x s put → any_open viewer (standing x (vs ++ put ∷ [])) ≡ (any_open viewer (standing x vs) || is_open_to viewer (Running s (length (levels_of x s))))
one_open {D} x s viewer vs put new =
    ap (any_open viewer) (standing_end x put (Running s (length (levels_of x s))) new.owner vs)
    ∙ (list_any-append (λ (e : Edit D). is_open_to viewer e.owner) (standing x vs) _
    ∙ ap (λ (b : Bool). any_open viewer (standing x vs) || b) (or_false (is_open_to viewer (Running s (length (levels_of x s))))))
  where
    or_false : (b : Bool) → (b || false) ≡ b
    or_false true = refl
    or_false false = refl

-- what a key's versions are open for after a call: as before, or also for the maker
pub record Grows (m a a' : Bool) : Type 0 where
  pub put : Bool
  pub is : a' ≡ (a || (put && m))

same_grows : (m a a' : Bool) → a' ≡ a → Grows m a a'
same_grows m a a' is = record { put = false; is = is ∙ or_none a }
  where
    or_none : (b : Bool) → b ≡ (b || false)
    or_none true = refl
    or_none false = refl

or_three : (t u w a b c m : Bool) → (t || (u || w)) ≡ true → ((a || (t && m)) || ((b || (u && m)) || (c || (w && m)))) ≡ ((a || (b || c)) || m)
or_three true true true true true true true some = refl
or_three true true true true true true false some = refl
or_three true true true true true false true some = refl
or_three true true true true true false false some = refl
or_three true true true true false true true some = refl
or_three true true true true false true false some = refl
or_three true true true true false false true some = refl
or_three true true true true false false false some = refl
or_three true true true false true true true some = refl
or_three true true true false true true false some = refl
or_three true true true false true false true some = refl
or_three true true true false true false false some = refl
or_three true true true false false true true some = refl
or_three true true true false false true false some = refl
or_three true true true false false false true some = refl
or_three true true true false false false false some = refl
or_three true true false true true true true some = refl
or_three true true false true true true false some = refl
or_three true true false true true false true some = refl
or_three true true false true true false false some = refl
or_three true true false true false true true some = refl
or_three true true false true false true false some = refl
or_three true true false true false false true some = refl
or_three true true false true false false false some = refl
or_three true true false false true true true some = refl
or_three true true false false true true false some = refl
or_three true true false false true false true some = refl
or_three true true false false true false false some = refl
or_three true true false false false true true some = refl
or_three true true false false false true false some = refl
or_three true true false false false false true some = refl
or_three true true false false false false false some = refl
or_three true false true true true true true some = refl
or_three true false true true true true false some = refl
or_three true false true true true false true some = refl
or_three true false true true true false false some = refl
or_three true false true true false true true some = refl
or_three true false true true false true false some = refl
or_three true false true true false false true some = refl
or_three true false true true false false false some = refl
or_three true false true false true true true some = refl
or_three true false true false true true false some = refl
or_three true false true false true false true some = refl
or_three true false true false true false false some = refl
or_three true false true false false true true some = refl
or_three true false true false false true false some = refl
or_three true false true false false false true some = refl
or_three true false true false false false false some = refl
or_three true false false true true true true some = refl
or_three true false false true true true false some = refl
or_three true false false true true false true some = refl
or_three true false false true true false false some = refl
or_three true false false true false true true some = refl
or_three true false false true false true false some = refl
or_three true false false true false false true some = refl
or_three true false false true false false false some = refl
or_three true false false false true true true some = refl
or_three true false false false true true false some = refl
or_three true false false false true false true some = refl
or_three true false false false true false false some = refl
or_three true false false false false true true some = refl
or_three true false false false false true false some = refl
or_three true false false false false false true some = refl
or_three true false false false false false false some = refl
or_three false true true true true true true some = refl
or_three false true true true true true false some = refl
or_three false true true true true false true some = refl
or_three false true true true true false false some = refl
or_three false true true true false true true some = refl
or_three false true true true false true false some = refl
or_three false true true true false false true some = refl
or_three false true true true false false false some = refl
or_three false true true false true true true some = refl
or_three false true true false true true false some = refl
or_three false true true false true false true some = refl
or_three false true true false true false false some = refl
or_three false true true false false true true some = refl
or_three false true true false false true false some = refl
or_three false true true false false false true some = refl
or_three false true true false false false false some = refl
or_three false true false true true true true some = refl
or_three false true false true true true false some = refl
or_three false true false true true false true some = refl
or_three false true false true true false false some = refl
or_three false true false true false true true some = refl
or_three false true false true false true false some = refl
or_three false true false true false false true some = refl
or_three false true false true false false false some = refl
or_three false true false false true true true some = refl
or_three false true false false true true false some = refl
or_three false true false false true false true some = refl
or_three false true false false true false false some = refl
or_three false true false false false true true some = refl
or_three false true false false false true false some = refl
or_three false true false false false false true some = refl
or_three false true false false false false false some = refl
or_three false false true true true true true some = refl
or_three false false true true true true false some = refl
or_three false false true true true false true some = refl
or_three false false true true true false false some = refl
or_three false false true true false true true some = refl
or_three false false true true false true false some = refl
or_three false false true true false false true some = refl
or_three false false true true false false false some = refl
or_three false false true false true true true some = refl
or_three false false true false true true false some = refl
or_three false false true false true false true some = refl
or_three false false true false true false false some = refl
or_three false false true false false true true some = refl
or_three false false true false false true false some = refl
or_three false false true false false false true some = refl
or_three false false true false false false false some = refl
or_three false false false a b c m some = absurd (false≢true some)

grows_step : (m a a' : Bool) (t : Bool) → a' ≡ (a || m) → Grows m a a'
grows_step m a a' t is = record { put = true; is = is }

three_grow : (m a a' b b' c c' : Bool) (g : Grows m a a') (h : Grows m b b') (k : Grows m c c') → (g.put || (h.put || k.put)) ≡ true → (a' || (b' || c')) ≡ ((a || (b || c)) || m)
three_grow m a a' b b' c c' g h k some = rw (g.is, h.is, k.is) (or_three g.put h.put k.put a b c m some)

or_second : (a b : Bool) → (a || (true || b)) ≡ true
or_second true b = refl
or_second false b = refl

or_third : (a b : Bool) → (a || (b || true)) ≡ true
or_third true b = refl
or_third false true = refl
or_third false false = refl

add_last : (a b m : Bool) → ((a || m) || b) ≡ ((a || b) || m)
add_last true b m = refl
add_last false true true = refl
add_last false true false = refl
add_last false false true = refl
add_last false false false = refl

or_assoc : (a b m : Bool) → (a || (b || m)) ≡ ((a || b) || m)
or_assoc true b m = refl
or_assoc false b m = refl

module _ {P : Type 0} (value : ℕ → P → Option Content) (x : Transactions) (s : ℕ) (deed : Deed) (old new : Stores P) (ys : List (Edit Deed)) (makes : Makes value x s deed old new) (stands : PagesStand value x old ys) (free : busy_with s (touched deed) ys ≡ None) where
  abbrev made : Edit Deed
  made = made_now x s deed

  own_kept : IsLook x (own x s)
  own_kept = whole_kept x s makes.number makes.some

  free_block : (o b : ℕ) → touches_page o b deed ≡ true → Each (λ (e : Edit Deed). IsFreeFor s e.owner) (at_page o b ys)
  free_block o b here = free_at s (touched deed) (Page o b) ys here free

  free_object : (o : ℕ) → touches_object o deed ≡ true → Each (λ (e : Edit Deed). IsFreeFor s e.owner) (at_object o ys)
  free_object o here = each_fewer (λ (e : Edit Deed). IsFreeFor s e.owner) (touches_page o 0) (touches_object o) (λ d is. object_in_page o 0 d is) ys (free_block o 0 (object_in_page o 0 deed here))

  free_cut : (o b : ℕ) → cuts_at o b deed ≡ true → Each (λ (e : Edit Deed). IsFreeFor s e.owner) (at_cut o b ys)
  free_cut o b here = each_fewer (λ (e : Edit Deed). IsFreeFor s e.owner) (touches_page o b) (cuts_at o b) (λ d is. cut_in_page o b b d (omega arith) is) ys (free_block o b (cut_in_page o b b deed (omega arith) here))

  -- each store

  objects_made : (o : ℕ) → Stands x there (after_head o) false (new.objects o) (at_object o (ys ++ made ∷ []))
  objects_made o = by_test (touches_object o deed) refl
    where
      by_test : (t : Bool) → touches_object o deed ≡ t → Stands x there (after_head o) false (new.objects o) (at_object o (ys ++ made ∷ []))
      by_test true here =
          let puts : PutsOne x s there (after_head o (head_at x (own x s) old o) x.clock deed) (old.objects o) (new.objects o) = makes.objects o here in
          let gives : there x.clock puts.put.deed ≡ after_head o (after_all (after_head o) false (view (x.clock + 1) (Whole s) (at_object o ys))) x.clock deed = puts.gives ∙ ap (λ (was : Bool). after_head o was x.clock deed) ((stands.objects o).same.same (own x s) own_kept) in
          rw (puts.is, more_here (touches_object o) ys made here)
          (stands_pushed there (after_head o) false x s (old.objects o) (at_object o ys) puts.put deed makes.number makes.some makes.whole puts.is_new (free_object o here) gives (stands.objects o))
      by_test false else_ = rw (makes.other_objects o else_, more_else (touches_object o) ys made else_) (stands.objects o)

  cuts_made : (o b : ℕ) → Stands x no_value after_cut tt (new.cuts o b) (at_cut o b (ys ++ made ∷ []))
  cuts_made o b = by_test (cuts_at o b deed) refl
    where
      by_test : (t : Bool) → cuts_at o b deed ≡ t → Stands x no_value after_cut tt (new.cuts o b) (at_cut o b (ys ++ made ∷ []))
      by_test true here =
          let puts : PutsOne x s no_value tt (old.cuts o b) (new.cuts o b) = makes.cuts o b here in
          rw (puts.is, more_here (cuts_at o b) ys made here)
          (stands_pushed no_value after_cut tt x s (old.cuts o b) (at_cut o b ys) puts.put deed makes.number makes.some makes.whole puts.is_new (free_cut o b here) refl (stands.cuts o b))
      by_test false else_ = rw (makes.other_cuts o b else_, more_else (cuts_at o b) ys made else_) (stands.cuts o b)

  abbrev found : ℕ → ℕ → Option Content
  found o b = page_at value x (own x s) old o b

  abbrev wanted : ℕ → ℕ → Option Content
  wanted o b = after_page o b (page_at value x (own x s) old o b) x.clock deed

  pages_made_at : (o b : ℕ) → Stands x value (after_page o b) None (new.pages o b) (at_page o b (ys ++ made ∷ []))
  pages_made_at o b = by_test (touches_page o b deed) refl
    where
      was : found o b ≡ after_all (after_page o b) None (view (x.clock + 1) (Whole s) (at_page o b ys))
      was = (stands.pages o b).same.same (own x s) own_kept

      by_put : touches_page o b deed ≡ true → PutsOne x s value (wanted o b) (old.pages o b) (new.pages o b) → Stands x value (after_page o b) None (new.pages o b) (at_page o b (ys ++ made ∷ []))
      by_put here puts =
          let gives : value x.clock puts.put.deed ≡ after_page o b (after_all (after_page o b) None (view (x.clock + 1) (Whole s) (at_page o b ys))) x.clock deed = puts.gives ∙ ap (λ (p : Option Content). after_page o b p x.clock deed) was in
          rw (puts.is, more_here (touches_page o b) ys made here)
          (stands_pushed value (after_page o b) None x s (old.pages o b) (at_page o b ys) puts.put deed makes.number makes.some makes.whole puts.is_new (free_block o b here) gives (stands.pages o b))

      by_leave : touches_page o b deed ≡ true → Leaves (found o b) (wanted o b) (old.pages o b) (new.pages o b) → Stands x value (after_page o b) None (new.pages o b) (at_page o b (ys ++ made ∷ []))
      by_leave here leaves =
          let stays : after_all (after_page o b) None (view (x.clock + 1) (Whole s) (at_page o b ys)) ≡ after_page o b (after_all (after_page o b) None (view (x.clock + 1) (Whole s) (at_page o b ys))) x.clock deed = sym was ∙ (leaves.stays ∙ ap (λ (p : Option Content). after_page o b p x.clock deed) was) in
          rw (leaves.is, more_here (touches_page o b) ys made here)
          (stands_touched value (after_page o b) None x s (old.pages o b) (at_page o b ys) deed makes.number makes.some makes.whole (free_block o b here) stays (stands.pages o b))

      by_next : (must : Bool) → touches_page o b deed ≡ true → Next must x s value (found o b) (wanted o b) (old.pages o b) (new.pages o b) → Stands x value (after_page o b) None (new.pages o b) (at_page o b (ys ++ made ∷ []))
      by_next true here next = by_put here next
      by_next false here (inl puts) = by_put here puts
      by_next false here (inr leaves) = by_leave here leaves

      by_test : (t : Bool) → touches_page o b deed ≡ t → Stands x value (after_page o b) None (new.pages o b) (at_page o b (ys ++ made ∷ []))
      by_test true here = by_next (is_write deed) here (makes.pages o b here)
      by_test false else_ = rw (makes.other_pages o b else_, more_else (touches_page o b) ys made else_) (stands.pages o b)

  -- nothing is written where no object is

  clean_made : (o b : ℕ) → IsClean x o b (at_page o b (ys ++ made ∷ []))
  clean_made o b = by_test (touches_page o b deed) refl
    where
      here_edits : List (Edit Deed)
      here_edits = at_page o b ys

      head_own : (after_all (after_both o b) none_yet (view (x.clock + 1) (Whole s) (at_page o b ys))).head ≡ head_at x (own x s) old o
      head_own =
          both_head o b none_yet (view (x.clock + 1) (Whole s) (at_page o b ys))
          ∙ (after_at (after_head o) (touches_page o b) (x.clock + 1) (Whole s) false ys (page_head_spares o b ys)
          ∙ sym (head_found value x old ys stands (own x s) own_kept o))

      by_seen : touches_page o b deed ≡ true → (v : Snapshot) → IsLook x v → (sees v.clock v.viewer x.clock (Running s (length (levels_of x s))) ≡ false) ⊎ SeesAsOwn x s v → after_all (after_both o b) none_yet (view v.clock v.viewer (at_page o b ys ++ made ∷ [])) ≡ after_all (after_there o b) none_yet (view v.clock v.viewer (at_page o b ys ++ made ∷ []))
      by_seen here v kept (inl unseen) = after_unseen (after_both o b) none_yet v (at_page o b ys) made unseen ∙ ((stands.clean o b).same v kept ∙ sym (after_unseen (after_there o b) none_yet v (at_page o b ys) made unseen))
      by_seen here v kept (inr as_own) =
          let alike : view v.clock v.viewer (at_page o b ys) ≡ view (x.clock + 1) (Whole s) (at_page o b ys) = view_same v (own x s) (at_page o b ys) (each_more (IsMade {D = Deed} x) (λ (e : Edit Deed). sees v.clock v.viewer e.clock e.owner ≡ sees (x.clock + 1) (Whole s) e.clock e.owner) (λ e is. as_own.as_own e.clock e.owner is.past is.owner) (at_page o b ys) (stands.pages o b).edits.made) in
          let head : (after_all (after_both o b) none_yet (view v.clock v.viewer (at_page o b ys))).head ≡ head_at x (own x s) old o = ap (λ (es : List (Edit Deed)). (after_all (after_both o b) none_yet es).head) alike ∙ head_own in
          after_seen (after_both o b) none_yet v (at_page o b ys) made as_own.new
          ∙ (there_step o b (after_all (after_both o b) none_yet (view v.clock v.viewer (at_page o b ys))) x.clock deed here (λ inside. head ∙ makes.inside o inside)
          ∙ (ap (λ (b' : Both). after_there o b b' x.clock deed) ((stands.clean o b).same v kept)
          ∙ sym (after_seen (after_there o b) none_yet v (at_page o b ys) made as_own.new)))

      by_test : (t : Bool) → touches_page o b deed ≡ t → IsClean x o b (at_page o b (ys ++ made ∷ []))
      by_test true here = rw (more_here (touches_page o b) ys made here) (record { same = λ v kept. by_seen here v kept (new_seen_any x s v) })
      by_test false else_ = rw (more_else (touches_page o b) ys made else_) (stands.clean o b)

  -- for whom a page is open

  abbrev mine : Viewer → Bool
  mine viewer = is_open_to viewer (Running s (length (levels_of x s)))

  put_grows : {D S : Type 0} (viewer : Viewer) (val : ℕ → D → S) (want : S) (vs us : List (Version D)) → PutsOne x s val want vs us → any_open viewer (standing x us) ≡ (any_open viewer (standing x vs) || mine viewer)
  put_grows {D} viewer val want vs us puts = ap (λ (ws : List (Version D)). any_open viewer (standing x ws)) puts.is ∙ one_open x s viewer vs puts.put puts.is_new

  next_grows : (viewer : Viewer) (must : Bool) (f w : Option Content) (vs us : List (Version P)) → Next must x s value f w vs us → Grows (mine viewer) (any_open viewer (standing x vs)) (any_open viewer (standing x us))
  next_grows viewer true f w vs us next = record { put = true; is = put_grows viewer value w vs us next }
  next_grows viewer false f w vs us (inl puts) = record { put = true; is = put_grows viewer value w vs us puts }
  next_grows viewer false f w vs us (inr leaves) = same_grows (mine viewer) _ _ (ap (λ (ws : List (Version P)). any_open viewer (standing x ws)) leaves.is)

  cuts_still : (viewer : Viewer) (o n : ℕ) → ((b : ℕ) → b < n → cuts_at o b deed ≡ false) → cut_open viewer x new o n ≡ cut_open viewer x old o n
  cuts_still viewer o zero none = refl
  cuts_still viewer o (suc n) none = rw (cuts_still viewer o n (λ b less. none b (omega (arith, less))), makes.other_cuts o n (none n (omega arith))) refl

  cuts_grow : (viewer : Viewer) (o n k : ℕ) → k < n → cuts_at o k deed ≡ true → ((b : ℕ) → b ≢ k → cuts_at o b deed ≡ false) → cut_open viewer x new o n ≡ (cut_open viewer x old o n || mine viewer)
  cuts_grow viewer o zero k less here others = absurd (omega (arith, less))
  cuts_grow viewer o (suc n) k less here others = by_place (cases_lt k n) (λ lower. cuts_grow viewer o n k lower here others)
    where
      by_place : (k < n) ⊎ (n ≤ k) → (k < n → cut_open viewer x new o n ≡ (cut_open viewer x old o n || mine viewer)) → cut_open viewer x new o (suc n) ≡ (cut_open viewer x old o (suc n) || mine viewer)
      by_place (inl lower) before = rw (before lower, makes.other_cuts o n (others n (λ is. omega (arith, is, lower)))) (add_last (cut_open viewer x old o n) (any_open viewer (standing x (old.cuts o n))) (mine viewer))
      by_place (inr least) before =
          let is : n ≡ k = omega (arith, least, less) in
          let last : any_open viewer (standing x (new.cuts o n)) ≡ (any_open viewer (standing x (old.cuts o n)) || mine viewer) = put_grows viewer no_value tt (old.cuts o n) (new.cuts o n) (makes.cuts o n (subst (λ (b : ℕ). cuts_at o b deed ≡ true) (sym is) here)) in
          rw (cuts_still viewer o n (λ b lower. others b (λ same. omega (arith, same, is, lower))), last) (or_assoc (cut_open viewer x old o n) (any_open viewer (standing x (old.cuts o n))) (mine viewer))

  -- where a deed cuts an object
  one_cut : (o b k : ℕ) → cuts_at o k deed ≡ true → b ≢ k → cuts_at o b deed ≡ false
  one_cut o b k here apart = by_deed deed here
    where
      by_deed : (d : Deed) → cuts_at o k d ≡ true → cuts_at o b d ≡ false
      by_deed (Create p) is = refl
      by_deed (Write p at bytes) is = refl
      by_deed (Cut p n) is = grind (arith, nat_tests, is, apart)
      by_deed (Unlink p) is = refl
      by_deed (Put table id values stored) is = refl
      by_deed (Delete table id) is = refl

  objects_still : (viewer : Viewer) (o : ℕ) → touches_object o deed ≡ false → any_open viewer (standing x (new.objects o)) ≡ any_open viewer (standing x (old.objects o))
  objects_still viewer o else_ = ap (λ (ws : List (Version (Option (List ℕ)))). any_open viewer (standing x ws)) (makes.other_objects o else_)

  untouched_object : (o b : ℕ) → touches_page o b deed ≡ false → touches_object o deed ≡ false
  untouched_object o b missed = by_test (touches_object o deed) refl
    where
      by_test : (t : Bool) → touches_object o deed ≡ t → touches_object o deed ≡ false
      by_test false is = is
      by_test true is = absurd (false≢true (sym missed ∙ object_in_page o b deed is))

  untouched_cut : (o b c : ℕ) → c < suc b → touches_page o b deed ≡ false → cuts_at o c deed ≡ false
  untouched_cut o b c less missed = by_test (cuts_at o c deed) refl
    where
      by_test : (t : Bool) → cuts_at o c deed ≡ t → cuts_at o c deed ≡ false
      by_test false is = is
      by_test true is = absurd (false≢true (sym missed ∙ cut_in_page o c b deed (omega (arith, less)) is))

  -- the key that tells of a deed
  pub data Teller (o b : ℕ) : Type 0 where
    ByObject : touches_object o deed ≡ true → Teller o b
    ByPage : is_write deed ≡ true → Teller o b
    ByCut : (k : ℕ) → k < suc b → cuts_at o k deed ≡ true → Teller o b

  teller : (o b : ℕ) → touches_page o b deed ≡ true → Teller o b
  teller o b here = told deed here (λ is. ByObject is) (λ is. ByPage is) (λ k less is. ByCut k less is)
    where
      told : (d : Deed) → touches_page o b d ≡ true → (touches_object o d ≡ true → Teller o b) → (is_write d ≡ true → Teller o b) → ((k : ℕ) → k < suc b → cuts_at o k d ≡ true → Teller o b) → Teller o b
      told (Create p) is object page cut = object (grind (arith, nat_tests, is))
      told (Write p at bytes) is object page cut = page refl
      told (Cut p n) is object page cut =
          let low : n / 2048 ≤ b = grind (arith, nat_tests, is) in
          cut (n / 2048) (omega (arith, low)) (grind (arith, nat_tests, is))
      told (Unlink p) is object page cut = object (grind (arith, nat_tests, is))
      told (Put table id values stored) is object page cut = absurd (false≢true is)
      told (Delete table id) is object page cut = absurd (false≢true is)

  open_made : (o b : ℕ) → touches_page o b deed ≡ true → (viewer : Viewer) → open_at viewer x new o b ≡ (open_at viewer x old o b || mine viewer)
  open_made o b here viewer = by_teller (teller o b here)
    where
      obj : Grows (mine viewer) (any_open viewer (standing x (old.objects o))) (any_open viewer (standing x (new.objects o)))
      obj = by_test (touches_object o deed) refl
        where
          by_test : (t : Bool) → touches_object o deed ≡ t → Grows (mine viewer) (any_open viewer (standing x (old.objects o))) (any_open viewer (standing x (new.objects o)))
          by_test true is = record { put = true; is = put_grows viewer there _ (old.objects o) (new.objects o) (makes.objects o is) }
          by_test false is = same_grows (mine viewer) _ _ (objects_still viewer o is)

      page : Grows (mine viewer) (any_open viewer (standing x (old.pages o b))) (any_open viewer (standing x (new.pages o b)))
      page = next_grows viewer (is_write deed) (found o b) (wanted o b) (old.pages o b) (new.pages o b) (makes.pages o b here)

      cut : Grows (mine viewer) (cut_open viewer x old o (suc b)) (cut_open viewer x new o (suc b))
      cut = by_deed deed refl
        where
          still : ((c : ℕ) → c < suc b → cuts_at o c deed ≡ false) → Grows (mine viewer) (cut_open viewer x old o (suc b)) (cut_open viewer x new o (suc b))
          still none = same_grows (mine viewer) _ _ (cuts_still viewer o (suc b) none)

          at_cut_ : (k : ℕ) → (k < suc b) ⊎ (suc b ≤ k) → cuts_at o k deed ≡ true → Grows (mine viewer) (cut_open viewer x old o (suc b)) (cut_open viewer x new o (suc b))
          at_cut_ k (inl less) is = record { put = true; is = cuts_grow viewer o (suc b) k less is (λ c apart. one_cut o c k is apart) }
          at_cut_ k (inr more) is = still (λ c less. one_cut o c k is (λ same. omega (arith, same, less, more)))

          by_deed : (d : Deed) → deed ≡ d → Grows (mine viewer) (cut_open viewer x old o (suc b)) (cut_open viewer x new o (suc b))
          by_deed (Create p) is = still (λ c less. ap (cuts_at o c) is)
          by_deed (Write p at bytes) is = still (λ c less. ap (cuts_at o c) is)
          by_deed (Cut p n) is = at_cut_ (n / 2048) (cases_lt (n / 2048) (suc b)) (ap (cuts_at o (n / 2048)) is ∙ cut_is)
            where
              touch : touches_page o b (Cut p n) ≡ true
              touch = sym (ap (touches_page o b) is) ∙ here

              cut_is : cuts_at o (n / 2048) (Cut p n) ≡ true
              cut_is = grind (arith, nat_tests, touch)
          by_deed (Unlink p) is = still (λ c less. ap (cuts_at o c) is)
          by_deed (Put table id values stored) is = still (λ c less. ap (cuts_at o c) is)
          by_deed (Delete table id) is = still (λ c less. ap (cuts_at o c) is)

      by_teller : Teller o b → open_at viewer x new o b ≡ (open_at viewer x old o b || mine viewer)
      by_teller (ByObject is) = three_grow (mine viewer) _ _ _ _ _ _ (record { put = true; is = put_grows viewer there _ (old.objects o) (new.objects o) (makes.objects o is) }) page cut refl
      by_teller (ByPage is) = three_grow (mine viewer) _ _ _ _ _ _ obj (record { put = true; is = put_grows viewer value (wanted o b) (old.pages o b) (new.pages o b) (subst (λ (must : Bool). Next must x s value (found o b) (wanted o b) (old.pages o b) (new.pages o b)) is (makes.pages o b here)) }) cut (or_second obj.put cut.put)
      by_teller (ByCut k less is) = three_grow (mine viewer) _ _ _ _ _ _ obj page (record { put = true; is = cuts_grow viewer o (suc b) k less is (λ c apart. one_cut o c k is apart) }) (or_third obj.put page.put)

  busy_made : (o b : ℕ) → OpenAlike x new o b (ys ++ made ∷ [])
  busy_made o b = record { alike = λ viewer. by_test viewer (touches_page o b deed) refl }
    where
      or_false : (a : Bool) → (a || false) ≡ a
      or_false true = refl
      or_false false = refl

      by_test : (viewer : Viewer) (t : Bool) → touches_page o b deed ≡ t → open_at viewer x new o b ≡ any_open viewer (at_page o b (ys ++ made ∷ []))
      by_test viewer true here =
          open_made o b here viewer
          ∙ (ap (λ (a : Bool). a || mine viewer) ((stands.busy o b).alike viewer)
          ∙ sym (ap (any_open viewer) (more_here (touches_page o b) ys made here)
          ∙ (list_any-append (λ (e : Edit Deed). is_open_to viewer e.owner) (at_page o b ys) (made ∷ [])
          ∙ ap (λ (a : Bool). any_open viewer (at_page o b ys) || a) (or_false (mine viewer)))))
      by_test viewer false missed =
          rw (objects_still viewer o (untouched_object o b missed), makes.other_pages o b missed, cuts_still viewer o (suc b) (λ c less. untouched_cut o b c less missed))
          ((stands.busy o b).alike viewer ∙ sym (ap (any_open viewer) (more_else (touches_page o b) ys made missed)))

  -- A changing call that was not busy adds its one edit.
  pub pages_made : PagesStand value x new (ys ++ made_now x s deed ∷ [])
  pages_made = record {
    proper = each_end IsProperEdit ys made stands.proper makes.proper;
    objects = objects_made;
    pages = pages_made_at;
    cuts = cuts_made;
    busy = busy_made;
    clean = clean_made;
  }
