-- The puts that a reclamation leaves of pages are the held page versions.
use Rattle.std.proofs.Common.{◌≡◌, ℕ, ◌+◌, ◌*◌, ◌/◌, ◌<◌, ◌≤◌, inl, inr, Bool, true, false, cond, List, [], ◌∷◌, length, Option, Some, None, refl, ap, sym, subst, ◌∙◌, arith}
use Rattle.std.specs.Prelude.{◌&&◌, ◌==◌, nat_lt, filter, if◌then◌else◌, is_some, option_map}
use Rattle.std.proofs.lemmas.Bool.{false≢true, cases_eq}
use Rattle.std.proofs.lemmas.Bool.Decides.{nat_tests}
use Rattle.lo_model.specs.declared.owner.Owner.{Owner}
use Rattle.lo_model.specs.Edit.{Deed, Create, Write, Cut, Unlink, Put, Delete, Edit}
use Rattle.lo_model.specs.Object.{object_in}
use Rattle.lo_model.specs.View.{view}
use Rattle.xact_core.specs.declared.snapshot.Snapshot.{Snapshot}
use Rattle.xact_core.specs.Kept.{kept_views}
use Rattle.xact_core.specs.Transactions.{Transactions}
use Rattle.row_versions.specs.Stack.{Each, Pairwise}
use Rattle.row_versions.specs.Looks.{IsLook}
use Rattle.row_versions.specs.Vacuum.{last_in, last_seen, put_of, found, reclaimed, OneOwner}
use Rattle.row_versions.specs.Stands.{standing, after_all, HasMark, IsLinked, vacuumed, Erases}
use Rattle.row_versions.proofs.Stacking.{each_more}
use Rattle.row_versions.specs.Count.{IsHeldClock, ListsHeld, clocks_left}
use Rattle.row_versions.proofs.Counting.{left_is_held}
use Rattle.row_versions.proofs.Laws.{value_of, after_found, standing_vacuumed}
use Rattle.lo_pages.specs.Object.{IsProper}
use Rattle.lo_pages.specs.Content.{Content, touches_page, at_page, is_written, written_page, after_page, after_head, Both, none_yet, page_if, after_both, after_there}
use Rattle.lo_pages.specs.Stores.{Stores, PagesStand, IsProperEdit, head_at, page_at}
use Rattle.lo_pages.specs.Held.{last_touching, makes_page, HasPageVersion, IsHeldPage, ListsHeldPages, clock_in, TellsClock}
use Rattle.lo_pages.proofs.Folds.{page_spared, span_written, after_at}
use Rattle.lo_pages.proofs.Reading.{each_view, page_found, head_found, object_reads, exists_is}
use Rattle.lo_pages.proofs.Making.{both_head, page_head_spares}

-- A page is not there without its object.

there_kept : (o b : ℕ) (old : Both) (es : List (Edit Deed)) → old.page ≡ page_if old.head old.page → (after_all (after_there o b) old es).page ≡ page_if (after_all (after_there o b) old es).head (after_all (after_there o b) old es).page
there_kept o b old [] is = is
there_kept o b old (e ∷ es) is = there_kept o b (after_there o b old e.clock e.deed) es (twice (after_head o old.head e.clock e.deed) (after_page o b old.page e.clock e.deed))
  where
    twice : (h : Bool) (p : Option Content) → page_if h p ≡ page_if h (page_if h p)
    twice true p = refl
    twice false p = refl

both_page : (o b : ℕ) (old : Both) (es : List (Edit Deed)) → (after_all (after_both o b) old es).page ≡ after_all (after_page o b) old.page es
both_page o b old [] = refl
both_page o b old (e ∷ es) = both_page o b (after_both o b old e.clock e.deed) es

module _ {P : Type 0} (value : ℕ → P → Option Content) (x : Transactions) (stores : Stores P) (ys : List (Edit Deed)) (stands : PagesStand value x stores ys) (v : Snapshot) (kept : IsLook x v) (o b : ℕ) where
  here_view : List (Edit Deed)
  here_view = view v.clock v.viewer (at_page o b ys)

  head_both : (after_all (after_both o b) none_yet (view v.clock v.viewer (at_page o b ys))).head ≡ head_at x v stores o
  head_both =
      both_head o b none_yet (view v.clock v.viewer (at_page o b ys))
      ∙ (after_at (after_head o) (touches_page o b) v.clock v.viewer false ys (page_head_spares o b ys)
      ∙ sym (head_found value x stores ys stands v kept o))

  page_both : (after_all (after_both o b) none_yet (view v.clock v.viewer (at_page o b ys))).page ≡ page_at value x v stores o b
  page_both = both_page o b none_yet (view v.clock v.viewer (at_page o b ys)) ∙ sym ((stands.pages o b).same.same v kept)

  pub page_absent : head_at x v stores o ≡ false → page_at value x v stores o b ≡ None
  page_absent none =
      let clean : after_all (after_both o b) none_yet (view v.clock v.viewer (at_page o b ys)) ≡ after_all (after_there o b) none_yet (view v.clock v.viewer (at_page o b ys)) = (stands.clean o b).same v kept in
      let there : (after_all (after_both o b) none_yet (view v.clock v.viewer (at_page o b ys))).page ≡ page_if (after_all (after_both o b) none_yet (view v.clock v.viewer (at_page o b ys))).head (after_all (after_both o b) none_yet (view v.clock v.viewer (at_page o b ys))).page = subst (λ (r : Both). r.page ≡ page_if r.head r.page) (sym clean) (there_kept o b none_yet (view v.clock v.viewer (at_page o b ys)) refl) in
      sym page_both ∙ (there ∙ ap (λ (h : Bool). page_if h (after_all (after_both o b) none_yet (view v.clock v.viewer (at_page o b ys))).page) (head_both ∙ none))

-- The clock of a page is that of the last edit that touches its page.

abbrev version_clock : (number : ℕ) → Option (Edit Deed) → Option ℕ
version_clock b None = None
version_clock b (Some e) = if makes_page b e.deed then Some e.clock else None

clock_step : (o b : ℕ) (old : Option Content) (c : ℕ) (d : Deed) → IsProper d → touches_page o b d ≡ true → clock_in (after_page o b old c d) ≡ (if makes_page b d then Some c else None)
clock_step o b old c (Create p) proper is = let at : (p == o) ≡ true = grind (arith, nat_tests, is) in rw at refl
clock_step o b old c (Write p at bytes) proper is = by_tests (p == o) (is_written b at (length bytes)) refl refl (sym (span_written o p b at (length bytes) proper) ∙ is)
  where
    by_tests : (t u : Bool) → (p == o) ≡ t → is_written b at (length bytes) ≡ u → (t && u) ≡ true → clock_in (if t then written_page b c at bytes old else old) ≡ Some c
    by_tests true true same within some = rw within refl
    by_tests true false same within some = absurd (false≢true some)
    by_tests false u same within some = absurd (false≢true some)
clock_step o b old c (Cut p n) proper is =
    let at : (p == o) ≡ true = grind (arith, nat_tests, is) in
    let low : n / 2048 ≤ b = grind (arith, nat_tests, is) in
    rw at (elim (cases_eq (n / 2048) b) [
      | inl here ↦
          let one : nat_lt n (2048 * b) ≡ false = (let more : 2048 * b ≤ n = omega (arith, here) in grind (arith, nat_tests, more)) in
          let two : nat_lt n (2048 * b + 2048) ≡ true = (let less : n < 2048 * b + 2048 = omega (arith, here) in grind (arith, nat_tests, less)) in
          let test : ((n / 2048) == b) ≡ true = grind (arith, nat_tests, here) in
          rw (one, two, test) refl
      | inr apart ↦
          let one : nat_lt n (2048 * b) ≡ true = (let less : n < 2048 * b = omega (arith, apart, low) in grind (arith, nat_tests, less)) in
          let test : ((n / 2048) == b) ≡ false = grind (arith, nat_tests, apart) in
          rw (one, test) refl
    ])
clock_step o b old c (Unlink p) proper is = let at : (p == o) ≡ true = grind (arith, nat_tests, is) in rw at refl
clock_step o b old c (Put table id values stored) proper is = absurd (false≢true is)
clock_step o b old c (Delete table id) proper is = absurd (false≢true is)

clock_folds : (o b : ℕ) (old : Option Content) (was : Option (Edit Deed)) (es : List (Edit Deed)) → Each IsProperEdit es → clock_in old ≡ version_clock b was → clock_in (after_all (after_page o b) old es) ≡ version_clock b (last_in (λ (e : Edit Deed). touches_page o b e.deed) was es)
clock_folds o b old was [] proper is = is
clock_folds o b old was (e ∷ es) proper is = by_touch (touches_page o b e.deed) refl (λ p w. clock_folds o b p w es proper.1)
  where
    by_touch : (t : Bool) → touches_page o b e.deed ≡ t → ((p : Option Content) (w : Option (Edit Deed)) → clock_in p ≡ version_clock b w → clock_in (after_all (after_page o b) p es) ≡ version_clock b (last_in (λ (f : Edit Deed). touches_page o b f.deed) w es)) → clock_in (after_all (after_page o b) (after_page o b old e.clock e.deed) es) ≡ version_clock b (last_in (λ (f : Edit Deed). touches_page o b f.deed) (if t then Some e else was) es)
    by_touch true at left = left (after_page o b old e.clock e.deed) (Some e) (clock_step o b old e.clock e.deed proper.0 at)
    by_touch false at left = left (after_page o b old e.clock e.deed) was (ap clock_in (page_spared o b old e.clock e.deed proper.0 at) ∙ is)

-- What is found of a key.

put_is_put : {D : Type 0} (erases : D → Bool) (o : Option (Edit D)) (e : Edit D) → put_of erases o ≡ Some e → erases e.deed ≡ false
put_is_put erases None e is = absurd (grind arith)
put_is_put {D} erases (Some f) e is = by_test (erases f.deed) refl is
  where
    some_edit : (a c : Edit D) → Some a ≡ Some c → a ≡ c
    some_edit a c same = grind arith

    by_test : (t : Bool) → erases f.deed ≡ t → (if t then None else Some f) ≡ Some e → erases e.deed ≡ false
    by_test true at same = absurd (grind arith)
    by_test false at same = ap (λ (g : Edit D). erases g.deed) (sym (some_edit f e same)) ∙ at

-- edits that are linked to edits of one owner a clock are so themselves

mark_owner : {E : Type 0} (c : ℕ) (w u : Owner) (ys : List (Edit E)) → Pairwise OneOwner ys → HasMark c w ys → HasMark c u ys → w ≡ u
mark_owner c w u [] one first second = absurd first
mark_owner c w u (f ∷ fs) one (inl a) (inl d) = sym a.1 ∙ d.1
mark_owner {E} c w u (f ∷ fs) one (inl a) (inr d) = sym a.1 ∙ with_mark fs u one.0 d
  where
    with_mark : (gs : List (Edit E)) (p : Owner) → Each (OneOwner f) gs → HasMark c p gs → f.owner ≡ p
    with_mark [] p each mark = absurd mark
    with_mark (g ∷ gs) p each (inl is) = each.0 (a.0 ∙ sym is.0) ∙ is.1
    with_mark (g ∷ gs) p each (inr later) = with_mark gs p each.1 later
mark_owner {E} c w u (f ∷ fs) one (inr a) (inl d) = sym (with_mark fs w one.0 a) ∙ d.1
  where
    with_mark : (gs : List (Edit E)) (p : Owner) → Each (OneOwner f) gs → HasMark c p gs → f.owner ≡ p
    with_mark [] p each mark = absurd mark
    with_mark (g ∷ gs) p each (inl is) = each.0 (d.0 ∙ sym is.0) ∙ is.1
    with_mark (g ∷ gs) p each (inr later) = with_mark gs p each.1 later
mark_owner c w u (f ∷ fs) one (inr a) (inr d) = mark_owner c w u fs one.1 a d

pub linked_owners : {D E : Type 0} (xs : List (Edit D)) (ys : List (Edit E)) → IsLinked xs ys → Pairwise OneOwner ys → Pairwise OneOwner xs
linked_owners [] ys link one = tt
linked_owners {D} {E} (e ∷ es) ys link one = (each_more (λ (f : Edit D). HasMark f.clock f.owner ys) (OneOwner e) (λ f mark same. mark_owner e.clock e.owner f.owner ys one link.0 (subst (λ (c : ℕ). HasMark c f.owner ys) (sym same) mark)) es link.1, linked_owners es ys link.1 one)

pub filter_pairwise : {X : Type 0} (R : X → X → Type 0) (test : X → Bool) (xs : List X) → Pairwise R xs → Pairwise R (filter test xs)
filter_pairwise R test [] h = tt
filter_pairwise {X} R test (x ∷ xs) h = by_test (test x) (each_in xs h.0) (filter_pairwise R test xs h.1)
  where
    each_in : (zs : List X) → Each (R x) zs → Each (R x) (filter test zs)
    each_in [] g = tt
    each_in (z ∷ zs) g = by_one (test z) (each_in zs g.1)
      where
        by_one : (t : Bool) → Each (R x) (filter test zs) → Each (R x) (cond t (z ∷ filter test zs) (filter test zs))
        by_one true rest = (g.0, rest)
        by_one false rest = rest

    by_test : (t : Bool) → Each (R x) (filter test xs) → Pairwise R (filter test xs) → Pairwise R (cond t (x ∷ filter test xs) (filter test xs))
    by_test true here rest = (here, rest)
    by_test false here rest = rest

module _ {P : Type 0} (value : ℕ → P → Option Content) (erases : P → Bool) (tells : TellsClock erases value) (x : Transactions) (stores : Stores P) (ys : List (Edit Deed)) (stands : PagesStand value x stores ys) (o b : ℕ) where
  abbrev key : List (Edit P)
  key = standing x (stores.pages o b)

  erases_gives : Erases erases value None
  erases_gives = record { gives = λ clock deed is. tells.none clock deed is }

  found_clock : (v : Snapshot) (f : Option (Edit P)) → found erases v key ≡ f → clock_in (value_of value None f) ≡ option_map (λ (e : Edit P). e.clock) f
  found_clock v None is = refl
  found_clock v (Some e) is = tells.some e.clock e.deed (put_is_put erases (last_seen v key) e is)

  pub page_clock : (v : Snapshot) → clock_in (page_at value x v stores o b) ≡ option_map (λ (e : Edit P). e.clock) (found erases v key)
  page_clock v = ap clock_in (after_found erases value None erases_gives v key) ∙ found_clock v (found erases v key) refl

  last_clock : (v : Snapshot) → IsLook x v → clock_in (page_at value x v stores o b) ≡ version_clock b (last_touching o b (view v.clock v.viewer ys))
  last_clock v kept = ap clock_in (page_found value x stores ys stands v kept o b) ∙ clock_folds o b None None (view v.clock v.viewer ys) (each_view IsProperEdit v.clock v.viewer ys stands.proper) refl

  -- a found put is a page version of its view
  pub held_to : (c : ℕ) → IsHeldClock erases (kept_views x) key c → IsHeldPage x ys o b c
  held_to c held = record { look = look; kept = held.here.kept; has = has (last_touching o b (view look.clock look.viewer ys)) refl }
    where
      look : Snapshot
      look = held.here.view

      clock_is : clock_in (page_at value x held.here.view stores o b) ≡ Some c
      clock_is = page_clock held.here.view ∙ (ap (option_map (λ (e : Edit P). e.clock)) held.here.found_is ∙ ap (λ (n : ℕ). Some n) held.is)

      there : head_at x held.here.view stores o ≡ true
      there = by_head (head_at x held.here.view stores o) refl
        where
          by_head : (h : Bool) → head_at x held.here.view stores o ≡ h → head_at x held.here.view stores o ≡ true
          by_head true is = is
          by_head false is = absurd (none_some c (sym (ap clock_in (page_absent value x stores ys stands held.here.view held.here.kept o b is)) ∙ clock_is))
            where
              none_some : (n : ℕ) → None ≡ Some n → ⊥
              none_some n same = grind arith

      object : is_some (object_in o (view held.here.view.clock held.here.view.viewer ys)) ≡ true
      object = sym (exists_is _ _ _ (object_reads value x stores ys stands held.here.view held.here.kept o)) ∙ there

      has : (last : Option (Edit Deed)) → last_touching o b (view held.here.view.clock held.here.view.viewer ys) ≡ last → HasPageVersion o b c (view held.here.view.clock held.here.view.viewer ys)
      has None is = absurd (none_some c (sym (ap (version_clock b) is) ∙ (sym (last_clock held.here.view held.here.kept) ∙ clock_is)))
        where
          none_some : (n : ℕ) → None ≡ Some n → ⊥
          none_some n same = grind arith
      has (Some e) is = by_makes (makes_page b e.deed) refl (sym (ap (version_clock b) is) ∙ (sym (last_clock held.here.view held.here.kept) ∙ clock_is))
        where
          some_is : (m n : ℕ) → Some m ≡ Some n → m ≡ n
          some_is m n same = grind arith

          none_some : (n : ℕ) → None ≡ Some n → ⊥
          none_some n same = grind arith

          by_makes : (t : Bool) → makes_page b e.deed ≡ t → (if t then Some e.clock else None) ≡ Some c → HasPageVersion o b c (view held.here.view.clock held.here.view.viewer ys)
          by_makes true makes clock = record { object = object; edit = e; last = is; clock = some_is e.clock c clock; makes = makes }
          by_makes false makes clock = absurd (none_some c clock)

  -- and a page version of a kept view is found there
  pub held_from : (c : ℕ) → IsHeldPage x ys o b c → IsHeldClock erases (kept_views x) key c
  held_from c held = by_found (found erases held.look key) refl
    where
      clock_is : clock_in (page_at value x held.look stores o b) ≡ Some c
      clock_is =
          last_clock held.look held.kept
          ∙ (ap (version_clock b) held.has.last
          ∙ (ap (λ (t : Bool). if t then Some held.has.edit.clock else None) held.has.makes
          ∙ ap (λ (n : ℕ). Some n) held.has.clock))

      some_is : (m n : ℕ) → Some m ≡ Some n → m ≡ n
      some_is m n same = grind arith

      none_some : (n : ℕ) → None ≡ Some n → ⊥
      none_some n same = grind arith

      by_found : (f : Option (Edit P)) → found erases held.look key ≡ f → IsHeldClock erases (kept_views x) key c
      by_found None is = absurd (none_some c (sym (page_clock held.look ∙ ap (option_map (λ (e : Edit P). e.clock)) is) ∙ clock_is))
      by_found (Some e) is = record {
        edit = e;
        here = record { view = held.look; kept = held.kept; found_is = is };
        is = some_is e.clock c (sym (page_clock held.look ∙ ap (option_map (λ (g : Edit P). g.clock)) is) ∙ clock_is);
      }

  -- Of each page the puts that a reclamation leaves have the clocks of its held versions, each once.
  pub left_is_held_pages : Pairwise OneOwner ys → ListsHeldPages x ys o b (clocks_left erases (standing x (vacuumed erases x (stores.pages o b))))
  left_is_held_pages one =
      let owners : Pairwise OneOwner key = linked_owners key (at_page o b ys) (stands.pages o b).linked (filter_pairwise OneOwner (λ (e : Edit Deed). touches_page o b e.deed) ys one) in
      let lists : ListsHeld erases (kept_views x) key (clocks_left erases (reclaimed erases (kept_views x) key)) = left_is_held erases (kept_views x) key owners in
      rw (standing_vacuumed erases x (stores.pages o b)) (record { once = lists.once; only = λ c here. held_to c (lists.only c here); each = λ c held. lists.each c (held_from c held) })
