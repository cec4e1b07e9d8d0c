-- The beginning, want of memory, blocks of a pool, and the count over all pages.
use Rattle.std.proofs.Common.{◌≡◌, ℕ, zero, suc, inl, inr, Bool, false, List, [], ◌∷◌, ◌++◌, length, Option, Some, None, refl, ap, sym, subst, ◌∙◌, arith}
use Rattle.std.specs.Prelude.{option_map}
use Rattle.lo_model.specs.declared.viewer.Viewer.{Viewer}
use Rattle.lo_model.specs.Edit.{Deed, Edit}
use Rattle.xact_core.specs.declared.snapshot.Snapshot.{Snapshot}
use Rattle.xact_core.specs.Ends.{Turns, undo}
use Rattle.xact_core.specs.Kept.{kept_views}
use Rattle.xact_core.specs.Stamp.{IsIssued}
use Rattle.xact_core.specs.Transactions.{Transactions, levels_of}
use Rattle.row_versions.specs.Stack.{Each, Pairwise}
use Rattle.row_versions.specs.Looks.{IsLook}
use Rattle.row_versions.specs.Vacuum.{OneOwner, OtherClock, found, reclaimed}
use Rattle.row_versions.specs.Stands.{Version, standing, Stands, Fits, IsNew, AddsOwn}
use Rattle.row_versions.proofs.Stacking.{each_more}
use Rattle.row_versions.specs.Count.{Different}
use Rattle.row_versions.specs.Count.{Mark, blocks_in}
use Rattle.row_versions.proofs.Blocks.{blocks_are_held}
use Rattle.row_versions.proofs.Covering.{Among}
use Rattle.row_versions.proofs.Vacuuming.{found_left, reclaimed_clocks}
use Rattle.row_versions.proofs.Laws.{value_of, after_found, restored, stands_restored, stands_revalued}
use Rattle.lo_pages.specs.Content.{Content, touches_page, at_page, at_object, at_cut, after_page, after_head, after_cut}
use Rattle.lo_pages.specs.Stores.{Stores, there, no_value, cut_open, PagesStand, page_at}
use Rattle.lo_pages.specs.Held.{TellsClock, clock_in}
use Rattle.lo_pages.specs.Rest.{no_stores, AddsOwnAll, ListsPages}
use Rattle.lo_pages.proofs.Counting.{linked_owners, filter_pairwise, page_clock, held_to, held_from}

-- Empty stores stand for no edits.

none_stand : {D S : Type 0} (x : Transactions) (value : ℕ → D → S) (after : S → ℕ → Deed → S) (first : S) → Stands {D = D} x value after first [] []
none_stand x value after first = record { fits = tt; versions = record { made = tt; order = tt }; edits = record { made = tt; order = tt }; linked = tt; same = record { same = λ v kept. refl } }

no_cut : (P : Type 0) (viewer : Viewer) (x : Transactions) (o n : ℕ) → cut_open {P = P} viewer x no_stores o n ≡ false
no_cut P viewer x o zero = refl
no_cut P viewer x o (suc n) = rw (no_cut P viewer x o n) refl

pub pages_start : {P : Type 0} (value : ℕ → P → Option Content) (x : Transactions) → PagesStand value x no_stores []
pages_start {P} value x = record {
  proper = tt;
  objects = λ o. none_stand x there (after_head o) false;
  pages = λ o b. none_stand x value (after_page o b) None;
  cuts = λ o b. none_stand x no_value after_cut tt;
  busy = λ o b. record { alike = λ viewer. rw (no_cut P viewer x o b) refl };
  clean = λ o b. record { same = λ v kept. refl };
}

-- What a call that found no memory has put is gone with the level that it was made in.

pub each_joined : {X : Type 0} (Q : X → Type 0) (xs ys : List X) → Each Q xs → Each Q ys → Each Q (xs ++ ys)
each_joined Q [] ys h g = g
each_joined Q (x ∷ xs) ys h g = (h.0, each_joined Q xs ys h.1 g)

module _ {P : Type 0} (value : ℕ → P → Option Content) (s : ℕ) (old new : Transactions) (vs us : Stores P) (ys : List (Edit Deed)) (turns : Turns (undo s (length (levels_of old s))) old new) (adds : AddsOwnAll old s vs us) (stands : PagesStand value new vs ys) where
  fits_more : {D : Type 0} (as_was more : List (Version D)) → AddsOwn old s as_was more → Fits new as_was → Fits new more
  fits_more {D} as_was more by fits = subst (λ (ws : List (Version D)). Fits new ws) (sym by.is) (each_joined (λ (v : Version D). IsIssued new v.stamp) as_was by.more fits (each_more (IsNew {D = D} old s) (λ (v : Version D). IsIssued new v.stamp) (λ v is_new. turns.issued v.stamp is_new.issued) by.more by.own))

  cut_restored : (viewer : Viewer) (o n : ℕ) → cut_open viewer new us o n ≡ cut_open viewer new vs o n
  cut_restored viewer o zero = refl
  cut_restored viewer o (suc n) = rw (cut_restored viewer o n, restored s old new (vs.cuts o n) (us.cuts o n) turns (adds.cuts o n)) refl

  pub pages_restored : PagesStand value new us ys
  pages_restored = record {
    proper = stands.proper;
    objects = λ o. stands_restored there (after_head o) false s old new (vs.objects o) (us.objects o) (at_object o ys) turns (adds.objects o) (fits_more (vs.objects o) (us.objects o) (adds.objects o) (stands.objects o).fits) (stands.objects o);
    pages = λ o b. stands_restored value (after_page o b) None s old new (vs.pages o b) (us.pages o b) (at_page o b ys) turns (adds.pages o b) (fits_more (vs.pages o b) (us.pages o b) (adds.pages o b) (stands.pages o b).fits) (stands.pages o b);
    cuts = λ o b. stands_restored no_value after_cut tt s old new (vs.cuts o b) (us.cuts o b) (at_cut o b ys) turns (adds.cuts o b) (fits_more (vs.cuts o b) (us.cuts o b) (adds.cuts o b) (stands.cuts o b).fits) (stands.cuts o b);
    busy = λ o b. record { alike = λ viewer. rw (restored s old new (vs.objects o) (us.objects o) turns (adds.objects o), restored s old new (vs.pages o b) (us.pages o b) turns (adds.pages o b), cut_restored viewer o b, restored s old new (vs.cuts o b) (us.cuts o b) turns (adds.cuts o b)) ((stands.busy o b).alike viewer) };
    clean = stands.clean;
  }

-- Where other blocks of a pool change, the versions give what they gave.
pub pages_revalued : {P : Type 0} (value value' : ℕ → P → Option Content) (x : Transactions) (stores : Stores P) (ys : List (Edit Deed)) → ((o b : ℕ) → Each (λ (v : Version P). (clock : ℕ) → value' clock v.deed ≡ value clock v.deed) (stores.pages o b)) → PagesStand value x stores ys → PagesStand value' x stores ys
pages_revalued value value' x stores ys alike stands = record {
  proper = stands.proper;
  objects = stands.objects;
  pages = λ o b. stands_revalued value value' (after_page o b) None x (stores.pages o b) (at_page o b ys) (alike o b) (stands.pages o b);
  cuts = stands.cuts;
  busy = stands.busy;
  clean = stands.clean;
}

-- The pages in use after a reclamation, over all keys. The keys are numbered in any way.

pub all_held_pages : {P : Type 0} (value : ℕ → P → Option Content) (erases : P → Bool) → TellsClock erases value → (x : Transactions) (stores : Stores P) (ys : List (Edit Deed)) → PagesStand value x stores ys → Pairwise OneOwner ys → (oid_of number_of : ℕ → ℕ) (keys : List ℕ) (held : List Mark) → Different keys → ListsPages x ys oid_of number_of keys held → blocks_in erases (kept_views x) keys (λ key. standing x (stores.pages (oid_of key) (number_of key))) ≡ length held
all_held_pages {P} value erases tells x stores ys stands one oid_of number_of keys held once lists =
    blocks_are_held erases (kept_views x) (λ key. standing x (stores.pages (oid_of key) (number_of key))) keys held once
    (λ key. linked_owners (standing x (stores.pages (oid_of key) (number_of key))) (at_page (oid_of key) (number_of key) ys) (stands.pages (oid_of key) (number_of key)).linked (filter_pairwise OneOwner (λ (e : Edit Deed). touches_page (oid_of key) (number_of key) e.deed) ys one))
    (record {
      once = lists.once;
      keyed = lists.keyed;
      only = λ m here. held_from value erases tells x stores ys stands (oid_of m.key) (number_of m.key) m.clock (lists.only m here);
      each = λ key clock here held_clock. lists.each key clock here (held_to value erases tells x stores ys stands (oid_of key) (number_of key) clock held_clock);
    })

-- Views that have one page version have one page.

same_among : {D : Type 0} (es : List (Edit D)) (e f : Edit D) → Pairwise OtherClock es → Among e es → Among f es → e.clock ≡ f.clock → e ≡ f
same_among [] e f apart here there same = absurd here
same_among (g ∷ gs) e f apart (inl a) (inl d) same = sym a ∙ d
same_among {D} (g ∷ gs) e f apart (inl a) (inr d) same = absurd (never gs apart.0 d)
  where
    never : (hs : List (Edit D)) → Each (OtherClock g) hs → Among f hs → ⊥
    never [] each among = among
    never (h ∷ hs) each (inl is) = each.0 (ap (λ (k : Edit D). k.clock) a ∙ (same ∙ sym (ap (λ (k : Edit D). k.clock) is)))
    never (h ∷ hs) each (inr later) = never hs each.1 later
same_among {D} (g ∷ gs) e f apart (inr a) (inl d) same = absurd (never gs apart.0 a)
  where
    never : (hs : List (Edit D)) → Each (OtherClock g) hs → Among e hs → ⊥
    never [] each among = among
    never (h ∷ hs) each (inl is) = each.0 (ap (λ (k : Edit D). k.clock) d ∙ (sym same ∙ sym (ap (λ (k : Edit D). k.clock) is)))
    never (h ∷ hs) each (inr later) = never hs each.1 later
same_among (g ∷ gs) e f apart (inr a) (inr d) same = same_among gs e f apart.1 a d same

module _ {P : Type 0} (value : ℕ → P → Option Content) (erases : P → Bool) (tells : TellsClock erases value) (x : Transactions) (stores : Stores P) (ys : List (Edit Deed)) (stands : PagesStand value x stores ys) (one : Pairwise OneOwner ys) (o b : ℕ) (v u : Snapshot) (kept : IsLook x v) (kept' : IsLook x u) where
  abbrev versions : List (Edit P)
  versions = standing x (stores.pages o b)

  page_is : (w : Snapshot) → page_at value x w stores o b ≡ value_of value None (found erases w versions)
  page_is w = after_found erases value None (record { gives = λ clock deed is. tells.none clock deed is }) w versions

  clocks_apart : Pairwise OtherClock (reclaimed erases (kept_views x) versions)
  clocks_apart = reclaimed_clocks erases (kept_views x) versions (linked_owners versions (at_page o b ys) (stands.pages o b).linked (filter_pairwise OneOwner (λ (e : Edit Deed). touches_page o b e.deed) ys one))

  pub same_version : (c : ℕ) → clock_in (page_at value x v stores o b) ≡ Some c → clock_in (page_at value x u stores o b) ≡ Some c → page_at value x v stores o b ≡ page_at value x u stores o b
  same_version c first second = by_both (found erases v versions) (found erases u versions) refl refl
    where
      none_some : (n : ℕ) → None ≡ Some n → ⊥
      none_some n same = grind arith

      some_is : (m n : ℕ) → Some m ≡ Some n → m ≡ n
      some_is m n same = grind arith

      by_both : (f g : Option (Edit P)) → found erases v versions ≡ f → found erases u versions ≡ g → page_at value x v stores o b ≡ page_at value x u stores o b
      by_both None g is at = absurd (none_some c (sym (page_clock value erases tells x stores ys stands o b v ∙ ap (option_map (λ (e : Edit P). e.clock)) is) ∙ first))
      by_both (Some e) None is at = absurd (none_some c (sym (page_clock value erases tells x stores ys stands o b u ∙ ap (option_map (λ (h : Edit P). h.clock)) at) ∙ second))
      by_both (Some e) (Some f) is at =
          let e_clock : e.clock ≡ c = some_is e.clock c (sym (page_clock value erases tells x stores ys stands o b v ∙ ap (option_map (λ (h : Edit P). h.clock)) is) ∙ first) in
          let f_clock : f.clock ≡ c = some_is f.clock c (sym (page_clock value erases tells x stores ys stands o b u ∙ ap (option_map (λ (h : Edit P). h.clock)) at) ∙ second) in
          let same : e ≡ f = same_among (reclaimed erases (kept_views x) versions) e f clocks_apart (found_left erases (kept_views x) versions e (record { view = v; kept = kept; found_is = is })) (found_left erases (kept_views x) versions f (record { view = u; kept = kept'; found_is = at })) (e_clock ∙ sym f_clock) in
          page_is v ∙ (ap (value_of value None) (is ∙ (ap (λ (h : Edit P). Some h) same ∙ sym at)) ∙ sym (page_is u))
