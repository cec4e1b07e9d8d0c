-- The three searches in the stores find the lowest session that holds something of a span of pages.
use Rattle.std.proofs.Common.{◌≡◌, ◌≢◌, ℕ, suc, ◌-◌, ◌<◌, ◌≤◌, ◌⊎◌, inl, inr, Bool, true, false, List, Option, Some, None, refl, ap, sym, subst, ◌∙◌, arith}
use Rattle.std.specs.Prelude.{MatchOption}
use Rattle.std.proofs.lemmas.Bool.{false≢true, cases_lt}
use Rattle.lo_model.specs.declared.viewer.Viewer.TheVariants.{Whole}
use Rattle.lo_model.specs.Edit.{Edit}
use Rattle.lo_model.specs.Touch.{lower_of}
use Rattle.xact_core.specs.Transactions.{Transactions}
use Rattle.row_versions.specs.Search.{IsBetween, IsFreeIn, IsLowestIn}
use Rattle.row_versions.specs.Stands.{standing, lowest_other}
use Rattle.row_versions.specs.Store.{edits_at}
use Rattle.row_versions.specs.Vacuum.{any_open}
use Rattle.row_versions.proofs.Lowest.{IsLowest, lowest_is, lowest_same}
use Rattle.lo_pages.specs.declared.page_key.PageKey.{PageKey}
use Rattle.lo_pages.specs.declared.pages.Pages.{Pages}
use Rattle.lo_pages.specs.Calls.{pages_open, pages_lowest, cuts_lowest, search}
use Rattle.lo_pages.specs.Keys.{key_cmp, page_key}
use Rattle.lo_pages.specs.Standing.{stores_of}
use Rattle.lo_pages.specs.Stores.{cut_open}
use Rattle.lo_pages.proofs.Keys.{le_pages, pages_le, le_oids, key_is}
use Rattle.lo_pages.proofs.Searching.{OpenPage, page_from, page_to, OpenCut, cut_from, cut_to, pages_lowest_is, cuts_lowest_is}

-- a key of some that is open for a session
record OpenKey {D : Type 0} (within : ℕ → Type 0) (edits : ℕ → List (Edit D)) (t : ℕ) : Type 0 where
  pub number : ℕ
  pub is_within : within number
  pub opens : any_open (Whole t) (edits number) ≡ true

-- no key is held, or some key by a session, and none by a lower one
abbrev HeldBy : {D : Type 0} → (s : ℕ) → (within : ℕ → Type 0) → (ℕ → List (Edit D)) → Option ℕ → Type 0
HeldBy s within edits None = (b : ℕ) → within b → lowest_other s (edits b) ≡ None
HeldBy s within edits (Some t) = ((b : ℕ) × (within b × (lowest_other s (edits b) ≡ Some t))) × ((b u : ℕ) → within b → lowest_other s (edits b) ≡ Some u → t ≤ u)

module _ {D : Type 0} (s : ℕ) (within : ℕ → Type 0) (edits : ℕ → List (Edit D)) (test : ℕ → Bool) (from : (t : ℕ) → test t ≡ true → OpenKey within edits t) (to : (t b : ℕ) → within b → any_open (Whole t) (edits b) ≡ true → test t ≡ true) where
  -- an open key is held by a session that is no higher
  record Holder (b u : ℕ) : Type 0 where
    pub session : ℕ
    pub holds : lowest_other s (edits b) ≡ Some session
    pub low : session ≤ u

  holder : (b u : ℕ) → u ≢ s → any_open (Whole u) (edits b) ≡ true → Holder b u
  holder b u apart opens = by_lowest (lowest_other s (edits b)) refl (lowest_is s (edits b))
    where
      by_lowest : (o : Option ℕ) → lowest_other s (edits b) ≡ o → IsLowest s (λ t. any_open (Whole t) (edits b)) o → Holder b u
      by_lowest None at lowest = absurd (false≢true (sym (lowest u apart) ∙ opens))
      by_lowest (Some t) at lowest = by_less (cases_lt u t)
        where
          by_less : (u < t) ⊎ (t ≤ u) → Holder b u
          by_less (inl less) = absurd (false≢true (sym (lowest.2 u apart less) ∙ opens))
          by_less (inr least) = record { session = t; holds = at; low = least }

  none_some : (n : ℕ) → None ≡ Some n → ⊥
  none_some n same = grind arith

  held_lowest : (o : Option ℕ) → HeldBy s within edits o → IsLowest s test o
  held_lowest None free = λ t apart. by_test t apart (test t) refl
    where
      by_test : (t : ℕ) → t ≢ s → (b : Bool) → test t ≡ b → test t ≡ false
      by_test t apart false is = is
      by_test t apart true is =
          let key : OpenKey within edits t = from t is in
          let held : Holder key.number t = holder key.number t apart key.opens in
          absurd (none_some held.session (sym (free key.number key.is_within) ∙ held.holds))
  held_lowest (Some t) held = (here.0, to t held.0.0 held.0.1.0 here.1, λ u apart less. by_test u apart less (test u) refl)
    where
      here : IsLowest s (λ u. any_open (Whole u) (edits held.0.0)) (Some t)
      here = subst (λ (o : Option ℕ). IsLowest s (λ u. any_open (Whole u) (edits held.0.0)) o) held.0.1.1 (lowest_is s (edits held.0.0))

      by_test : (u : ℕ) → u ≢ s → u < t → (b : Bool) → test u ≡ b → test u ≡ false
      by_test u apart less false is = is
      by_test u apart less true is =
          let key : OpenKey within edits u = from u is in
          let lower : Holder key.number u = holder key.number u apart key.opens in
          absurd (omega (arith, less, lower.low, held.1 key.number lower.session key.is_within lower.holds))

module _ (x : Transactions) (s : ℕ) (store : Pages) (o : ℕ) where
  abbrev page_edits : ℕ → List (Edit (Option (List ℕ)))
  page_edits b = standing x ((stores_of store).pages o b)

  abbrev cut_edits : ℕ → List (Edit (Option (List ℕ)))
  cut_edits b = standing x ((stores_of store).cuts o b)

  abbrev Within : (first last : ℕ) → ℕ → Type 0
  Within first last b = (first ≤ b) × (b ≤ last)

  between : (first last b : ℕ) → Within first last b → IsBetween key_cmp (page_key o first) (page_key o last) (page_key o b)
  between first last b at = record { low = le_pages o first b at.0; high = le_pages o b last at.1 }

  -- a key between two of an object is one of its
  key_within : (first last : ℕ) (key : PageKey) → IsBetween key_cmp (page_key o first) (page_key o last) key → (key ≡ page_key o key.number) × Within first last key.number
  key_within first last key at =
      let under : o ≤ key.oid = le_oids (page_key o first) key at.low in
      let over : key.oid ≤ o = le_oids key (page_key o last) at.high in
      let same : key.oid ≡ o = omega (arith, under, over) in
      (key_is o key same, by_key (subst (λ (k : PageKey). IsBetween key_cmp (page_key o first) (page_key o last) k) (key_is o key same) at))
    where
      by_key : IsBetween key_cmp (page_key o first) (page_key o last) (page_key o key.number) → Within first last key.number
      by_key here = (pages_le o first key.number here.low, pages_le o key.number last here.high)

  pub pages_holder : (first last : ℕ) → first ≤ last → (found : Option ℕ) → MatchOption found (IsFreeIn key_cmp x s store.pages (page_key o first) (page_key o last)) (IsLowestIn key_cmp x s store.pages (page_key o first) (page_key o last)) → found ≡ pages_lowest s x (stores_of store) o first (suc last - first)
  pages_holder first last order found is =
      lowest_same s test test (λ t. refl) found (pages_lowest s x (stores_of store) o first (suc last - first))
      (held_lowest s (Within first last) page_edits test from to found (held found is))
      (pages_lowest_is s x (stores_of store) o first (suc last - first))
    where
      test : ℕ → Bool
      test t = pages_open (Whole t) x (stores_of store) o first (suc last - first)

      from : (t : ℕ) → test t ≡ true → OpenKey (Within first last) page_edits t
      from t is_open = by_page (page_from (Whole t) x (stores_of store) o first (suc last - first) is_open)
        where
          by_page : OpenPage (Whole t) x (stores_of store) o first (suc last - first) → OpenKey (Within first last) page_edits t
          by_page page = record { number = page.number; is_within = (page.low, omega (arith, page.high, order)); opens = page.opens }

      to : (t b : ℕ) → Within first last b → any_open (Whole t) (page_edits b) ≡ true → test t ≡ true
      to t b at opens = page_to (Whole t) x (stores_of store) o first (suc last - first) b at.0 (omega (arith, at.1, order)) opens

      held : (f : Option ℕ) → MatchOption f (IsFreeIn key_cmp x s store.pages (page_key o first) (page_key o last)) (IsLowestIn key_cmp x s store.pages (page_key o first) (page_key o last)) → HeldBy s (Within first last) page_edits f
      held None free = λ b at. free.free (page_key o b) (between first last b at)
      held (Some t) lowest = ((lowest.key.number, ((key_within first last lowest.key lowest.between).1, subst (λ (k : PageKey). lowest_other s (edits_at key_cmp x store.pages k) ≡ Some t) (key_within first last lowest.key lowest.between).0 lowest.here)), λ b u at holds. lowest.lowest (page_key o b) u (between first last b at) holds)

  pub cuts_holder : (last : ℕ) (found : Option ℕ) → MatchOption found (IsFreeIn key_cmp x s store.cuts (page_key o 0) (page_key o last)) (IsLowestIn key_cmp x s store.cuts (page_key o 0) (page_key o last)) → found ≡ cuts_lowest s x (stores_of store) o (suc last)
  cuts_holder last found is =
      lowest_same s test test (λ t. refl) found (cuts_lowest s x (stores_of store) o (suc last))
      (held_lowest s (Within 0 last) cut_edits test from to found (held found is))
      (cuts_lowest_is s x (stores_of store) o (suc last))
    where
      test : ℕ → Bool
      test t = cut_open (Whole t) x (stores_of store) o (suc last)

      from : (t : ℕ) → test t ≡ true → OpenKey (Within 0 last) cut_edits t
      from t is_open = by_cut (cut_from (Whole t) x (stores_of store) o (suc last) is_open)
        where
          by_cut : OpenCut (Whole t) x (stores_of store) o (suc last) → OpenKey (Within 0 last) cut_edits t
          by_cut cut = record { number = cut.number; is_within = (omega arith, omega (arith, cut.high)); opens = cut.opens }

      to : (t b : ℕ) → Within 0 last b → any_open (Whole t) (cut_edits b) ≡ true → test t ≡ true
      to t b at opens = cut_to (Whole t) x (stores_of store) o (suc last) b (omega (arith, at.1)) opens

      held : (f : Option ℕ) → MatchOption f (IsFreeIn key_cmp x s store.cuts (page_key o 0) (page_key o last)) (IsLowestIn key_cmp x s store.cuts (page_key o 0) (page_key o last)) → HeldBy s (Within 0 last) cut_edits f
      held None free = λ b at. free.free (page_key o b) (between 0 last b at)
      held (Some t) lowest = ((lowest.key.number, ((key_within 0 last lowest.key lowest.between).1, subst (λ (k : PageKey). lowest_other s (edits_at key_cmp x store.cuts k) ≡ Some t) (key_within 0 last lowest.key lowest.between).0 lowest.here)), λ b u at holds. lowest.lowest (page_key o b) u (between 0 last b at) holds)

  -- the three together
  pub holder_is : (first last : ℕ) → first ≤ last → (object pages cuts : Option ℕ) → object ≡ lowest_other s (standing x ((stores_of store).objects o)) → MatchOption pages (IsFreeIn key_cmp x s store.pages (page_key o first) (page_key o last)) (IsLowestIn key_cmp x s store.pages (page_key o first) (page_key o last)) → MatchOption cuts (IsFreeIn key_cmp x s store.cuts (page_key o 0) (page_key o last)) (IsLowestIn key_cmp x s store.cuts (page_key o 0) (page_key o last)) → lower_of object (lower_of pages cuts) ≡ search s x (stores_of store) o first (suc last - first) (suc last)
  holder_is first last order object pages cuts at_object at_pages at_cuts =
      ap (λ (p : Option ℕ). lower_of p (lower_of pages cuts)) at_object
      ∙ (ap (λ (p : Option ℕ). lower_of (lowest_other s (standing x ((stores_of store).objects o))) (lower_of p cuts)) (pages_holder first last order pages at_pages)
      ∙ ap (λ (p : Option ℕ). lower_of (lowest_other s (standing x ((stores_of store).objects o))) (lower_of (pages_lowest s x (stores_of store) o first (suc last - first)) p)) (cuts_holder last cuts at_cuts))
