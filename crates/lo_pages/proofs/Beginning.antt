-- Stores without versions, as `new` makes them: they stand for no edits, and go with all transactions.
use Rattle.std.proofs.Common.{◌≡◌, ℕ, zero, suc, false, List, [], None, refl, sym, subst}
use Rattle.std.specs.Ordering.{nat_cmp}
use Rattle.lo_model.specs.declared.viewer.Viewer.{Viewer}
use Rattle.lo_model.specs.Edit.{Deed}
use Rattle.xact_core.specs.Transactions.{Transactions}
use Rattle.row_versions.specs.Stands.{Version, Stands, standing}
use Rattle.row_versions.specs.Store.{versions_at, GoesWith}
use Rattle.row_versions.specs.Vacuum.{any_open}
use Rattle.row_versions.proofs.Laws.{stands_none}
use Rattle.lo_pages.specs.declared.page_key.PageKey.{PageKey}
use Rattle.lo_pages.specs.declared.pages.Pages.{Pages}
use Rattle.lo_pages.specs.Calls.{NothingAbove}
use Rattle.lo_pages.specs.Content.{after_page, after_head, after_cut}
use Rattle.lo_pages.specs.Keys.{key_cmp, page_key}
use Rattle.lo_pages.specs.Standing.{GoWith, StandFor, last_number, page_value, stores_of}
use Rattle.lo_pages.specs.Stores.{there, no_value, cut_open, open_at, PagesStand}

none_at : {D S : Type 0} (x : Transactions) (value : ℕ → D → S) (after : S → ℕ → Deed → S) (first : S) (vs : List (Version D)) → vs ≡ [] → Stands x value after first vs []
none_at {D} x value after first vs empty = subst (λ (us : List (Version D)). Stands x value after first us []) (sym empty) (stands_none value after first x)

none_open : {D : Type 0} (x : Transactions) (viewer : Viewer) (vs : List (Version D)) → vs ≡ [] → any_open viewer (standing x vs) ≡ false
none_open {D} x viewer vs empty = subst (λ (us : List (Version D)). any_open viewer (standing x us) ≡ false) (sym empty) refl

module _ (x : Transactions) (pages : Pages) (objects : (o : ℕ) → versions_at nat_cmp pages.objects o ≡ []) (at_pages : (k : PageKey) → versions_at key_cmp pages.pages k ≡ []) (at_cuts : (k : PageKey) → versions_at key_cmp pages.cuts k ≡ []) where
  no_cut : (viewer : Viewer) (o n : ℕ) → cut_open viewer x (stores_of pages) o n ≡ false
  no_cut viewer o zero = refl
  no_cut viewer o (suc n) = rw (no_cut viewer o n, none_open x viewer (versions_at key_cmp pages.cuts (page_key o n)) (at_cuts (page_key o n))) refl

  not_open : (viewer : Viewer) (o b : ℕ) → open_at viewer x (stores_of pages) o b ≡ false
  not_open viewer o b = rw (none_open x viewer (versions_at nat_cmp pages.objects o) (objects o), none_open x viewer (versions_at key_cmp pages.pages (page_key o b)) (at_pages (page_key o b)), no_cut viewer o (suc b)) refl

  none_above : (o : ℕ) → NothingAbove (stores_of pages) o last_number
  none_above o = record { pages = λ b more. at_pages (page_key o b); cuts = λ b more. at_cuts (page_key o b) }

  pub empty_stand : StandFor x pages []
  empty_stand = record { stand = stand; above = none_above }
    where
      stand : PagesStand page_value x (stores_of pages) []
      stand = record {
        proper = tt;
        objects = λ o. none_at x there (after_head o) false _ (objects o);
        pages = λ o b. none_at x page_value (after_page o b) None _ (at_pages (page_key o b));
        cuts = λ o b. none_at x no_value after_cut tt _ (at_cuts (page_key o b));
        busy = λ o b. record { alike = λ viewer. not_open viewer o b };
        clean = λ o b. record { same = λ v kept. refl };
      }

  pub empty_go : GoesWith nat_cmp x pages.objects → GoesWith key_cmp x pages.pages → GoesWith key_cmp x pages.cuts → GoWith x pages
  empty_go by_objects by_pages by_cuts = record { objects = by_objects; pages = by_pages; cuts = by_cuts; above = none_above }
