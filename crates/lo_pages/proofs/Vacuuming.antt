-- Each of the three stores is vacuumed key by key, and what follows for pages.
use Rattle.std.proofs.Common.{◌≡◌, ℕ, zero, suc, true, false, List, [], Option, Some, None, refl, ap, sym, subst, ◌∙◌}
use Rattle.std.specs.Prelude.{is_some}
use Rattle.std.specs.Ordering.{nat_cmp}
use Rattle.std.proofs.lemmas.Bool.{false≢true}
use Rattle.lo_model.specs.declared.viewer.Viewer.{Viewer}
use Rattle.lo_model.specs.Edit.{Deed, Edit}
use Rattle.lo_model.specs.Object.{object_in}
use Rattle.xact_core.specs.declared.snapshot.Snapshot.{Snapshot}
use Rattle.xact_core.specs.Transactions.{Transactions}
use Rattle.row_versions.specs.Count.{clocks_left}
use Rattle.row_versions.specs.Found.{is_erasure}
use Rattle.row_versions.specs.Looks.{IsLook}
use Rattle.row_versions.specs.Search.{finds_at}
use Rattle.row_versions.specs.Stands.{Version, standing, vacuumed, Stands}
use Rattle.row_versions.specs.Store.{GoesWith, edits_at}
use Rattle.row_versions.specs.Vacuum.{any_open}
use Rattle.lo_pages.specs.declared.page_key.PageKey.{PageKey}
use Rattle.lo_pages.specs.declared.pages.Pages.{Pages}
use Rattle.lo_pages.specs.Calls.{NothingAbove}
use Rattle.lo_pages.specs.Content.{after_page, after_head, after_cut, at_page, at_object, at_cut}
use Rattle.lo_pages.specs.Held.{LeavesHeld, ListsHeldPages, TellsClock, clock_in}
use Rattle.lo_pages.specs.Keys.{key_cmp, page_key}
use Rattle.lo_pages.specs.Object.{IsObjectAs}
use Rattle.lo_pages.specs.Rest.{stores_vacuumed}
use Rattle.lo_pages.specs.Standing.{GoWith, StandFor, ReadsAs, page_value, last_number, stores_of}
use Rattle.lo_pages.specs.Stores.{PagesStand, there, no_value, cut_open, open_at, head_at, bytes_at}
use Rattle.lo_pages.proofs.Counting.{left_is_held_pages}
use Rattle.lo_pages.proofs.Finding.{page_finds, head_finds}
use Rattle.lo_pages.proofs.Reading.{alike_as}
use Rattle.lo_pages.proofs.Through.{pages_vacuumed}

-- Each store is vacuumed key by key.
pub record VacuumsAll (x : Transactions) (old new : Pages) : Type 0 where
  pub objects : (o : ℕ) → (stores_of new).objects o ≡ vacuumed is_erasure x ((stores_of old).objects o)
  pub pages : (key : PageKey) → Rattle.row_versions.specs.Store.versions_at key_cmp new.pages key ≡ vacuumed is_erasure x (Rattle.row_versions.specs.Store.versions_at key_cmp old.pages key)
  pub cuts : (key : PageKey) → Rattle.row_versions.specs.Store.versions_at key_cmp new.cuts key ≡ vacuumed is_erasure x (Rattle.row_versions.specs.Store.versions_at key_cmp old.cuts key)
  pub heads : (o : ℕ) (v : Snapshot) → IsLook x v → finds_at nat_cmp x v new.objects o ≡ finds_at nat_cmp x v old.objects o
  pub found : (key : PageKey) (v : Snapshot) → IsLook x v → finds_at key_cmp x v new.pages key ≡ finds_at key_cmp x v old.pages key
  pub open_objects : (o : ℕ) (viewer : Viewer) → any_open viewer (edits_at nat_cmp x new.objects o) ≡ any_open viewer (edits_at nat_cmp x old.objects o)
  pub open_pages : (key : PageKey) (viewer : Viewer) → any_open viewer (edits_at key_cmp x new.pages key) ≡ any_open viewer (edits_at key_cmp x old.pages key)
  pub open_cuts : (key : PageKey) (viewer : Viewer) → any_open viewer (edits_at key_cmp x new.cuts key) ≡ any_open viewer (edits_at key_cmp x old.cuts key)
  pub go_objects : GoesWith nat_cmp x new.objects
  pub go_pages : GoesWith key_cmp x new.pages
  pub go_cuts : GoesWith key_cmp x new.cuts

value_none : (clock : ℕ) (deed : Option (List ℕ)) → is_erasure deed ≡ true → page_value clock deed ≡ None
value_none clock None is = refl
value_none clock (Some bytes) is = absurd (false≢true is)

value_some : (clock : ℕ) (deed : Option (List ℕ)) → is_erasure deed ≡ false → clock_in (page_value clock deed) ≡ Some clock
value_some clock None is = absurd (false≢true (sym is))
value_some clock (Some bytes) is = refl

value_tells : TellsClock is_erasure page_value
value_tells = record { none = value_none; some = value_some }

none_left : {D : Type 0} (x : Transactions) (vs : List (Version (Option D))) → vs ≡ [] → vacuumed is_erasure x vs ≡ []
none_left x vs is = ap (vacuumed is_erasure x) is

module _ (x : Transactions) (old new : Pages) (all : VacuumsAll x old new) where
  cuts_alike : (viewer : Viewer) (o n : ℕ) → cut_open viewer x (stores_of new) o n ≡ cut_open viewer x (stores_of old) o n
  cuts_alike viewer o zero = refl
  cuts_alike viewer o (suc n) = rw (cuts_alike viewer o n, all.open_cuts (page_key o n) viewer) refl

  pub all_open : (viewer : Viewer) (o b : ℕ) → open_at viewer x (stores_of new) o b ≡ open_at viewer x (stores_of old) o b
  all_open viewer o b = rw (all.open_objects o viewer, all.open_pages (page_key o b) viewer, cuts_alike viewer o b, all.open_cuts (page_key o b) viewer) refl

  all_above : (o : ℕ) → NothingAbove (stores_of old) o last_number → NothingAbove (stores_of new) o last_number
  all_above o above = record {
    pages = λ b more. all.pages (page_key o b) ∙ none_left x ((stores_of old).pages o b) (above.pages b more);
    cuts = λ b more. all.cuts (page_key o b) ∙ none_left x ((stores_of old).cuts o b) (above.cuts b more);
  }

  pub all_go : GoWith x old → GoWith x new
  all_go go = record { objects = all.go_objects; pages = all.go_pages; cuts = all.go_cuts; above = λ o. all_above o (go.above o) }

  pub all_stand : (ys : List (Edit Deed)) → StandFor x old ys → StandFor x new ys
  all_stand ys stands = record { stand = here; above = λ o. all_above o (stands.above o) }
    where
      less : PagesStand page_value x (stores_vacuumed is_erasure x (stores_of old)) ys
      less = pages_vacuumed page_value is_erasure x (stores_of old) ys (record { gives = value_none }) stands.stand

      here : PagesStand page_value x (stores_of new) ys
      here = record {
        proper = less.proper;
        objects = λ o. subst (λ vs. Stands x there (after_head o) false vs (at_object o ys)) (sym (all.objects o)) (less.objects o);
        pages = λ o b. subst (λ vs. Stands x page_value (after_page o b) None vs (at_page o b ys)) (sym (all.pages (page_key o b))) (less.pages o b);
        cuts = λ o b. subst (λ vs. Stands x no_value after_cut tt vs (at_cut o b ys)) (sym (all.cuts (page_key o b))) (less.cuts o b);
        busy = λ o b. record { alike = λ viewer. all_open viewer o b ∙ (stands.stand.busy o b).alike viewer };
        clean = less.clean;
      }

  pub all_read : (v : Snapshot) (edits : List (Edit Deed)) → IsLook x v → ReadsAs x v old edits → ReadsAs x v new edits
  all_read v edits kept reads = record { object = object; absent = absent; above = λ o b more. page_is o b ∙ reads.above o b more }
    where
      head_is : (o : ℕ) → head_at x v (stores_of new) o ≡ head_at x v (stores_of old) o
      head_is o = head_finds x v new o ∙ (ap is_some (all.heads o v kept) ∙ sym (head_finds x v old o))

      page_is : (o b : ℕ) → bytes_at page_value x v (stores_of new) o b ≡ bytes_at page_value x v (stores_of old) o b
      page_is o b = page_finds x v new o b ∙ (all.found (page_key o b) v kept ∙ sym (page_finds x v old o b))

      object : (o : ℕ) → IsObjectAs (object_in o edits) (head_at x v (stores_of new) o) (bytes_at page_value x v (stores_of new) o)
      object o = alike_as (object_in o edits) (head_at x v (stores_of old) o) (head_at x v (stores_of new) o) (bytes_at page_value x v (stores_of old) o) (bytes_at page_value x v (stores_of new) o) (head_is o) (page_is o) (reads.object o)

      absent : (o b : ℕ) → head_at x v (stores_of new) o ≡ false → bytes_at page_value x v (stores_of new) o b ≡ None
      absent o b none = page_is o b ∙ reads.absent o b (sym (head_is o) ∙ none)

  pub all_left : (ys : List (Edit Deed)) → StandFor x old ys → LeavesHeld x ys (stores_of new)
  all_left ys stands = record { pages = λ one o b. subst (λ vs. ListsHeldPages x ys o b (clocks_left is_erasure (standing x vs))) (sym (all.pages (page_key o b))) (left_is_held_pages page_value is_erasure value_tells x (stores_of old) ys stands.stand o b one) }
