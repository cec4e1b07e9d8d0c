-- Pages through each call of the transactions, in the words of contracts.
use Rattle.std.proofs.Common.{◌≡◌, ℕ, ℤ, false, List, [], ◌∷◌, ◌++◌, length, Option, None, ap, sym, subst, ◌∙◌}
use Rattle.std.specs.Prelude.{option_map}
use Rattle.std.specs.Ordering.{nat_cmp}
use Rattle.std.specs.Cmp.{IsTotalOrder, nat_cmp_total}
use Rattle.std.proofs.lemmas.Cmp.{on_total, then_total}
use Rattle.std.proofs.lemmas.Map.Lookups.{exact_unsigned}
use Rattle.lo_base.specs.declared.value.Value.{Value}
use Rattle.lo_model.specs.declared.owner.Owner.TheVariants.{Running}
use Rattle.lo_model.specs.declared.viewer.Viewer.{Viewer}
use Rattle.lo_model.specs.Edit.{Deed, Put, Delete, Edit}
use Rattle.lo_model.specs.Levels.{released, undone, aborted, committed}
use Rattle.lo_model.specs.Object.{object_in}
use Rattle.lo_model.specs.Touch.{touched, busy_with}
use Rattle.lo_model.specs.View.{sees, view}
use Rattle.xact_core.specs.declared.snapshot.Snapshot.{Snapshot}
use Rattle.xact_core.specs.Ends.{Opens, Turns, undo}
use Rattle.xact_core.specs.Kept.{HoldsOthers}
use Rattle.xact_core.specs.Transactions.{Transactions, levels_of}
use Rattle.row_versions.specs.Calls.{Releases, UndoesLevel, Commits, Aborts, Ticks}
use Rattle.row_versions.specs.Looks.{IsLook}
use Rattle.row_versions.specs.Stands.{standing, after_all, replaces, made_now}
use Rattle.row_versions.proofs.Fronts.{IsFront, view_front}
use Rattle.row_versions.proofs.Going.{goes_released, goes_undone, goes_committed, goes_aborted, goes_ticks, goes_opened, goes_holds}
use Rattle.row_versions.proofs.Laws.{unseen_reads, restored}
use Rattle.lo_pages.specs.declared.page_key.PageKey.{PageKey}
use Rattle.lo_pages.specs.declared.pages.Pages.{Pages}
use Rattle.lo_pages.specs.Calls.{IsMaker}
use Rattle.lo_pages.specs.Content.{at_page}
use Rattle.lo_pages.specs.Held.{HasFirst}
use Rattle.lo_pages.specs.Keys.{key_cmp, exact_keys}
use Rattle.lo_pages.specs.Object.{IsObjectAs}
use Rattle.lo_pages.specs.Outcome.{LeavesOwn, StandsAlike}
use Rattle.lo_pages.specs.Standing.{GoWith, StandFor, ReadsAs, page_value, stores_of}
use Rattle.lo_pages.specs.Stores.{there, head_at, bytes_at, content_bytes}
use Rattle.lo_pages.proofs.Calling.{pages_put, pages_deleted}
use Rattle.lo_pages.proofs.Counting.{page_absent}
use Rattle.lo_pages.proofs.Reading.{alike_as, object_reads}
use Rattle.lo_pages.proofs.Rest.{pages_restored}
use Rattle.lo_pages.proofs.Through.{pages_released, pages_undone, pages_aborted, pages_committed, pages_ticked, pages_opened, pages_held}

pub keys_total : IsTotalOrder key_cmp
keys_total = then_total (on_total (λ (k : PageKey). k.oid) nat_cmp_total) (on_total (λ (k : PageKey). k.number) nat_cmp_total)

-- Pages go with their transactions.

pub go_released : (s k : ℕ) (old new : Transactions) (pages : Pages) → Releases s k old new → GoWith old pages → GoWith new pages
go_released s k old new pages by go = record {
  objects = goes_released nat_cmp nat_cmp_total exact_unsigned s k old new pages.objects by go.objects;
  pages = goes_released key_cmp keys_total exact_keys s k old new pages.pages by go.pages;
  cuts = goes_released key_cmp keys_total exact_keys s k old new pages.cuts by go.cuts;
  above = go.above;
}

pub go_undone : (s k : ℕ) (old new : Transactions) (pages : Pages) → UndoesLevel s k old new → GoWith old pages → GoWith new pages
go_undone s k old new pages by go = record {
  objects = goes_undone nat_cmp nat_cmp_total exact_unsigned s k old new pages.objects by go.objects;
  pages = goes_undone key_cmp keys_total exact_keys s k old new pages.pages by go.pages;
  cuts = goes_undone key_cmp keys_total exact_keys s k old new pages.cuts by go.cuts;
  above = go.above;
}

pub go_aborted : (s : ℕ) (old new : Transactions) (pages : Pages) → Aborts s old new → GoWith old pages → GoWith new pages
go_aborted s old new pages by go = record {
  objects = goes_aborted nat_cmp nat_cmp_total exact_unsigned s old new pages.objects by go.objects;
  pages = goes_aborted key_cmp keys_total exact_keys s old new pages.pages by go.pages;
  cuts = goes_aborted key_cmp keys_total exact_keys s old new pages.cuts by go.cuts;
  above = go.above;
}

pub go_committed : (s : ℕ) (old new : Transactions) (pages : Pages) → Commits s old new → GoWith old pages → GoWith new pages
go_committed s old new pages by go = record {
  objects = goes_committed nat_cmp nat_cmp_total exact_unsigned s old new pages.objects by go.objects;
  pages = goes_committed key_cmp keys_total exact_keys s old new pages.pages by go.pages;
  cuts = goes_committed key_cmp keys_total exact_keys s old new pages.cuts by go.cuts;
  above = go.above;
}

pub go_ticked : (old new : Transactions) (pages : Pages) → Ticks old new → GoWith old pages → GoWith new pages
go_ticked old new pages by go = record {
  objects = goes_ticks nat_cmp nat_cmp_total exact_unsigned old new pages.objects by go.objects;
  pages = goes_ticks key_cmp keys_total exact_keys old new pages.pages by go.pages;
  cuts = goes_ticks key_cmp keys_total exact_keys old new pages.cuts by go.cuts;
  above = go.above;
}

pub go_opened : (s : ℕ) (name : Option (List ℕ)) (old new : Transactions) (pages : Pages) → Opens s name old new → GoWith old pages → GoWith new pages
go_opened s name old new pages by go = record {
  objects = goes_opened nat_cmp nat_cmp_total exact_unsigned s name old new pages.objects by.levels.low by go.objects;
  pages = goes_opened key_cmp keys_total exact_keys s name old new pages.pages by.levels.low by go.pages;
  cuts = goes_opened key_cmp keys_total exact_keys s name old new pages.cuts by.levels.low by go.cuts;
  above = go.above;
}

pub go_held : (old new : Transactions) (pages : Pages) → HoldsOthers old new → GoWith old pages → GoWith new pages
go_held old new pages by go = record {
  objects = goes_holds nat_cmp nat_cmp_total exact_unsigned old new pages.objects by go.objects;
  pages = goes_holds key_cmp keys_total exact_keys old new pages.pages by go.pages;
  cuts = goes_holds key_cmp keys_total exact_keys old new pages.cuts by go.cuts;
  above = go.above;
}

-- Pages stand for what a call makes of the edits.

pub stand_released : (s k : ℕ) (old new : Transactions) (pages : Pages) (ys : List (Edit Deed)) → Releases s k old new → StandFor old pages ys → StandFor new pages (released s k ys)
stand_released s k old new pages ys by stands = record { stand = pages_released page_value (stores_of pages) ys s k old new by stands.stand; above = stands.above }

pub stand_undone : (s k : ℕ) (old new : Transactions) (pages : Pages) (ys : List (Edit Deed)) → UndoesLevel s k old new → StandFor old pages ys → StandFor new pages (undone s k ys)
stand_undone s k old new pages ys by stands = record { stand = pages_undone page_value (stores_of pages) ys s k old new by stands.stand; above = stands.above }

pub stand_aborted : (s : ℕ) (old new : Transactions) (pages : Pages) (ys : List (Edit Deed)) → Aborts s old new → StandFor old pages ys → StandFor new pages (aborted s ys)
stand_aborted s old new pages ys by stands = record { stand = pages_aborted page_value (stores_of pages) ys s old new by stands.stand; above = stands.above }

pub stand_committed : (s : ℕ) (old new : Transactions) (pages : Pages) (ys : List (Edit Deed)) → Commits s old new → StandFor old pages ys → StandFor new pages (committed s old.clock ys)
stand_committed s old new pages ys by stands = record { stand = pages_committed page_value (stores_of pages) ys s old new by stands.stand; above = stands.above }

pub stand_ticked : (old new : Transactions) (pages : Pages) (ys : List (Edit Deed)) → Ticks old new → StandFor old pages ys → StandFor new pages ys
stand_ticked old new pages ys by stands = record { stand = pages_ticked page_value (stores_of pages) ys old new by stands.stand; above = stands.above }

pub stand_opened : (s : ℕ) (name : Option (List ℕ)) (old new : Transactions) (pages : Pages) (ys : List (Edit Deed)) → Opens s name old new → StandFor old pages ys → StandFor new pages ys
stand_opened s name old new pages ys by stands = record { stand = pages_opened page_value (stores_of pages) ys s name old new by stands.stand; above = stands.above }

pub stand_held : (old new : Transactions) (pages : Pages) (ys : List (Edit Deed)) → HoldsOthers old new → StandFor old pages ys → StandFor new pages ys
stand_held old new pages ys by stands = record { stand = pages_held page_value (stores_of pages) ys old new by stands.stand; above = stands.above }

pub stand_put : (x : Transactions) (s : ℕ) (pages : Pages) (ys : List (Edit Deed)) (table : List ℕ) (id : ℤ) (values : List Value) (stored : List (Option ℕ)) → IsMaker x s → busy_with s (touched (Put table id values stored)) ys ≡ None → StandFor x pages ys → StandFor x pages (ys ++ made_now x s (Put table id values stored) ∷ [])
stand_put x s pages ys table id values stored maker free stands = record { stand = pages_put page_value x s (stores_of pages) ys maker stands.stand table id values stored free; above = stands.above }

pub stand_deleted : (x : Transactions) (s : ℕ) (pages : Pages) (ys : List (Edit Deed)) (table : List ℕ) (id : ℤ) → IsMaker x s → busy_with s (touched (Delete table id)) ys ≡ None → StandFor x pages ys → StandFor x pages (ys ++ made_now x s (Delete table id) ∷ [])
stand_deleted x s pages ys table id maker free stands = record { stand = pages_deleted page_value x s (stores_of pages) ys maker stands.stand table id free; above = stands.above }

-- What a kept view reads.

pub reads_as : (x : Transactions) (pages : Pages) (ys : List (Edit Deed)) (v : Snapshot) → StandFor x pages ys → IsLook x v → ReadsAs x v pages (view v.clock v.viewer ys)
reads_as x pages ys v stands kept = record {
  object = λ o. object_reads page_value x (stores_of pages) ys stands.stand v kept o;
  absent = λ o b none. ap (option_map content_bytes) (page_absent page_value x (stores_of pages) ys stands.stand v kept o b none);
  above = λ o b more. ap (λ vs. option_map content_bytes (after_all (replaces page_value) None (view v.clock v.viewer (standing x vs)))) ((stands.above o).pages b more);
}

pub closed : (x : Transactions) (pages : Pages) (ys : List (Edit Deed)) → StandFor x pages ys → (o b clock : ℕ) (viewer : Viewer) → HasFirst (view clock viewer (at_page o b ys)) (at_page o b ys)
closed x pages ys stands o b clock viewer = first (view_front clock viewer (at_page o b ys) (stands.stand.pages o b).edits.order)
  where
    first : IsFront (view clock viewer (at_page o b ys)) (at_page o b ys) → HasFirst (view clock viewer (at_page o b ys)) (at_page o b ys)
    first front = record { count = front.count; is = front.is }

-- Want of memory.

pub left_unseen : (x : Transactions) (s : ℕ) (old new : Pages) (v : Snapshot) (edits : List (Edit Deed)) → LeavesOwn x s old new → sees v.clock v.viewer x.clock (Running s (length (levels_of x s))) ≡ false → ReadsAs x v old edits → ReadsAs x v new edits
left_unseen x s old new v edits left unseen reads = record { object = object; absent = absent; above = λ o b more. page_is o b ∙ reads.above o b more }
  where
    head_is : (o : ℕ) → head_at x v (stores_of new) o ≡ head_at x v (stores_of old) o
    head_is o = ap (after_all (replaces there) false) (unseen_reads x s v ((stores_of old).objects o) ((stores_of new).objects o) unseen (left.adds.objects o))

    page_is : (o b : ℕ) → bytes_at page_value x v (stores_of new) o b ≡ bytes_at page_value x v (stores_of old) o b
    page_is o b = ap (λ es. option_map content_bytes (after_all (replaces page_value) None es)) (unseen_reads x s v ((stores_of old).pages o b) ((stores_of new).pages o b) unseen (left.adds.pages o b))

    object : (o : ℕ) → IsObjectAs (object_in o edits) (head_at x v (stores_of new) o) (bytes_at page_value x v (stores_of new) o)
    object o = alike_as (object_in o edits) (head_at x v (stores_of old) o) (head_at x v (stores_of new) o) (bytes_at page_value x v (stores_of old) o) (bytes_at page_value x v (stores_of new) o) (head_is o) (page_is o) (reads.object o)

    absent : (o b : ℕ) → head_at x v (stores_of new) o ≡ false → bytes_at page_value x v (stores_of new) o b ≡ None
    absent o b none = page_is o b ∙ reads.absent o b (sym (head_is o) ∙ none)

pub left_undone : (s : ℕ) (old new : Transactions) (before after : Pages) (ys : List (Edit Deed)) → UndoesLevel s (length (levels_of old s)) old new → LeavesOwn old s before after → GoWith old after → StandFor old before ys → StandFor new after (undone s (length (levels_of old s)) ys)
left_undone s old new before after ys by left go stands = record { stand = pages_restored page_value s old new (stores_of before) (stores_of after) (undone s (length (levels_of old s)) ys) by.ends.owners left.adds (stand_undone s (length (levels_of old s)) old new before ys by stands).stand; above = go.above }

pub left_aborted : (s : ℕ) (old new : Transactions) (before after : Pages) (ys : List (Edit Deed)) → length (levels_of old s) ≡ 1 → Aborts s old new → LeavesOwn old s before after → GoWith old after → StandFor old before ys → StandFor new after (aborted s ys)
left_aborted s old new before after ys one by left go stands = record { stand = pages_restored page_value s old new (stores_of before) (stores_of after) (aborted s ys) (subst (λ (k : ℕ). Turns (undo s k) old new) (sym one) by.ends.owners) left.adds (stand_aborted s old new before ys by stands).stand; above = go.above }

pub left_gone : (s : ℕ) (old new : Transactions) (before after : Pages) → UndoesLevel s (length (levels_of old s)) old new → LeavesOwn old s before after → StandsAlike new before after
left_gone s old new before after by left = record {
  objects = λ o. restored s old new ((stores_of before).objects o) ((stores_of after).objects o) by.ends.owners (left.adds.objects o);
  pages = λ o b. restored s old new ((stores_of before).pages o b) ((stores_of after).pages o b) by.ends.owners (left.adds.pages o b);
  cuts = λ o b. restored s old new ((stores_of before).cuts o b) ((stores_of after).cuts o b) by.ends.owners (left.adds.cuts o b);
}
