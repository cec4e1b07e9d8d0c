-- The page versions that kept views have, in words of edits, and what a vacuum leaves of them.
use Rattle.std.specs.Prelude.{◌≡◌, ◌≢◌, ℕ, ◌/◌, Bool, true, false, ◌==◌, List, Option, Some, None, is_some, option_map, Contains, take}
use Rattle.lo_model.specs.Edit.{Deed, Create, Write, Cut, Unlink, Put, Delete, Edit}
use Rattle.lo_model.specs.Object.{object_in}
use Rattle.lo_model.specs.View.{view}
use Rattle.xact_core.specs.declared.snapshot.Snapshot.{Snapshot}
use Rattle.xact_core.specs.Kept.{kept_views}
use Rattle.xact_core.specs.Transactions.{Transactions}
use Rattle.row_versions.specs.Stack.{Pairwise}
use Rattle.row_versions.specs.Count.{clocks_left}
use Rattle.row_versions.specs.Found.{is_erasure}
use Rattle.row_versions.specs.Stands.{standing}
use Rattle.row_versions.specs.Vacuum.{last_in, OneOwner}
use Rattle.lo_pages.specs.Stores.{Stores}
use Rattle.lo_pages.specs.Content.{Content, touches_page}

-- the last edit that touches a page
abbrev pub last_touching : (oid number : ℕ) → List (Edit Deed) → Option (Edit Deed)
last_touching o b edits = last_in (λ (e : Edit Deed). touches_page o b e.deed) None edits

-- whether a deed that touches a page leaves a page there: a write, or a cut in that page
abbrev pub makes_page : (number : ℕ) → Deed → Bool
makes_page b (Create p) = false
makes_page b (Write p at bytes) = true
makes_page b (Cut p n) = (n / 2048) == b
makes_page b (Unlink p) = false
makes_page b (Put table id values stored) = false
makes_page b (Delete table id) = false

-- a view's edits have the page version (o, b, c)
pub record HasPageVersion (o b c : ℕ) (edits : List (Edit Deed)) : Type 0 where
  pub object : is_some (object_in o edits) ≡ true
  pub edit : Edit Deed
  pub last : last_touching o b edits ≡ Some edit
  pub clock : edit.clock ≡ c
  pub makes : makes_page b edit.deed ≡ true

-- some kept view has it
pub record IsHeldPage (x : Transactions) (ys : List (Edit Deed)) (o b c : ℕ) : Type 0 where
  pub look : Snapshot
  pub kept : Contains (kept_views x) look
  pub has : HasPageVersion o b c (view look.clock look.viewer ys)

-- The clocks of the held versions of a page, each once, and no other.
pub record ListsHeldPages (x : Transactions) (ys : List (Edit Deed)) (o b : ℕ) (clocks : List ℕ) : Type 0 where
  pub once : Pairwise (λ (m n : ℕ). m ≢ n) clocks
  pub only : (c : ℕ) → Contains clocks c → IsHeldPage x ys o b c
  pub each : (c : ℕ) → IsHeldPage x ys o b c → Contains clocks c

abbrev pub clock_in : Option Content → Option ℕ
clock_in page = option_map (λ (p : Content). p.clock) page

-- a version of a page gives nothing where it erases, and else a page of its own clock
pub record TellsClock {P : Type 0} (erases : P → Bool) (value : ℕ → P → Option Content) : Type 0 where
  pub none : (clock : ℕ) (deed : P) → erases deed ≡ true → value clock deed ≡ None
  pub some : (clock : ℕ) (deed : P) → erases deed ≡ false → clock_in (value clock deed) ≡ Some clock

-- What is left of pages are the versions that kept views have, each once, where no two edits of one clock have two owners.
pub record LeavesHeld (x : Transactions) (ys : List (Edit Deed)) (stores : Stores (Option (List ℕ))) : Type 0 where
  pub pages : Pairwise OneOwner ys → (o b : ℕ) → ListsHeldPages x ys o b (clocks_left is_erasure (standing x (stores.pages o b)))

-- a list begins with another
pub record HasFirst {X : Type 0} (first all : List X) : Type 0 where
  pub count : ℕ
  pub is : first ≡ take count all
