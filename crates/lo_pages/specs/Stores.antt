-- The three stores of versions: what they stand for, and what a view finds in them.
use Rattle.std.specs.Prelude.{◌≡◌, ℕ, zero, suc, Bool, true, false, ◌||◌, List, Option, Some, None, option_map}
use Rattle.lo_model.specs.declared.viewer.Viewer.{Viewer}
use Rattle.lo_model.specs.Edit.{Deed, Edit}
use Rattle.xact_core.specs.declared.snapshot.Snapshot.{Snapshot}
use Rattle.xact_core.specs.Transactions.{Transactions}
use Rattle.lo_model.specs.View.{view}
use Rattle.row_versions.specs.Stack.{Each}
use Rattle.row_versions.specs.Looks.{IsLook}
use Rattle.row_versions.specs.Vacuum.{any_open}
use Rattle.row_versions.specs.Stands.{Version, standing, after_all, replaces, Agrees, Stands}
use Rattle.lo_pages.specs.Content.{Content, at_page, at_object, at_cut, after_page, after_head, after_cut, none_yet, after_both, after_there}
use Rattle.lo_pages.specs.Object.{IsProper}

-- The versions of three stores: of objects by their number, of pages and of cuts by object and page. Objects and cuts are
-- versions of bytes, or of none for an erasure. A version of a page is of a type of its own, as one that names a block of a pool.
pub record Stores (P : Type 0) : Type 0 where
  pub objects : (oid : ℕ) → List (Version (Option (List ℕ)))
  pub pages : (oid number : ℕ) → List (Version P)
  pub cuts : (oid number : ℕ) → List (Version (Option (List ℕ)))

-- what a version of an object gives: whether it is there
abbrev pub there : (clock : ℕ) → Option (List ℕ) → Bool
there clock None = false
there clock (Some bytes) = true

-- of a cut nothing is read: it only tells who has touched the pages from there on
abbrev pub no_value : (clock : ℕ) → Option (List ℕ) → Unit {0}
no_value clock deed = tt

-- whether some cut below a page number is open for a viewer
abbrev pub cut_open : {P : Type 0} → Viewer → Transactions → Stores P → (oid count : ℕ) → Bool
cut_open viewer x stores o zero = false
cut_open viewer x stores o (suc n) = cut_open viewer x stores o n || any_open viewer (standing x (stores.cuts o n))

-- whether a page is open for a viewer, by what the three stores have of it
abbrev pub open_at : {P : Type 0} → Viewer → Transactions → Stores P → (oid number : ℕ) → Bool
open_at viewer x stores o b =
    any_open viewer (standing x (stores.objects o)) || (any_open viewer (standing x (stores.pages o b)) || cut_open viewer x stores o (suc b))

pub record OpenAlike {P : Type 0} (x : Transactions) (stores : Stores P) (o b : ℕ) (ys : List (Edit Deed)) : Type 0 where
  pub alike : (viewer : Viewer) → open_at viewer x stores o b ≡ any_open viewer (at_page o b ys)

-- in no kept view a page is there without its object
abbrev pub IsClean : Transactions → (oid number : ℕ) → List (Edit Deed) → Type 0
IsClean x o b es = Agrees (IsLook x) (after_both o b) (after_there o b) none_yet es es

abbrev pub IsProperEdit : Edit Deed → Type 0
IsProperEdit e = IsProper e.deed

-- The three stores stand for edits.
pub record PagesStand {P : Type 0} (value : ℕ → P → Option Content) (x : Transactions) (stores : Stores P) (ys : List (Edit Deed)) : Type 0 where
  pub proper : Each IsProperEdit ys
  pub objects : (o : ℕ) → Stands x there (after_head o) false (stores.objects o) (at_object o ys)
  pub pages : (o b : ℕ) → Stands x value (after_page o b) None (stores.pages o b) (at_page o b ys)
  pub cuts : (o b : ℕ) → Stands x no_value after_cut tt (stores.cuts o b) (at_cut o b ys)
  pub busy : (o b : ℕ) → OpenAlike x stores o b ys
  pub clean : (o b : ℕ) → IsClean x o b (at_page o b ys)

-- what a view finds
abbrev pub head_at : {P : Type 0} → Transactions → Snapshot → Stores P → (oid : ℕ) → Bool
head_at x v stores o = after_all (replaces there) false (view v.clock v.viewer (standing x (stores.objects o)))

abbrev pub page_at : {P : Type 0} → (value : ℕ → P → Option Content) → Transactions → Snapshot → Stores P → (oid number : ℕ) → Option Content
page_at value x v stores o b = after_all (replaces value) None (view v.clock v.viewer (standing x (stores.pages o b)))

abbrev pub content_bytes : Content → List ℕ
content_bytes page = page.bytes

-- the bytes by page that a view finds of an object
abbrev pub bytes_at : {P : Type 0} → (value : ℕ → P → Option Content) → Transactions → Snapshot → Stores P → (oid number : ℕ) → Option (List ℕ)
bytes_at value x v stores o b = option_map content_bytes (page_at value x v stores o b)
