-- What contracts read of pages: which edits they stand for, what a view of them reads, and that they go with transactions.
use Rattle.std.specs.Prelude.{◌≡◌, ◌<◌, ℕ, Bool, false, List, Option, Some, None, is_some}
use Rattle.std.specs.Ordering.{nat_cmp}
use Rattle.lo_model.specs.Edit.{Deed, Edit}
use Rattle.lo_model.specs.Object.{object_in}
use Rattle.xact_core.specs.declared.snapshot.Snapshot.{Snapshot}
use Rattle.xact_core.specs.Transactions.{Transactions}
use Rattle.row_versions.specs.Store.{versions_at, GoesWith}
use Rattle.lo_pages.specs.declared.pages.Pages.{Pages}
use Rattle.lo_pages.specs.Content.{Content}
use Rattle.lo_pages.specs.Keys.{key_cmp, page_key}
use Rattle.lo_pages.specs.Object.{IsObjectAs}
use Rattle.lo_pages.specs.Stores.{Stores, PagesStand, head_at, bytes_at}
use Rattle.lo_pages.specs.Calls.{NothingAbove}

-- what a version of a page gives: its bytes, with the clock at which they were made
abbrev pub page_value : (clock : ℕ) → Option (List ℕ) → Option Content
page_value clock None = None
page_value clock (Some bytes) = Some (record { clock = clock; bytes = bytes })

-- the versions of pages: of objects, of their pages, and of the marks of cuts
abbrev pub stores_of : Pages → Stores (Option (List ℕ))
stores_of pages = record {
  objects = λ o. versions_at nat_cmp pages.objects o;
  pages = λ o b. versions_at key_cmp pages.pages (page_key o b);
  cuts = λ o b. versions_at key_cmp pages.cuts (page_key o b);
}

-- the greatest number that a page can have, since numbers of pages have 32 bits
abbrev pub last_number : ℕ
last_number = 4294967295

-- Pages go with their transactions. Each call needs this and keeps it, and so does each call of the transactions.
pub record GoWith (x : Transactions) (store : Pages) : Type 0 where
  pub objects : GoesWith nat_cmp x store.objects
  pub pages : GoesWith key_cmp x store.pages
  pub cuts : GoesWith key_cmp x store.cuts
  pub above : (o : ℕ) → NothingAbove (stores_of store) o last_number

-- Pages stand for edits: each kept view reads the objects that its edits make, and who is busy is so by the edits.
pub record StandFor (x : Transactions) (pages : Pages) (ys : List (Edit Deed)) : Type 0 where
  pub stand : PagesStand page_value x (stores_of pages) ys
  pub above : (o : ℕ) → NothingAbove (stores_of pages) o last_number

-- whether a view finds a page
abbrev pub has_page : Transactions → Snapshot → Pages → (oid number : ℕ) → Bool
has_page x v pages o b = is_some (bytes_at page_value x v (stores_of pages) o b)

-- What a view finds in pages is what edits make: each object that is there, with its bytes, and no page of another.
pub record ReadsAs (x : Transactions) (v : Snapshot) (pages : Pages) (edits : List (Edit Deed)) : Type 0 where
  pub object : (o : ℕ) → IsObjectAs (object_in o edits) (head_at x v (stores_of pages) o) (bytes_at page_value x v (stores_of pages) o)
  pub absent : (o b : ℕ) → head_at x v (stores_of pages) o ≡ false → bytes_at page_value x v (stores_of pages) o b ≡ None
  pub above : (o b : ℕ) → last_number < b → bytes_at page_value x v (stores_of pages) o b ≡ None
