-- What the steps of a changing call do to the stores: a version more at one key, or at the pages of a span.
use Rattle.std.specs.Prelude.{◌≡◌, ◌≢◌, ◌≤◌, ◌<◌, ◌-◌, ◌*◌, ℕ, pos, suc, Bool, true, false, List, length, Option, Some, None}
use Rattle.lo_base.specs.declared.refusal.Cause.TheVariants.{Busy}
use Rattle.lo_base.specs.declared.refusal.Refusal.{Refusal}
use Rattle.lo_model.specs.Object.{at_size, laid_over}
use Rattle.xact_core.specs.Transactions.{Transactions}
use Rattle.row_versions.specs.Stands.{standing, lowest_other}
use Rattle.lo_pages.specs.declared.pages.Pages.{Pages}
use Rattle.lo_pages.specs.Calls.{own, search, PutsOne, Next, WrittenTo, ErasedTo}
use Rattle.lo_pages.specs.Content.{Content, bytes_of, piece_of, is_written}
use Rattle.lo_pages.specs.Outcome.{LeavesOwn}
use Rattle.lo_pages.specs.Standing.{GoWith, last_number, page_value, stores_of}
use Rattle.lo_pages.specs.Stores.{there, no_value, head_at, page_at}

-- what a session finds of a page now
abbrev pub found_now : Transactions → (session : ℕ) → Pages → (oid number : ℕ) → Option Content
found_now x s store o b = page_at page_value x (own x s) (stores_of store) o b

-- a page made now
abbrev pub made_page : Transactions → List ℕ → Option Content
made_page x bytes = Some (record { clock = x.clock; bytes = bytes })

-- a page with the part of a write that falls into it, over what was found there
abbrev pub page_written : Transactions → (number at : ℕ) → List ℕ → Option Content → Option Content
page_written x b at bytes found = made_page x (laid_over (at - 2048 * b) (piece_of b at bytes) (bytes_of found))

-- a page at a size
abbrev pub page_sized : Transactions → (size : ℕ) → Option Content → Option Content
page_sized x size found = made_page x (at_size size (bytes_of found))

-- nothing changes but one object's head, one mark of a cut, or pages of one object
pub record OnlyObject (o : ℕ) (old new : Pages) : Type 0 where
  pub objects : (p : ℕ) → p ≢ o → (stores_of new).objects p ≡ (stores_of old).objects p
  pub pages : (p b : ℕ) → (stores_of new).pages p b ≡ (stores_of old).pages p b
  pub cuts : (p b : ℕ) → (stores_of new).cuts p b ≡ (stores_of old).cuts p b

pub record OnlyCut (o j : ℕ) (old new : Pages) : Type 0 where
  pub objects : (p : ℕ) → (stores_of new).objects p ≡ (stores_of old).objects p
  pub pages : (p b : ℕ) → (stores_of new).pages p b ≡ (stores_of old).pages p b
  pub cuts : (p b : ℕ) → (p ≡ o → b ≡ j → ⊥) → (stores_of new).cuts p b ≡ (stores_of old).cuts p b

pub record OnlyPages (o : ℕ) (old new : Pages) : Type 0 where
  pub objects : (p : ℕ) → (stores_of new).objects p ≡ (stores_of old).objects p
  pub pages : (p b : ℕ) → p ≢ o → (stores_of new).pages p b ≡ (stores_of old).pages p b
  pub cuts : (p b : ℕ) → (stores_of new).cuts p b ≡ (stores_of old).cuts p b

-- one version more, and no other change
pub record PutsObject (x : Transactions) (s o : ℕ) (want : Bool) (old new : Pages) : Type 0 where
  pub puts : PutsOne x s there want ((stores_of old).objects o) ((stores_of new).objects o)
  pub only : OnlyObject o old new

pub record PutsPage (x : Transactions) (s o j : ℕ) (want : Option Content) (old new : Pages) : Type 0 where
  pub puts : PutsOne x s page_value want ((stores_of old).pages o j) ((stores_of new).pages o j)
  pub others : (b : ℕ) → b ≢ j → (stores_of new).pages o b ≡ (stores_of old).pages o b
  pub only : OnlyPages o old new

pub record PutsCut (x : Transactions) (s o j : ℕ) (old new : Pages) : Type 0 where
  pub puts : PutsOne x s no_value tt ((stores_of old).cuts o j) ((stores_of new).cuts o j)
  pub only : OnlyCut o j old new

-- the lowest other session that holds something of some pages of an object, if one does
pub record HasHolder (x : Transactions) (s o first last : ℕ) (store : Pages) (found : Option ℕ) : Type 0 where
  pub count : ℕ
  pub count_is : count ≡ suc last
  pub is : search s x (stores_of store) o first (count - first) count ≡ found

-- the refusal of a call that is busy
pub record HeldFor (x : Transactions) (s o first last : ℕ) (store : Pages) (r : Refusal) : Type 0 where
  pub session : ℕ
  pub holds : HasHolder x s o first last store (Some session)
  pub is : r ≡ record { cause = Busy; subject = pos session }

-- no other session has one of some pages open
pub record FreePages (x : Transactions) (s o first last : ℕ) (store : Pages) : Type 0 where
  pub free : (b : ℕ) → first ≤ b → b ≤ last → lowest_other s (standing x ((stores_of store).pages o b)) ≡ None

-- no other session holds anything of some pages of an object, nor of the object as such
pub record FreeSpan (x : Transactions) (s o first last : ℕ) (store : Pages) : Type 0 where
  pub holder : HasHolder x s o first last store None
  pub object : lowest_other s (standing x ((stores_of store).objects o)) ≡ None
  pub pages : FreePages x s o first last store
  pub cuts : (b : ℕ) → b ≤ last → lowest_other s (standing x ((stores_of store).cuts o b)) ≡ None

-- A session has an object to itself: it is there for it, and no other session holds anything of it.
pub record HasAlone (x : Transactions) (s o : ℕ) (store : Pages) : Type 0 where
  pub there : head_at x (own x s) (stores_of store) o ≡ true
  pub object : lowest_other s (standing x ((stores_of store).objects o)) ≡ None
  pub pages : (b : ℕ) → b ≤ last_number → lowest_other s (standing x ((stores_of store).pages o b)) ≡ None
  pub cuts : (b : ℕ) → b ≤ last_number → lowest_other s (standing x ((stores_of store).cuts o b)) ≡ None

-- Pages of an object are written, or erased where they are found, as far as one.
pub record Writing (x : Transactions) (s o at : ℕ) (bytes : List ℕ) (i : ℕ) (old new : Pages) : Type 0 where
  pub to : WrittenTo page_value x s o at bytes i (stores_of old) (stores_of new)
  pub only : OnlyPages o old new
  pub left : LeavesOwn x s old new
  pub goes : GoWith x new

pub record Erasing (x : Transactions) (s o first i : ℕ) (old new : Pages) : Type 0 where
  pub to : ErasedTo page_value x s o first i (stores_of old) (stores_of new)
  pub only : OnlyPages o old new
  pub left : LeavesOwn x s old new
  pub goes : GoWith x new

-- all pages that a write's bytes lie in are written
pub record WritesPages (x : Transactions) (s o at : ℕ) (bytes : List ℕ) (old new : Pages) : Type 0 where
  pub written : (b : ℕ) → is_written b at (length bytes) ≡ true → PutsOne x s page_value (page_written x b at bytes (found_now x s old o b)) ((stores_of old).pages o b) ((stores_of new).pages o b)
  pub spared : (b : ℕ) → is_written b at (length bytes) ≡ false → (stores_of new).pages o b ≡ (stores_of old).pages o b
  pub only : OnlyPages o old new

-- all pages that are found from one on are erased
pub record ErasesFrom (x : Transactions) (s o first : ℕ) (old new : Pages) : Type 0 where
  pub erased : (b : ℕ) → first ≤ b → Next false x s page_value (found_now x s old o b) None ((stores_of old).pages o b) ((stores_of new).pages o b)
  pub below : (b : ℕ) → b < first → (stores_of new).pages o b ≡ (stores_of old).pages o b
  pub only : OnlyPages o old new
