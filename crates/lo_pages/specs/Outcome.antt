-- What calls answer: the terms of refusals and their order, what a changing call does to pages, and what a search finds.
use Rattle.std.specs.Prelude.{◌≡◌, ◌≤◌, ℕ, pos, ◌+◌, ◌*◌, Bool, true, false, not, ◌==◌, nat_lt, List, [], ◌∷◌, ◌++◌, length, take, drop, Option, Some, None, if◌then◌else◌}
use Rattle.std.specs.List.{list_any}
use Rattle.lo_base.specs.declared.refusal.Cause.{Cause}
use Rattle.lo_base.specs.declared.refusal.Cause.TheVariants.{NoObject, ObjectExists, BadWrite, BadTruncate, Busy}
use Rattle.lo_base.specs.declared.refusal.Denied.{Denied}
use Rattle.lo_base.specs.declared.refusal.Denied.TheVariants.{By, NoMemory}
use Rattle.lo_base.specs.declared.refusal.Refusal.{Refusal}
use Rattle.lo_model.specs.Edit.{Deed, Create, Write, Cut, Unlink, Edit}
use Rattle.lo_model.specs.Listing.{has_object}
use Rattle.lo_model.specs.Touch.{page_bytes, touched, busy_with}
use Rattle.lo_model.specs.View.{current_view}
use Rattle.xact_core.specs.Transactions.{Transactions}
use Rattle.row_versions.specs.Stands.{made_now, standing}
use Rattle.lo_pages.specs.declared.pages.Pages.{Pages}
use Rattle.lo_pages.specs.Rest.{AddsOwnAll}
use Rattle.lo_pages.specs.Standing.{StandFor, stores_of}

-- the largest size of an object: 2147483647 pages
abbrev pub largest_size : ℕ
largest_size = 4398046509056

-- A term of a refusal is a refusal where it holds, and else nothing.
abbrev pub when : Bool → Cause → ℕ → Option Refusal
when test cause subject = if test then Some (record { cause = cause; subject = pos subject }) else None

-- another session that holds what would be touched
abbrev pub held_by : Option ℕ → Option Refusal
held_by None = None
held_by (Some t) = when true Busy t

-- the first term that holds
abbrev pub first_of : List (Option Refusal) → Option Refusal
first_of [] = None
first_of (None ∷ terms) = first_of terms
first_of (Some r ∷ terms) = Some r

-- whether an object is there for a session, with what it has made at the present clock
abbrev pub has_now : Transactions → (session : ℕ) → List (Edit Deed) → (oid : ℕ) → Bool
has_now x s ys o = has_object (current_view (x.clock + 1) s ys) o

-- why each call is refused
abbrev pub create_refused : Transactions → (session oid : ℕ) → List (Edit Deed) → Option Refusal
create_refused x s o ys = first_of (when (has_now x s ys o) ObjectExists o ∷ held_by (busy_with s (touched (Create o)) ys) ∷ [])

abbrev pub write_refused : Transactions → (session oid at : ℕ) → (bytes : List ℕ) → List (Edit Deed) → Option Refusal
write_refused x s o at bytes ys =
    first_of (when (not (has_now x s ys o)) NoObject o
    ∷ when (nat_lt largest_size (at + length bytes)) BadWrite (length bytes)
    ∷ held_by (busy_with s (touched (Write o at bytes)) ys) ∷ [])

abbrev pub cut_refused : Transactions → (session oid size : ℕ) → List (Edit Deed) → Option Refusal
cut_refused x s o size ys =
    first_of (when (not (has_now x s ys o)) NoObject o
    ∷ when (nat_lt largest_size size) BadTruncate size
    ∷ held_by (busy_with s (touched (Cut o size)) ys) ∷ [])

abbrev pub drop_refused : Transactions → (session oid : ℕ) → List (Edit Deed) → Option Refusal
drop_refused x s o ys = first_of (when (not (has_now x s ys o)) NoObject o ∷ held_by (busy_with s (touched (Unlink o)) ys) ∷ [])

-- the edits of a write: none where there is no byte
abbrev pub write_made : Transactions → (session oid at : ℕ) → (bytes : List ℕ) → List (Edit Deed)
write_made x s o at [] = []
write_made x s o at (b ∷ bytes) = made_now x s (Write o at (b ∷ bytes)) ∷ []

-- A call was not refused, and has added its edits to whatever edits the pages stood for.
pub record Adds (x : Transactions) (refused : List (Edit Deed) → Option Refusal) (made : List (Edit Deed)) (old new : Pages) : Type 0 where
  pub granted : (ys : List (Edit Deed)) → StandFor x old ys → refused ys ≡ None
  pub stand : (ys : List (Edit Deed)) → StandFor x old ys → StandFor x new (ys ++ made)

-- A call was refused by the first term that holds, and pages are what they were.
pub record Refuses (x : Transactions) (refused : List (Edit Deed) → Option Refusal) (old new : Pages) (r : Refusal) : Type 0 where
  pub first : (ys : List (Edit Deed)) → StandFor x old ys → refused ys ≡ Some r
  pub same : new ≡ old

-- What a call leaves, whatever it answers: beside what was there, versions of the session's top level and the present clock.
pub record LeavesOwn (x : Transactions) (s : ℕ) (old new : Pages) : Type 0 where
  pub adds : AddsOwnAll x s (stores_of old) (stores_of new)

-- Of each key the same versions stand, the rest having been undone.
pub record StandsAlike (x : Transactions) (old new : Pages) : Type 0 where
  pub objects : (o : ℕ) → standing x ((stores_of new).objects o) ≡ standing x ((stores_of old).objects o)
  pub pages : (o b : ℕ) → standing x ((stores_of new).pages o b) ≡ standing x ((stores_of old).pages o b)
  pub cuts : (o b : ℕ) → standing x ((stores_of new).cuts o b) ≡ standing x ((stores_of old).cuts o b)

-- Why a call did nothing.
abbrev pub Denies : Transactions → (session : ℕ) → (List (Edit Deed) → Option Refusal) → (old new : Pages) → Denied → Type 0
Denies x s refused old new (By r) = Refuses x refused old new r
Denies x s refused old new NoMemory = LeavesOwn x s old new

-- a call did nothing for want of memory, and was not refused
abbrev pub IsNoMemory : Denied → Type 0
IsNoMemory (By r) = ⊥
IsNoMemory NoMemory = Unit {0}

-- the bytes of an object from an offset on, as many as there are and as fit
abbrev pub piece_at : (at room : ℕ) → List ℕ → List ℕ
piece_at at room bytes = take room (drop at bytes)

-- the bytes of an object's page, and whether one of them is not 0
abbrev pub page_of : (number : ℕ) → List ℕ → List ℕ
page_of b bytes = piece_at (page_bytes * b) page_bytes bytes

abbrev pub is_byte : ℕ → Bool
is_byte n = not (n == 0)

abbrev pub has_bytes : List ℕ → (number : ℕ) → Bool
has_bytes bytes b = list_any is_byte (page_of b bytes)

-- of numbers from one on, no one passes a test, or this is the least that does
pub record NoneFrom (test : ℕ → Bool) (from : ℕ) : Type 0 where
  pub none : (n : ℕ) → from ≤ n → test n ≡ false

pub record LeastFrom (test : ℕ → Bool) (from n : ℕ) : Type 0 where
  pub low : from ≤ n
  pub passes : test n ≡ true
  pub least : (other : ℕ) → from ≤ other → test other ≡ true → n ≤ other
