-- Objects of plain data, made in pages by a session, and read out of a view of pages.
use Rattle.std.specs.Prelude.{◌≡◌, ◌<◌, ◌≤◌, ◌^◌, ◌+◌, ◌*◌, ℕ, true, false, List, ◌++◌, length, map, None}
use Rattle.lo_model.specs.declared.owner.Owner.TheVariants.{Running}
use Rattle.lo_model.specs.Descriptor.{bytes_or_none}
use Rattle.lo_model.specs.Edit.{Deed, Edit, edits_by}
use Rattle.lo_model.specs.Listing.{has_object, oids_in}
use Rattle.lo_model.specs.Object.{object_in}
use Rattle.lo_model.specs.Opening.{ObjectBytes}
use Rattle.lo_model.specs.Touch.{page_bytes}
use Rattle.lo_opening.specs.declared.opening.ObjectData.{ObjectData}
use Rattle.lo_opening.specs.Opening.{AreObjects}
use Rattle.lo_opening.specs.Meaning.{object_of}
use Rattle.lo_pages.specs.declared.pages.Pages.{Pages}
use Rattle.lo_pages.specs.Outcome.{largest_size, has_now}
use Rattle.lo_pages.specs.Standing.{StandFor, ReadsAs}
use Rattle.row_versions.specs.Stands.{lowest_other}
use Rattle.xact_core.specs.declared.snapshot.Snapshot.{Snapshot}
use Rattle.xact_core.specs.Transactions.{Transactions, levels_of}

-- ---- objects that are loaded

-- Pages stand for edits of which no other session has one open, and these show a session no object from a number on.
pub record IsFresh (x : Transactions) (s least : ℕ) (pages : Pages) : Type 0 where
  pub edits : List (Edit Deed)
  pub stand : StandFor x pages edits
  pub free : lowest_other s edits ≡ None
  pub absent : (o : ℕ) → least ≤ o → has_now x s edits o ≡ false

-- the same, where the session has an object and none behind it
pub record IsLast (x : Transactions) (s oid : ℕ) (pages : Pages) : Type 0 where
  pub edits : List (Edit Deed)
  pub stand : StandFor x pages edits
  pub free : lowest_other s edits ≡ None
  pub there : has_now x s edits oid ≡ true
  pub absent : (o : ℕ) → oid + 1 ≤ o → has_now x s edits o ≡ false

-- the edits of deeds that a session's top level does now
abbrev pub now_by : Transactions → (session : ℕ) → List Deed → List (Edit Deed)
now_by x s ds = edits_by x.clock (Running s (length (levels_of x s))) ds

-- The edits of some deeds were added to whatever edits the pages stood for.
pub record Loads (x : Transactions) (s : ℕ) (ds : List Deed) (old new : Pages) : Type 0 where
  pub stand : (ys : List (Edit Deed)) → StandFor x old ys → StandFor x new (ys ++ now_by x s ds)

-- objects by ascending number, whatever blocks are held before them
pub record AreOpened (os : List ObjectData) : Type 0 where
  pub held : ℕ
  pub are : AreObjects 0 held os

-- a stored block that an object has room for
pub record IsWritable (b : ℕ × List ℕ) : Type 0 where
  pub some : 0 < length b.1
  pub small : page_bytes * b.0 + length b.1 ≤ largest_size

-- ---- objects that are saved

-- an object of a view, with its bytes
abbrev pub object_at : List (Edit Deed) → (oid : ℕ) → ObjectBytes
object_at edits o = record { oid = o; bytes = bytes_or_none (object_in o edits) }

abbrev pub objects_at : List (Edit Deed) → List ObjectBytes
objects_at edits = map (object_at edits) (oids_in edits)

-- the number and the size of an object are those that an object of an opening can have
pub record IsFit (edits : List (Edit Deed)) (o : ℕ) : Type 0 where
  pub least : 1 ≤ o
  pub most : o < 2 ^ 32
  pub size : length (bytes_or_none (object_in o edits)) ≤ largest_size

-- Each object that edits show is fit for an opening.
abbrev pub AreFit : List (Edit Deed) → Type 0
AreFit edits = (o : ℕ) → has_object edits o ≡ true → IsFit edits o

-- a view of pages reads as some edits
pub record Reads (x : Transactions) (v : Snapshot) (pages : Pages) : Type 0 where
  pub edits : List (Edit Deed)
  pub reads : ReadsAs x v pages edits

-- Objects are those of a view, whatever edits it reads as, and keep the rules of an opening, where `held` blocks are held by
-- what stands before them.
pub record AreSaved (x : Transactions) (v : Snapshot) (pages : Pages) (held : ℕ) (os : List ObjectData) : Type 0 where
  pub same : (edits : List (Edit Deed)) → ReadsAs x v pages edits → AreFit edits → map object_of os ≡ objects_at edits
  pub rules : (edits : List (Edit Deed)) → ReadsAs x v pages edits → AreFit edits → AreObjects 0 held os
