-- The steps of bodies: values that are brought in, moved out and erased, and the change of one row.
use Rattle.std.specs.Prelude.{◌≡◌, ◌<◌, ◌^◌, ℕ, ◌+◌, true, false, List, length, Option, Some, None}
use Rattle.lo_base.specs.declared.value.Cell.{Cell}
use Rattle.lo_base.specs.declared.value.Cell.TheVariants as cells
use Rattle.xact_core.specs.declared.snapshot.Snapshot.{Snapshot}
use Rattle.xact_core.specs.Kept.{current}
use Rattle.xact_core.specs.Transactions.{Transactions}
use Rattle.row_versions.specs.Stack.{Each}
use Rattle.row_versions.specs.Store.{AddsVersion}
use Rattle.toast_chunks.specs.declared.chunks.Chunks.{Chunks}
use Rattle.toast_chunks.specs.Calls.{Erases, Stores}
use Rattle.toast_chunks.specs.Values as toast
use Rattle.row_tables.specs.declared.row_key.RowKey.{RowKey}
use Rattle.row_tables.specs.declared.tables.Tables.{Tables}
use Rattle.row_tables.specs.Cells.{Moved, Told, has_moved, is_among}
use Rattle.row_tables.specs.Keys.{key_cmp}

-- a cell in place of another one, where there is one
abbrev pub cell_or : Option Cell → Cell → Cell
cell_or None cell = cell
cell_or (Some found) cell = found

-- a cell whose value has a length of 32 bits
abbrev pub FitsLength : Cell → Type 0
FitsLength cells.Null = Unit {0}
FitsLength (cells.Int n) = Unit {0}
FitsLength (cells.Oid n) = Unit {0}
FitsLength (cells.Inline bytes) = length bytes < 2 ^ 32
FitsLength (cells.Text bytes) = length bytes < 2 ^ 32
FitsLength (cells.Outside l n) = Unit {0}

-- A view has the value of a cell outside, whose length the cell names.
abbrev pub HasItsValue : (ℕ → Told) → Transactions → Snapshot → Chunks → Cell → Type 0
HasItsValue told x v chunks cells.Null = Unit {0}
HasItsValue told x v chunks (cells.Int n) = Unit {0}
HasItsValue told x v chunks (cells.Oid n) = Unit {0}
HasItsValue told x v chunks (cells.Inline bytes) = Unit {0}
HasItsValue told x v chunks (cells.Text bytes) = ⊥
HasItsValue told x v chunks (cells.Outside l n) = (l ≡ length (told n).bytes) × toast.HasValue x v chunks n (told n).bytes

-- it has all values outside of a row
abbrev pub HasOutside : (ℕ → Told) → Transactions → Snapshot → Chunks → List Cell → Type 0
HasOutside told x v chunks row = Each (HasItsValue told x v chunks) row

-- A value was stored by some call, and none after it changed its chunks.
pub record StoredBetween (x : Transactions) (s : ℕ) (new : Chunks) (m : Moved) : Type 0 where
  pub before : Chunks
  pub after : Chunks
  pub stores : Stores x s m.bytes before after m.number
  pub since : (k : ℕ) → toast.versions_of new m.number k ≡ toast.versions_of after m.number k

-- Values were moved out, one after another under the next numbers.
pub record MovesAll (x : Transactions) (s : ℕ) (moved : List Moved) (old new : Chunks) : Type 0 where
  pub next : toast.next_number new ≡ toast.next_number old + length moved
  pub here : Each (StoredBetween x s new) moved
  pub others : (n k : ℕ) → has_moved moved n ≡ false → toast.versions_of new n k ≡ toast.versions_of old n k

-- A value was erased between two states of the chunks. The session's view has of it what it had before.
pub record ErasedBetween (x : Transactions) (s : ℕ) (old new : Chunks) (n : ℕ) : Type 0 where
  pub before : Chunks
  pub after : Chunks
  pub until : (k : ℕ) → toast.versions_of before n k ≡ toast.versions_of old n k
  pub erases : (bytes : List ℕ) → toast.HasValue x (current x s) before n bytes → Erases x s n bytes before after
  pub since : (k : ℕ) → toast.versions_of new n k ≡ toast.versions_of after n k

-- The values of some numbers were erased, and no other changed.
pub record ErasesAll (x : Transactions) (s : ℕ) (numbers : List ℕ) (old new : Chunks) : Type 0 where
  pub next : toast.next_number new ≡ toast.next_number old
  pub here : (n : ℕ) → is_among numbers n ≡ true → ErasedBetween x s old new n
  pub others : (n k : ℕ) → is_among numbers n ≡ false → toast.versions_of new n k ≡ toast.versions_of old n k

-- One row got a version. Before it some values were moved out, and some others erased.
pub record ChangesRow (x : Transactions) (s : ℕ) (key : RowKey) (moved : List Moved) (gone : List ℕ) (content : Option (List Cell)) (old new : Tables) : Type 0 where
  pub between : Chunks
  pub moves : MovesAll x s moved old.chunks between
  pub erases : ErasesAll x s gone between new.chunks
  pub version : AddsVersion key_cmp x s key content old.rows new.rows
  pub catalog : new.catalog ≡ old.catalog
  pub cursors : new.cursors.entries.items ≡ old.cursors.entries.items
