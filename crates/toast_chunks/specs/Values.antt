-- What contracts read of chunks: the chunks of a value, which values a view has, and that chunks go with their transactions.
use Rattle.std.specs.Prelude.{◌≡◌, ◌≤◌, ◌*◌, ◌++◌, ℕ, Bool, nat_lt, List, [], length, take, drop, Option, Some, None, is_some, if◌then◌else◌}
use Rattle.xact_core.specs.declared.snapshot.Snapshot.{Snapshot}
use Rattle.xact_core.specs.Transactions.{Transactions}
use Rattle.row_versions.specs.Search.{finds_at}
use Rattle.row_versions.specs.Stands.{Version}
use Rattle.row_versions.specs.Store.{versions_at, GoesWith}
use Rattle.toast_chunks.specs.declared.chunks.Chunks.{Chunks}
use Rattle.toast_chunks.specs.Keys.{key_cmp, chunk_key}

-- the bytes from an offset on, as many as there are and as fit
abbrev pub slice_of : (from room : ℕ) → List ℕ → List ℕ
slice_of from room bytes = take room (drop from bytes)

-- A value is cut into chunks of 1996 bytes from 0 on, all full but the last. Of a value of no bytes there is none.
-- (Manual, TOAST.)
abbrev pub chunk_of : (number : ℕ) → List ℕ → Option (List ℕ)
chunk_of k bytes = if nat_lt (1996 * k) (length bytes) then Some (slice_of (1996 * k) 1996 bytes) else None

abbrev pub bytes_or_none : Option (List ℕ) → List ℕ
bytes_or_none None = []
bytes_or_none (Some bytes) = bytes

-- the versions of a chunk, in the order made
abbrev pub versions_of : Chunks → (value number : ℕ) → List (Version (Option (List ℕ)))
versions_of chunks n k = versions_at key_cmp chunks.versions (chunk_key n k)

-- the chunk that a view finds
abbrev pub found_at : Transactions → Snapshot → Chunks → (value number : ℕ) → Option (List ℕ)
found_at x v chunks n k = finds_at key_cmp x v chunks.versions (chunk_key n k)

abbrev pub has_chunk : Transactions → Snapshot → Chunks → (value number : ℕ) → Bool
has_chunk x v chunks n k = is_some (found_at x v chunks n k)

-- The number that the next value gets. All values so far have lower ones.
abbrev pub next_number : Chunks → ℕ
next_number chunks = chunks.next

-- A view has a value of these bytes: it finds each of its chunks and no other. With no bytes, it has no value of this number.
pub record HasValue (x : Transactions) (v : Snapshot) (chunks : Chunks) (value : ℕ) (bytes : List ℕ) : Type 0 where
  pub chunk : (k : ℕ) → found_at x v chunks value k ≡ chunk_of k bytes

-- there is no version of any chunk
pub record HasNone (chunks : Chunks) : Type 0 where
  pub none : (n k : ℕ) → versions_of chunks n k ≡ []

-- No value has a chunk of this number or a higher one, since no list has so many bytes.
abbrev pub last_place : ℕ
last_place = 9223372036854775808

-- Chunks go with their transactions. Each call needs this and keeps it, and so does each call of the transactions.
pub record GoWith (x : Transactions) (chunks : Chunks) : Type 0 where
  pub versions : GoesWith key_cmp x chunks.versions
  pub fresh : (n k : ℕ) → next_number chunks ≤ n → versions_of chunks n k ≡ []
  pub small : (n k : ℕ) → last_place ≤ k → versions_of chunks n k ≡ []

-- The front of `now` is filled with so many bytes of a value from an offset on, and the rest is as it was.
pub record FilledTo (from count : ℕ) (bytes old now : List ℕ) : Type 0 where
  pub full : length (slice_of from count bytes) ≡ count
  pub is : now ≡ slice_of from count bytes ++ drop count old
