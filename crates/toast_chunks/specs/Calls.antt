-- What the calls do to chunks, chunk by chunk.
use Rattle.std.specs.Prelude.{◌≡◌, ◌≢◌, ◌≤◌, ◌<◌, ◌+◌, ℕ, true, List, [], ◌∷◌, ◌++◌, Option, Some, None}
use Rattle.xact_core.specs.Kept.{current, kept_views}
use Rattle.xact_core.specs.Transactions.{Transactions}
use Rattle.row_versions.specs.Found.{is_erasure}
use Rattle.row_versions.specs.Stack.{Each}
use Rattle.row_versions.specs.Stands.{Version, AddsOwn, IsNew, standing, lowest_other, vacuumed}
use Rattle.row_versions.specs.Vacuum.{FoundUnlessErasure}
use Rattle.toast_chunks.specs.declared.chunks.Chunks.{Chunks}
use Rattle.toast_chunks.specs.Values.{GoWith, chunk_of, has_chunk, next_number, versions_of}

-- One chunk has a version more, which the session makes now.
pub record AddsOne (x : Transactions) (s : ℕ) (content : Option (List ℕ)) (old new : List (Version (Option (List ℕ)))) : Type 0 where
  pub version : Version (Option (List ℕ))
  pub is_new : IsNew x s version
  pub deed_is : version.deed ≡ content
  pub is : new ≡ old ++ version ∷ []

-- a chunk is put, where there is one
abbrev pub Puts : Transactions → (session : ℕ) → Option (List ℕ) → (old new : List (Version (Option (List ℕ)))) → Type 0
Puts x s None old new = new ≡ old
Puts x s (Some bytes) old new = AddsOne x s (Some bytes) old new

-- a chunk is erased, where there is one
abbrev pub Takes : Transactions → (session : ℕ) → Option (List ℕ) → (old new : List (Version (Option (List ℕ)))) → Type 0
Takes x s None old new = new ≡ old
Takes x s (Some bytes) old new = AddsOne x s None old new

-- A value was stored under the next number, of which no chunk had a version. No other value changes.
pub record Stores (x : Transactions) (s : ℕ) (bytes : List ℕ) (old new : Chunks) (value : ℕ) : Type 0 where
  pub number : value ≡ next_number old
  pub next : next_number new ≡ value + 1
  pub fresh : (k : ℕ) → versions_of old value k ≡ []
  pub here : (k : ℕ) → Puts x s (chunk_of k bytes) (versions_of old value k) (versions_of new value k)
  pub others : (n k : ℕ) → n ≢ value → versions_of new n k ≡ versions_of old n k

-- A value of these bytes was erased. No other value changes.
pub record Erases (x : Transactions) (s value : ℕ) (bytes : List ℕ) (old new : Chunks) : Type 0 where
  pub next : next_number new ≡ next_number old
  pub here : (k : ℕ) → Takes x s (chunk_of k bytes) (versions_of old value k) (versions_of new value k)
  pub others : (n k : ℕ) → n ≢ value → versions_of new n k ≡ versions_of old n k

-- no value but one changes, and no number is given
pub record ChangesOnly (value : ℕ) (old new : Chunks) : Type 0 where
  pub next : next_number new ≡ next_number old
  pub others : (n k : ℕ) → n ≢ value → versions_of new n k ≡ versions_of old n k

-- no other session has an open put or erasure of a value's chunks
pub record IsFree (x : Transactions) (s : ℕ) (chunks : Chunks) (value : ℕ) : Type 0 where
  pub chunk : (k : ℕ) → lowest_other s (standing x (versions_of chunks value k)) ≡ None

-- What a call leaves, whatever it answers: beside what was there, versions of the session's top level and the present clock.
-- No number is given twice.
pub record LeavesOwn (x : Transactions) (s : ℕ) (old new : Chunks) : Type 0 where
  pub adds : (n k : ℕ) → AddsOwn x s (versions_of old n k) (versions_of new n k)
  pub next : next_number old ≤ next_number new

-- Of each chunk the same versions stand, the rest having been undone.
pub record StandsAlike (x : Transactions) (old new : Chunks) : Type 0 where
  pub chunk : (n k : ℕ) → standing x (versions_of new n k) ≡ standing x (versions_of old n k)

-- a vacuum has taken from each chunk what no kept view needs
pub record Vacuums (x : Transactions) (old new : Chunks) : Type 0 where
  pub chunk : (n k : ℕ) → versions_of new n k ≡ vacuumed is_erasure x (versions_of old n k)
  pub next : next_number new ≡ next_number old

-- each chunk that is left is found by some kept view
pub record LeavesFound (x : Transactions) (old new : Chunks) : Type 0 where
  pub chunk : (n k : ℕ) → Each (FoundUnlessErasure is_erasure (kept_views x) (standing x (versions_of old n k))) (standing x (versions_of new n k))

-- The steps of bodies.

-- one chunk of one value has a version more, and no other changes
pub record ChangesChunk (x : Transactions) (s n k : ℕ) (content : Option (List ℕ)) (old new : Chunks) : Type 0 where
  pub next : next_number new ≡ next_number old
  pub here : AddsOne x s content (versions_of old n k) (versions_of new n k)
  pub others : (m j : ℕ) → (m ≡ n → j ≡ k → ⊥) → versions_of new m j ≡ versions_of old m j

-- all chunks of a value are put
pub record StoresAll (x : Transactions) (s value : ℕ) (bytes : List ℕ) (old new : Chunks) : Type 0 where
  pub next : next_number new ≡ next_number old
  pub here : (k : ℕ) → Puts x s (chunk_of k bytes) (versions_of old value k) (versions_of new value k)
  pub others : (n k : ℕ) → n ≢ value → versions_of new n k ≡ versions_of old n k

-- the chunks of a value below one are put
pub record Storing (x : Transactions) (s value : ℕ) (bytes : List ℕ) (i : ℕ) (old new : Chunks) : Type 0 where
  pub next : next_number new ≡ next_number old
  pub done : (k : ℕ) → k < i → Puts x s (chunk_of k bytes) (versions_of old value k) (versions_of new value k)
  pub rest : (k : ℕ) → i ≤ k → versions_of new value k ≡ versions_of old value k
  pub others : (n k : ℕ) → n ≢ value → versions_of new n k ≡ versions_of old n k
  pub left : LeavesOwn x s old new
  pub goes : GoWith x new

-- the chunks of a value below one are erased, each of which the session found
pub record Erasing (x : Transactions) (s value i : ℕ) (old new : Chunks) : Type 0 where
  pub next : next_number new ≡ next_number old
  pub found : (k : ℕ) → k < i → has_chunk x (current x s) old value k ≡ true
  pub done : (k : ℕ) → k < i → AddsOne x s None (versions_of old value k) (versions_of new value k)
  pub rest : (k : ℕ) → i ≤ k → versions_of new value k ≡ versions_of old value k
  pub others : (n k : ℕ) → n ≢ value → versions_of new n k ≡ versions_of old n k
  pub left : LeavesOwn x s old new
  pub goes : GoWith x new
