-- What contracts see of a pool: a list with an entry for each of its blocks, which is nothing where the block is free,
-- and else the bytes that it holds. A block is seen as its index in that list.
use Rattle.std.specs.Prelude.{◌≡◌, ◌≢◌, ◌<◌, ℕ, List, [], length, Option, Some, None, IsSome, is_some, is_none, count_by, slice_index_or, unwrap_or}

-- what a block holds; nothing where it is free, and where the pool has no such block
abbrev pub block_at : List (Option (List ℕ)) → ℕ → Option (List ℕ)
block_at pool block = slice_index_or pool block None

-- the bytes, and none of a free block
abbrev pub bytes_of : Option (List ℕ) → List ℕ
bytes_of held = unwrap_or held []

abbrev pub bytes_in : List (Option (List ℕ)) → ℕ → List ℕ
bytes_in pool block = bytes_of (block_at pool block)

-- the block is in use, with just these bytes
abbrev pub Holds : List (Option (List ℕ)) → ℕ → List ℕ → Type 0
Holds pool block bytes = block_at pool block ≡ Some bytes

abbrev pub IsInUse : List (Option (List ℕ)) → ℕ → Type 0
IsInUse pool block = IsSome (block_at pool block)

-- the pool has the block, and it is not in use
pub record IsFree (pool : List (Option (List ℕ))) (block : ℕ) : Type 0 where
  pub within : block < length pool
  pub unused : block_at pool block ≡ None

abbrev pub used_count : List (Option (List ℕ)) → ℕ
used_count pool = count_by is_some pool

abbrev pub free_count : List (Option (List ℕ)) → ℕ
free_count pool = count_by is_none pool

-- every other block is in use or free as before, and holds what it held
pub record OnlyTouches (block : ℕ) (old new : List (Option (List ℕ))) : Type 0 where
  pub size : length new ≡ length old
  pub others : (other : ℕ) → other ≢ block → block_at new other ≡ block_at old other
