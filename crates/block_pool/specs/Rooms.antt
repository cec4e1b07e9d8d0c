-- How a pool's rooms and its list of blocks that were given back stand for what contracts see. Callers see none of it.
use Rattle.std.specs.Prelude.{◌≡◌, ◌≤◌, ◌+◌, ◌-◌, ◌++◌, ◌==◌, ℕ, List, [], length, replicate, Option, Some, None, is_none, count_by, slice_index_or, Vec, vec_capacity, if◌then◌else◌}
use Rattle.std.specs.declared.alloc.Global.{Global}
use Rattle.block_pool.specs.Blocks.{used_count}

-- the blocks that have a room, and those after them that no call has touched yet
abbrev pub all_blocks : ℕ → List (Option (List ℕ)) → List (Option (List ℕ))
all_blocks size rooms = rooms ++ replicate (size - length rooms) None

-- how many times an index stands in a list
abbrev pub times : ℕ → List ℕ → ℕ
times index indices = count_by (λ other. index == other) indices

-- 1 for a room that is free, 0 for one in use and past the end
abbrev pub free_at : List (Option (List ℕ)) → ℕ → ℕ
free_at rooms index = (if is_none (slice_index_or rooms index (Some [])) then 1 else 0)

-- every free room is listed just once and no other is; no list needs to grow
pub record IsKept (size : ℕ) (rooms : Vec (Option (List ℕ)) Global) (returned : Vec ℕ Global) : Type 0 where
  pub rooms_fit : size ≤ vec_capacity rooms
  pub returned_fit : size ≤ vec_capacity returned
  pub within : length rooms.items ≤ size
  pub count : length returned.items + used_count rooms.items ≡ length rooms.items
  pub listed : (index : ℕ) → times index returned.items ≡ free_at rooms.items index
