-- What a pool is after one of its blocks was taken, in the words of the contracts.
use Rattle.std.proofs.Common.{◌≡◌, ◌+◌, ℕ, List, [], ◌∷◌, length, Option, Some, None, refl, arith, length-set, get_or-set_same, get_or-set_other}
use Rattle.std.specs.Prelude.{slice_set, is_some, cond}
use Rattle.std.proofs.lemmas.Grind.{common_steps}
use Rattle.std.proofs.lemmas.List.Sums.{sum_by-cons, sum_by-set}
use Rattle.block_pool.specs.Blocks.{block_at, Holds, IsFree, used_count, free_count, OnlyTouches}

pub only_touched : (pool : List (Option (List ℕ))) (block : ℕ) (held : Option (List ℕ)) → OnlyTouches block pool (slice_set pool block held)
only_touched pool block held =
    record {
      size = length-set pool block held;
      others = λ other apart. get_or-set_other pool block other held None apart;
    }

pub holds_taken : (pool : List (Option (List ℕ))) (block : ℕ) (bytes : List ℕ) → IsFree pool block → Holds (slice_set pool block (Some bytes)) block bytes
holds_taken pool block bytes free = get_or-set_same pool block (Some bytes) None free.within

-- the blocks in use keep their bytes
pub holds_still : (pool : List (Option (List ℕ))) (block : ℕ) (held : Option (List ℕ)) → IsFree pool block → (other : ℕ) (bytes : List ℕ) → Holds pool other bytes → Holds (slice_set pool block held) other bytes
holds_still pool block held free other bytes holds = grind (arith, common_steps, free.unused, get_or-set_other)

-- 1 for a block in use, 0 for a free one
abbrev pub used_one : Option (List ℕ) → ℕ
used_one held = cond (is_some held) 1 0

pub one_more_used : (pool : List (Option (List ℕ))) (block : ℕ) (bytes : List ℕ) → IsFree pool block → used_count (slice_set pool block (Some bytes)) ≡ used_count pool + 1
one_more_used pool block bytes free =
    let sum = sum_by-set used_one pool block (Some bytes) None free.within in
    let before : used_one (block_at pool block) ≡ 0 = rw free.unused refl in
    omega (arith, sum, before)

-- every block is in use or free
pub all_counted : (pool : List (Option (List ℕ))) → used_count pool + free_count pool ≡ length pool
all_counted [] = refl
all_counted (Some bytes ∷ pool) = let rest = all_counted pool in rw (sum_by-cons, sum_by-cons) (omega (arith, rest))
all_counted (None ∷ pool) = let rest = all_counted pool in rw (sum_by-cons, sum_by-cons) (omega (arith, rest))

pub one_less_free : (pool : List (Option (List ℕ))) (block : ℕ) (bytes : List ℕ) → IsFree pool block → free_count (slice_set pool block (Some bytes)) + 1 ≡ free_count pool
one_less_free pool block bytes free =
    let more = one_more_used pool block bytes free in
    let counted = all_counted pool in
    let counted_now = all_counted (slice_set pool block (Some bytes)) in
    let same = length-set pool block (Some bytes) in
    omega (arith, more, counted, counted_now, same)
