-- How the rooms of a pool, followed by blocks that were never taken, stand for its blocks.
use Rattle.std.proofs.Common.{◌≡◌, ◌<◌, ◌≤◌, ◌-◌, ℕ, suc, zero, List, [], ◌∷◌, ◌++◌, length, replicate, Option, None, refl, sym, ◌∙◌, arith, append_assoc, length-set, length-append}
use Rattle.std.specs.Prelude.{slice_set}
use Rattle.std.proofs.lemmas.Grind.{common_steps}
use Rattle.std.proofs.lemmas.List.{length-replicate, get_or_append_left, get_or-append_right, get_or-replicate, set-append_left, length_push}
use Rattle.std.proofs.lemmas.List.Sums.{sum_by-cons, sum_by-append}
use Rattle.block_pool.specs.Blocks.{IsInUse, IsFree, used_count}
use Rattle.block_pool.specs.Rooms.{all_blocks}

none_used : (count : ℕ) → used_count (replicate count None) ≡ 0
none_used zero = refl
none_used (suc count) = let none = none_used count in rw sum_by-cons (omega (arith, none))

pub used_all : (size : ℕ) (rooms : List (Option (List ℕ))) → used_count (all_blocks size rooms) ≡ used_count rooms
used_all size rooms = let none = none_used (size - length rooms) in rw sum_by-append (omega (arith, none))

pub length_all : (size : ℕ) (rooms : List (Option (List ℕ))) → length rooms ≤ size → length (all_blocks size rooms) ≡ size
length_all size rooms within = rw (length-append, length-replicate) (omega arith)

pub set_all : (size : ℕ) (rooms : List (Option (List ℕ))) (block : ℕ) (held : Option (List ℕ)) → block < length rooms → all_blocks size (slice_set rooms block held) ≡ slice_set (all_blocks size rooms) block held
set_all size rooms block held within = rw length-set (sym (set-append_left rooms _ block held within))

-- a block in use has a room
pub used_within : (size : ℕ) (rooms : List (Option (List ℕ))) (block : ℕ) → IsInUse (all_blocks size rooms) block → block < length rooms
used_within size rooms block used = grind (arith, common_steps, used)

pub free_all : (size : ℕ) (rooms : List (Option (List ℕ))) (block : ℕ) → length rooms ≤ size → IsFree rooms block → IsFree (all_blocks size rooms) block
free_all size rooms block within free =
    let all = length_all size rooms within in
    record {
      within = omega (arith, all, within, free.within);
      unused = get_or_append_left rooms _ None block free.within ∙ free.unused;
    }

-- the first block that has no room
pub next_free : (size : ℕ) (rooms : List (Option (List ℕ))) → length rooms < size → IsFree (all_blocks size rooms) (length rooms)
next_free size rooms below =
    let all = length_all size rooms (omega arith) in
    let there = get_or-replicate (size - length rooms) (length rooms - length rooms) None None (omega arith) in
    record {
      within = omega (arith, all);
      unused = get_or-append_right rooms _ (length rooms) (length rooms) None refl (omega arith) ∙ there;
    }

-- a free room more stands for the same blocks
push_all : (size : ℕ) (rooms : List (Option (List ℕ))) → length rooms < size → all_blocks size (rooms ++ None ∷ []) ≡ all_blocks size rooms
push_all size rooms below =
    let one_less : size - length rooms ≡ suc (size - length (rooms ++ None ∷ [])) = rw length_push (omega arith) in
    rw (one_less, append_assoc) refl

-- a free room more that is filled at once
pub set_next : (size : ℕ) (rooms opened : List (Option (List ℕ))) (held : Option (List ℕ)) → opened ≡ rooms ++ None ∷ [] → length rooms < size → all_blocks size (slice_set opened (length rooms) held) ≡ slice_set (all_blocks size rooms) (length rooms) held
set_next size rooms opened held items below =
    rw (items, set_all size (rooms ++ None ∷ []) (length rooms) held (rw length_push (omega arith)), push_all size rooms below) refl
