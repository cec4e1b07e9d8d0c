-- That the list of the blocks that were given back has each free room just once, and no other, through every `take`.
use Rattle.std.proofs.Common.{◌≡◌, ◌≢◌, ◌<◌, ◌≤◌, ◌+◌, ℕ, suc, zero, ◌⊎◌, inl, inr, List, [], ◌∷◌, ◌++◌, length, Option, Some, None, refl, ◌∙◌, arith, append-nil, length-set, get_or-set_same, get_or-set_other}
use Rattle.std.specs.Prelude.{Vec, vec_capacity, slice_set, is_none, ◌==◌, if◌then◌else◌}
use Rattle.std.specs.Vec.{with_item}
use Rattle.std.specs.declared.alloc.Global.{Global}
use Rattle.std.proofs.lemmas.Bool.{cases_eq}
use Rattle.std.proofs.lemmas.Bool.Decides.{nat_tests}
use Rattle.std.proofs.lemmas.List.{get_or_default, set_at, length_push}
use Rattle.std.proofs.lemmas.List.Sums.{sum_by_push}
use Rattle.block_pool.specs.Blocks.{IsFree, free_count}
use Rattle.block_pool.specs.Rooms.{all_blocks, times, free_at, IsKept}
use Rattle.block_pool.proofs.RoomsAsBlocks.{used_all, length_all}
use Rattle.block_pool.proofs.TakeAndGive.{used_one, one_more_used, all_counted}

free_room : (rooms : List (Option (List ℕ))) (index : ℕ) → 1 ≤ free_at rooms index → IsFree rooms index
free_room [] index free = absurd (omega (arith, free))
free_room (None ∷ rooms) zero free = record { within = omega arith; unused = refl }
free_room (Some bytes ∷ rooms) zero free = absurd (omega (arith, free))
free_room (held ∷ rooms) (suc index) free =
    let rest = free_room rooms index free in record { within = omega (arith, rest.within); unused = rest.unused }

free_at-free : (rooms : List (Option (List ℕ))) (index : ℕ) → IsFree rooms index → free_at rooms index ≡ 1
free_at-free rooms index free = rw (get_or_default rooms index (Some []) None free.within, free.unused) refl

free_at-set_same : (rooms : List (Option (List ℕ))) (index : ℕ) (held : Option (List ℕ)) → index < length rooms → free_at (slice_set rooms index held) index ≡ (if is_none held then 1 else 0)
free_at-set_same rooms index held within = rw (get_or-set_same rooms index held (Some []) within) refl

free_at-set_other : (rooms : List (Option (List ℕ))) (index other : ℕ) (held : Option (List ℕ)) → other ≢ index → free_at (slice_set rooms index held) other ≡ free_at rooms other
free_at-set_other rooms index other held apart = rw (get_or-set_other rooms index other held (Some []) apart) refl

free_at-used : (rooms : List (Option (List ℕ))) (bytes : List ℕ) (index : ℕ) → free_at (rooms ++ Some bytes ∷ []) index ≡ free_at rooms index
free_at-used [] bytes zero = refl
free_at-used [] bytes (suc index) = refl
free_at-used (held ∷ rooms) bytes zero = refl
free_at-used (held ∷ rooms) bytes (suc index) = free_at-used rooms bytes index

times-push : (index other : ℕ) (indices : List ℕ) → times index (indices ++ other ∷ []) ≡ times index indices + (if index == other then 1 else 0)
times-push index other indices = sum_by_push _ indices other

listed_free : (rooms : List (Option (List ℕ))) (front : List ℕ) (index : ℕ) → times index (front ++ index ∷ []) ≡ free_at rooms index → IsFree rooms index
listed_free rooms front index listed =
    let more = times-push index index front in free_room rooms index (grind (arith, nat_tests, listed, more))

listed_taken : (rooms : List (Option (List ℕ))) (front : List ℕ) (index : ℕ) (bytes : List ℕ) → IsFree rooms index → (other : ℕ) → times other (front ++ index ∷ []) ≡ free_at rooms other → (other ≡ index) ⊎ (other ≢ index) → times other front ≡ free_at (slice_set rooms index (Some bytes)) other
listed_taken rooms front index bytes free other listed (inl same) =
    let more = times-push other index front in
    let was = free_at-free rooms index free in
    let now = free_at-set_same rooms index (Some bytes) free.within in
    grind (arith, nat_tests, same, more, listed, was, now)
listed_taken rooms front index bytes free other listed (inr apart) =
    let more = times-push other index front in
    let now = free_at-set_other rooms index other (Some bytes) apart in
    grind (arith, nat_tests, apart, more, listed, now)

-- the block that was given back last is free
pub last_free : (size : ℕ) (rooms : Vec (Option (List ℕ)) Global) (returned : Vec ℕ Global) (front : List ℕ) (index : ℕ) → IsKept size rooms returned → returned.items ≡ front ++ index ∷ [] → IsFree rooms.items index
last_free size rooms returned front index kept items = listed_free rooms.items front index (rw items at kept.listed index)

-- the block that was given back last is taken
pub kept_last : (size : ℕ) (rooms : Vec (Option (List ℕ)) Global) (returned front : Vec ℕ Global) (index : ℕ) (bytes : List ℕ) → IsKept size rooms returned → returned.items ≡ front.items ++ index ∷ [] → vec_capacity front ≡ vec_capacity returned → IsKept size (with_item rooms index (Some bytes)) front
kept_last size rooms returned front index bytes kept items capacity =
    let listed = rw items at kept.listed in
    let free = last_free size rooms returned front.items index kept items in
    let one_less : length returned.items ≡ length front.items + 1 = rw (items, length_push) refl in
    let one_more = one_more_used rooms.items index bytes free in
    record {
      rooms_fit = kept.rooms_fit;
      returned_fit = omega (arith, capacity, kept.returned_fit);
      within = rw length-set kept.within;
      count = rw length-set (omega (arith, kept.count, one_less, one_more));
      listed = λ other. listed_taken rooms.items front.items index bytes free other (listed other) (cases_eq other index);
    }

-- a room more is opened and taken
pub kept_next : (size : ℕ) (rooms opened : Vec (Option (List ℕ)) Global) (returned left : Vec ℕ Global) (bytes : List ℕ) → IsKept size rooms returned → opened.items ≡ rooms.items ++ None ∷ [] → vec_capacity opened ≡ vec_capacity rooms → returned.items ≡ left.items ++ [] → vec_capacity left ≡ vec_capacity returned → length rooms.items < size → IsKept size (with_item opened (length rooms.items) (Some bytes)) left
kept_next size rooms opened returned left bytes kept items rooms_capacity left_items left_capacity below =
    let there : slice_set opened.items (length rooms.items) (Some bytes) ≡ rooms.items ++ Some bytes ∷ [] = rw (items, set_at rooms.items None [] (Some bytes) (length rooms.items) refl) refl in
    let one_more = sum_by_push used_one rooms.items (Some bytes) in
    let same : returned.items ≡ left.items = left_items ∙ append-nil left.items in
    let count = rw same at kept.count in
    let listed = rw same at kept.listed in
    record {
      rooms_fit = omega (arith, rooms_capacity, kept.rooms_fit);
      returned_fit = omega (arith, left_capacity, kept.returned_fit);
      within = rw (there, length_push) (omega arith);
      count = rw (there, length_push) (omega (arith, count, one_more));
      listed = λ index. rw (there, free_at-used rooms.items bytes index) (listed index);
    }

-- none is listed and each block has a room
pub none_free : (size : ℕ) (rooms : Vec (Option (List ℕ)) Global) (returned : Vec ℕ Global) → IsKept size rooms returned → length returned.items ≡ 0 → length rooms.items ≡ size → free_count (all_blocks size rooms.items) ≡ 0
none_free size rooms returned kept empty whole =
    let counted = all_counted (all_blocks size rooms.items) in
    let used = used_all size rooms.items in
    let all = length_all size rooms.items kept.within in
    omega (arith, counted, used, all, empty, whole, kept.count)
