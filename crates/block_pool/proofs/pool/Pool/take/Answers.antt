use Rattle.std.proofs.Common.{◌≡◌, ◌<◌, ◌++◌, [], ◌∷◌, length, Some, None, refl, arith, rules}
use Rattle.block_pool.specs.Blocks.{IsFree}
use Rattle.block_pool.proofs.ReturnedBlocks.{last_free, kept_last, kept_next, none_free}
use Rattle.block_pool.proofs.RoomsAsBlocks.{free_all, next_free, set_all, set_next}
use Rattle.block_pool.proofs.TakeAndGive.{only_touched, holds_taken, holds_still, one_more_used, one_less_free}
use Rattle.block_pool.proofs.pool.Pool.take.Goals as goal

pub index_mut-requires : goal.index_mut-requires
index_mut-requires c =
    let free = last_free c.self.inside.size c.self.inside.rooms c.self.inside.returned c.pop.new.self.items c.in-Some.index c.self.invariant c.in-Some.ensures.items in
    let opened : length c.self.inside.rooms.items ≡ c.self.inside.rooms.len = search rules in
    omega (arith, free.within, opened)

-- The block that was given back last.

last : (c : goal.After-self-1) → IsFree c.self.inside.rooms.items c.in-Some.index
last c =
    last_free c.self.inside.size c.self.inside.rooms c.self.inside.returned c.pop.new.self.items c.in-Some.index c.self.invariant c.in-Some.ensures.items

pub invariant_of-self : goal.invariant_of-self
invariant_of-self c =
    rw c.fill.ensures
    (kept_last c.self.inside.size c.self.inside.rooms c.self.inside.returned c.pop.new.self c.in-Some.index c.args.bytes.now c.self.invariant c.in-Some.ensures.items c.pop.ensures.capacity)

pub returns-in-Some-clause-free : goal.returns-in-Some-clause-free
returns-in-Some-clause-free c =
    rw (← c.self.view_is) (free_all c.self.inside.size c.self.inside.rooms.items c.in-Some.index c.self.invariant.within (last c))

pub returns-in-Some-clause-taken : goal.returns-in-Some-clause-taken
returns-in-Some-clause-taken c =
    let free = last c in
    rw (← c.self.view_is, c.fill.ensures) (set_all c.self.inside.size c.self.inside.rooms.items c.in-Some.index (Some c.args.bytes.now) free.within)

pub returns-in-Some-clause-holds : goal.returns-in-Some-clause-holds
returns-in-Some-clause-holds c =
    rw (returns-in-Some-clause-taken c) (holds_taken c.args.self.now c.in-Some.index c.args.bytes.now (returns-in-Some-clause-free c))

pub returns-in-Some-clause-kept : goal.returns-in-Some-clause-kept
returns-in-Some-clause-kept c =
    rw (returns-in-Some-clause-taken c) (holds_still c.args.self.now c.in-Some.index (Some c.args.bytes.now) (returns-in-Some-clause-free c))

pub returns-in-Some-clause-used : goal.returns-in-Some-clause-used
returns-in-Some-clause-used c =
    rw (returns-in-Some-clause-taken c) (one_more_used c.args.self.now c.in-Some.index c.args.bytes.now (returns-in-Some-clause-free c))

pub returns-in-Some-clause-left : goal.returns-in-Some-clause-left
returns-in-Some-clause-left c =
    rw (returns-in-Some-clause-taken c) (one_less_free c.args.self.now c.in-Some.index c.args.bytes.now (returns-in-Some-clause-free c))

pub returns-in-Some-clause-full : goal.returns-in-Some-clause-full
returns-in-Some-clause-full c =
    let less = one_less_free c.args.self.now c.in-Some.index [] (returns-in-Some-clause-free c) in
    (search rules, λ none. absurd (omega (arith, less, none)))

-- None was given back: the first block that has no room, if there is one.

pub returns-then-index-self-clause-full : goal.returns-then-index-self-clause-full
returns-then-index-self-clause-full c =
    let opened : c.len-index.result ≡ length c.self.inside.rooms.items = search rules in
    let empty : length c.self.inside.returned.items ≡ 0 = omega (arith, c.in_default.ensures.cases.0) in
    let whole : length c.self.inside.rooms.items ≡ c.self.inside.size = omega (arith, c.if-index-self.true, opened) in
    let none = none_free c.self.inside.size c.self.inside.rooms c.self.inside.returned c.self.invariant empty whole in
    rw (← c.self.view_is) (λ _. none, λ _. refl)

next : (c : goal.After-self-2-1) → c.len-index.result ≡ length c.self.inside.rooms.items
next c = search rules

below : (c : goal.After-self-2-1) → length c.self.inside.rooms.items < c.self.inside.size
below c = let at = next c in omega (arith, c.self.invariant.within, at, c.if-index-self.false)

opened : (c : goal.After-self-2-1) → c.push_reserved.new.self.items ≡ c.self.inside.rooms.items ++ None ∷ []
opened c = rw (c.push_reserved.ensures.items, c.free.ensures) refl

is_free : (c : goal.After-self-2-1) → IsFree c.args.self.now c.len-index.result
is_free c = rw (← c.self.view_is, next c) (next_free c.self.inside.size c.self.inside.rooms.items (below c))

pub invariant_of-self-2 : goal.invariant_of-self-2
invariant_of-self-2 c =
    rw (next c, c.fill-2.ensures)
    (kept_next c.self.inside.size c.self.inside.rooms c.push_reserved.new.self c.self.inside.returned c.pop.new.self c.args.bytes.now c.self.invariant (opened c) c.push_reserved.ensures.capacity c.in_default.ensures.items c.pop.ensures.capacity (below c))

pub returns-clause-taken : goal.returns-clause-taken
returns-clause-taken c =
    rw (← c.self.view_is, next c, c.fill-2.ensures)
    (set_next c.self.inside.size c.self.inside.rooms.items c.push_reserved.new.self.items (Some c.args.bytes.now) (opened c) (below c))

pub returns-clause-others : goal.returns-clause-others
returns-clause-others c = rw (returns-clause-taken c) (only_touched c.args.self.now c.len-index.result (Some c.args.bytes.now))

pub returns-clause-kept : goal.returns-clause-kept
returns-clause-kept c = rw (returns-clause-taken c) (holds_still c.args.self.now c.len-index.result (Some c.args.bytes.now) (is_free c))
