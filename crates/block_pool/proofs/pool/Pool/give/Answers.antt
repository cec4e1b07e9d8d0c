use Rattle.block_pool.proofs.RoomsAsBlocks.{set_all, used_within}
use Rattle.block_pool.proofs.pool.Pool.give.Goals as goal

pub returns-clause-given : goal.returns-clause-given
returns-clause-given c =
    let used = rw (← c.self.view_is, ← c.block.view_is) at c.requires in
    let within = used_within c.self.inside.size c.self.inside.rooms.items c.block.inside.index used in
    rw (← c.self.view_is, ← c.block.view_is, c.clear.ensures) (set_all c.self.inside.size c.self.inside.rooms.items c.block.inside.index _ within)
