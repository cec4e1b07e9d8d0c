use Rattle.std.proofs.Common.{◌≡◌, length, arith, rules}
use Rattle.block_pool.specs.Rooms.{all_blocks}
use Rattle.block_pool.proofs.RoomsAsBlocks.{used_all, length_all}
use Rattle.block_pool.proofs.TakeAndGive.{all_counted}
use Rattle.block_pool.proofs.pool.Pool.free.Goals as goal

pub returns-clause-free : goal.returns-clause-free
returns-clause-free c =
    let kept = c.self.invariant in
    let rooms = c.self.inside.rooms.items in
    let counted = all_counted (all_blocks c.self.inside.size rooms) in
    let used = used_all c.self.inside.size rooms in
    let all = length_all c.self.inside.size rooms kept.within in
    let opened : c.len.result ≡ length rooms = search rules in
    let listed : c.len-2.result ≡ length c.self.inside.returned.items = search rules in
    rw (← c.self.view_is) (omega (arith, counted, used, all, opened, listed, kept.count, kept.within))
