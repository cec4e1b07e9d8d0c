use Rattle.std.proofs.Common.{arith}
use Rattle.expanded_array.specs.Layout.{flags_in}
use Rattle.expanded_array.proofs.Places.{rank_le}
use Rattle.expanded_array.proofs.flat_array.FlatArray.place_of.Goals as goal

pub overflow_mul-result : goal.overflow_mul-result
overflow_mul-result c = omega (arith, c.rank.ensures, c.requires.read.few, rank_le (flags_in c.deref.result.now c.args.self.now.count c.args.self.now.start) c.args.index)

pub overflow_add-result : goal.overflow_add-result
overflow_add-result c = omega (arith, c.rank.ensures, c.requires.read.near, c.requires.read.few, rank_le (flags_in c.deref.result.now c.args.self.now.count c.args.self.now.start) c.args.index)
