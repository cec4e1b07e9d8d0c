use Rattle.std.proofs.Common.{arith}
use Rattle.expanded_array.specs.Kept.{flat_flags}
use Rattle.expanded_array.proofs.Places.{present_le, length_flags_in}
use Rattle.expanded_array.proofs.flat_array.FlatArray.flat_len.Goals as goal

pub overflow_cast-result : goal.overflow_cast-result
overflow_cast-result c =
    omega (arith, c.requires.room, c.requires.near, c.requires.few, present_le (flat_flags c.args.self.now), length_flags_in c.args.self.now.bytes.items c.args.self.now.count c.args.self.now.start)
