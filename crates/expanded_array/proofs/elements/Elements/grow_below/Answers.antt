use Rattle.std.proofs.Common.{◌+◌, length, arith}
use Rattle.expanded_array.proofs.Growing.{below_is, below_free}
use Rattle.expanded_array.proofs.elements.Elements.grow_below.Goals as goal

pub invariant_of-drop : goal.invariant_of-drop
invariant_of-drop c =
    let free = c.args.below + length c.as_slice.result.now in
    below_free c.in_ok-items.items.items c.args.self.now (free + c.args.below) c.args.below free c.args.value c.in_ok-items.ensures (omega arith)

pub returns-clause-ok : goal.returns-clause-ok
returns-clause-ok c =
    let free = c.args.below + length c.as_slice.result.now in
    below_is c.in_ok-items.items.items c.args.self.now (free + c.args.below) c.args.below free c.args.value c.in_ok-items.ensures c.requires.below (omega arith)
