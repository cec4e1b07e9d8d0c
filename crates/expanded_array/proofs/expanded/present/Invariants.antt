use Rattle.std.proofs.Common.{◌≡◌, ◌+◌, ◌*◌, ◌≤◌, length, drop}
use Rattle.expanded_array.specs.Flat.{numbers}
use Rattle.expanded_array.proofs.expanded.present.Given as goal

abbrev pub invariant-loop-element : goal.invariant-loop-element
invariant-loop-element l =
    (l.present ≤ l.element-index)
    × (4 * l.present + length (numbers (drop l.element-index l.elements)) ≡ length (numbers l.elements))
