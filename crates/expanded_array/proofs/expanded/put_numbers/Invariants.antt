use Rattle.std.proofs.Common.{◌≡◌, ◌+◌, ◌++◌, length, take, drop}
use Rattle.expanded_array.specs.Flat.{numbers}
use Rattle.expanded_array.proofs.expanded.put_numbers.Given as goal

abbrev pub invariant-loop-element : goal.invariant-loop-element
invariant-loop-element l =
    (l.end + length (numbers (drop l.element-index l.elements)) ≡ l.place + length (numbers l.elements))
    × (take l.end l.out ++ numbers (drop l.element-index l.elements) ≡ take l.place l.fn.out ++ numbers l.elements)
