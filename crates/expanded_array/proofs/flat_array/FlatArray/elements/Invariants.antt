use Rattle.std.proofs.Common.{◌≡◌, take}
use Rattle.expanded_array.specs.Kept.{flat_elements, place_of}
use Rattle.expanded_array.proofs.flat_array.FlatArray.elements.Given as goal

abbrev pub invariant-loop-index : goal.invariant-loop-index
invariant-loop-index l =
    (l.elements.items ≡ take l.index (flat_elements l.self))
    × (l.place ≡ place_of l.self l.index)
