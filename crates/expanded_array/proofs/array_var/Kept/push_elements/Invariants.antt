use Rattle.std.proofs.Common.{◌≡◌, drop}
use Rattle.expanded_array.specs.Array.{elements_of}
use Rattle.expanded_array.specs.Kept.{kept_array, kept_place}
use Rattle.expanded_array.specs.Text.{IsAhead, left_text, joined}
use Rattle.expanded_array.proofs.array_var.Kept.push_elements.Given as goal

abbrev pub invariant-loop-index : goal.invariant-loop-index
invariant-loop-index l =
    (l.place ≡ kept_place l.self l.index)
    × IsAhead l.fn.out l.out (left_text l.index (drop l.index (elements_of (kept_array l.self)))) (joined (elements_of (kept_array l.self)))
