use Rattle.std.proofs.Common.{◌≡◌, ◌<◌, ℕ, get_or, false}
use Rattle.expanded_array.specs.Spelling.{is_comma}
use Rattle.expanded_array.proofs.reading.split_comma.Given as goal

abbrev pub invariant-loop-index : goal.invariant-loop-index
invariant-loop-index l = (k : ℕ) → k < l.index → is_comma (get_or l.bytes k 0) ≡ false
