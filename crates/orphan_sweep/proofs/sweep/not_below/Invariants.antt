use Rattle.std.proofs.Common.{◌≡◌, drop}
use Rattle.orphan_sweep.specs.Place.{not_below}
use Rattle.orphan_sweep.proofs.sweep.not_below.Given as goal

abbrev pub invariant-loop-at : goal.invariant-loop-at
invariant-loop-at l = not_below l.least (drop l.at l.numbers) ≡ not_below l.least l.numbers
