use Rattle.orphan_sweep.proofs.Merge.{Walks}
use Rattle.orphan_sweep.proofs.sweep.take_off.Given as goal

abbrev pub invariant-loop-at : goal.invariant-loop-at
invariant-loop-at l = Walks l.fn.list.items l.list.items l.at l.kept l.coming l.initial.coming
