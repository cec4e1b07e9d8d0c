use Rattle.std.specs.Prelude.{ℕ, ◌≤◌, ◌-◌, List, length}
use Rattle.toast_chunks.specs.Values.{FilledTo, HasValue}
use Rattle.toast_chunks.proofs.chunks.Chunks.slice_into.Given as goal

abbrev pub decreases-loop-done : goal.decreases-loop-done
decreases-loop-done l = length l.out - l.done

abbrev pub invariant-loop-done : goal.invariant-loop-done
invariant-loop-done l = (l.done ≤ length l.fn.out) × ((bytes : List ℕ) → HasValue l.core.xacts l.snap l.self l.value bytes → FilledTo l.from l.done bytes l.fn.out l.out)
