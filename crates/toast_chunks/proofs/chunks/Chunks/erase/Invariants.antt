use Rattle.std.specs.Prelude.{◌-◌}
use Rattle.toast_chunks.specs.Calls.{Erasing}
use Rattle.toast_chunks.specs.Values.{last_place}
use Rattle.toast_chunks.proofs.chunks.Chunks.erase.Given as goal

abbrev pub decreases-loop-s : goal.decreases-loop-s
decreases-loop-s l = last_place - l.number

abbrev pub invariant-loop-s : goal.invariant-loop-s
invariant-loop-s l = Erasing l.core.xacts l.s l.value l.number l.fn.self l.self
