use Rattle.std.specs.Prelude.{◌≡◌}
use Rattle.toast_chunks.specs.Calls.{Storing}
use Rattle.toast_chunks.proofs.chunks.Chunks.put_chunks.Given as goal

abbrev pub invariant-loop-number : goal.invariant-loop-number
invariant-loop-number l = (l.core ≡ l.fn.core) × Storing l.core.xacts l.s l.value l.bytes l.number l.fn.self l.self
