use Rattle.toast_chunks.specs.Keys.{chunk_key}
use Rattle.toast_chunks.proofs.Vacuuming.{empty_goes}
use Rattle.toast_chunks.proofs.chunks.Chunks.new.Goals as goal

pub returns-clause-none : goal.returns-clause-none
returns-clause-none c = record { none = λ n k. c.in_ok-new.ensures.empty (chunk_key n k) }

pub returns-clause-goes : goal.returns-clause-goes
returns-clause-goes c x = empty_goes x _ c.in_ok-new.ensures.empty (c.in_ok-new.ensures.goes x)
