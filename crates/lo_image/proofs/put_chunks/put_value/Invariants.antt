use Rattle.std.proofs.Common.{◌-◌}
use Rattle.lo_image.specs.Writing.{written, HasLeft}
use Rattle.lo_image.specs.Image.{chunks_form, value_form}
use Rattle.lo_image.proofs.put_chunks.put_value.Given as goal

abbrev pub invariant-loop-number : goal.invariant-loop-number
invariant-loop-number g l = HasLeft (written g.F.Files l.initial.files l.initial.buffer) (written g.F.Files l.files l.buffer) l.name (value_form l.value l.bytes) (chunks_form l.value (l.count - l.number) l.number l.rest)
