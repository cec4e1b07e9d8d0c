use Rattle.std.proofs.Common.{◌≡◌, ◌-◌}
use Rattle.lo_image.specs.Readers.{with_front, made, many}
use Rattle.lo_image.specs.Reading.{chunk_at, after_chunk, joined_pieces, value_at}
use Rattle.lo_image.proofs.values.value_at.Given as goal

abbrev pub invariant-loop : goal.invariant-loop
invariant-loop l = (with_front l.found (made joined_pieces (many (chunk_at l.value) after_chunk l.place (l.count - l.counter)) l.rest) ≡ value_at l.value l.fn.length l.fn.bytes) × (l.place.number ≡ l.counter)
