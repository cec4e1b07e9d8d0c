use Rattle.std.proofs.Common.{◌≡◌, ◌-◌}
use Rattle.lo_image.specs.Reading.{block_at, after_block, blocks_at}
use Rattle.lo_image.proofs.Loop.{HasRead}
use Rattle.lo_image.proofs.objects.blocks_at.Given as goal

abbrev pub invariant-loop : goal.invariant-loop
invariant-loop l = HasRead _ _ (block_at l.size) after_block l.place l.blocks l.count l.counter l.rest (blocks_at l.size l.held l.count l.bytes) × (l.place.left ≡ l.count - l.counter)
