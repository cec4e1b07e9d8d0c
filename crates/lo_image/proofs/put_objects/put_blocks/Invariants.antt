use Rattle.std.proofs.Common.{drop}
use Rattle.lo_image.specs.Writing.{written, HasLeft}
use Rattle.lo_image.specs.Image.{blocks_form}
use Rattle.lo_image.proofs.put_objects.put_blocks.Given as goal

abbrev pub invariant-loop-block : goal.invariant-loop-block
invariant-loop-block g l = HasLeft (written g.F.Files l.initial.files l.initial.buffer) (written g.F.Files l.files l.buffer) l.name (blocks_form l.blocks) (blocks_form (drop l.block-index l.blocks))
