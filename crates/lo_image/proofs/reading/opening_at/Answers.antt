use Rattle.std.proofs.Common.{arith}
use Rattle.lo_image.proofs.ImageLaws.{image_takes}
use Rattle.lo_image.proofs.reading.opening_at.Goals as goal

pub invariant_of-result : goal.invariant_of-result
invariant_of-result c = (image_takes c.args.bytes.now _ (λ i. omega (arith, c.type_inv.bytes i)) c.in_ok-parts.ensures).1
