use Rattle.lo_image.proofs.ImageLaws.{image_injective}
use Rattle.lo_image.proofs.law.one_image.Goals as goal

pub returns : goal.returns
returns c = λ d e is-d is-e same. image_injective d e is-d is-e same
