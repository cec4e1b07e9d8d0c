use Rattle.std.proofs.Common.{sym, ap, ◌∙◌}
use Rattle.expanded_array.specs.Layout.{array_in}
use Rattle.expanded_array.proofs.FlatLaws.{flat_holds}
use Rattle.expanded_array.proofs.law.flat_bytes_tell.Goals as goal

pub returns : goal.returns
returns c = λ a b h k e. sym (flat_holds a h) ∙ ap array_in e ∙ flat_holds b k
