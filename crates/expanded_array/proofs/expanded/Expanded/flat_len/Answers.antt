use Rattle.std.proofs.Common.{◌+◌, ◌*◌, length, ap, ◌∙◌}
use Rattle.expanded_array.specs.Flat.{flat_bytes}
use Rattle.expanded_array.specs.Layout.{array_of}
use Rattle.expanded_array.proofs.Written.{flat_length}
use Rattle.expanded_array.proofs.expanded.Expanded.flat_len.Goals as goal

pub returns : goal.returns
returns c =
    ap (λ k. k + 4 * c.present-present.result) c.first_place.ensures
    ∙ flat_length c.args.self.now.lower c.as_slice-elements.result.now c.present-present.result c.present-present.ensures.len
    ∙ ap (λ es. length (flat_bytes (array_of c.args.self.now.lower es))) c.as_slice-elements.ensures
