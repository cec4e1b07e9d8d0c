use Rattle.std.proofs.Common.{◌≡◌, ◌+◌, ◌-◌, ◌^◌, min, ap, sym, ◌∙◌, arith}
use Rattle.lo_image.specs.Reading.{chunks_in_row}
use Rattle.lo_image.proofs.Loop.{none_at}
use Rattle.lo_image.proofs.values.add_row.Goals as goal

pub returns : goal.returns
returns c =
    let at = c.loop-cell in
    let none = none_at c.args.row.now at.cell-index (omega arith) in
    let few = at.invariant.1 in
    let first : at.sum ≡ min (at.sum + 0) (2 ^ 128 - 1) = omega (arith, few) in
    first ∙ ap (λ (xs : _). min (at.sum + chunks_in_row xs) (2 ^ 128 - 1)) (sym none) ∙ at.invariant.0
