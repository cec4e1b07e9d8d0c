use Rattle.std.proofs.Common.{◌≡◌, ◌+◌, ◌-◌, ◌^◌, min, ap, sym, ◌∙◌, arith}
use Rattle.lo_image.specs.Reading.{chunks_in_tables}
use Rattle.lo_image.proofs.Loop.{none_at}
use Rattle.lo_image.proofs.values.chunks_in_tables.Goals as goal

pub returns : goal.returns
returns c =
    let at = c.loop-table in
    let none = none_at c.args.tables.now at.table-index (omega arith) in
    let few = at.invariant.1 in
    let first : at.sum ≡ min (at.sum + 0) (2 ^ 128 - 1) = omega (arith, few) in
    first ∙ ap (λ (xs : _). min (at.sum + chunks_in_tables xs) (2 ^ 128 - 1)) (sym none) ∙ at.invariant.0
