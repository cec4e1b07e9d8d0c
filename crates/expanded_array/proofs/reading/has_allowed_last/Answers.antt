use Rattle.std.proofs.Common.{◌≡◌, sym, subst, arith, pos}
use Rattle.std.specs.Prelude.{◌≤ℤ◌, ◌+ℤ◌, ◌-ℤ◌}
use Rattle.std.specs.Int.{w64, cast_signed, cast_unsigned}
use Rattle.std.proofs.lemmas.Int.{ints}
use Rattle.expanded_array.specs.Array.{last_of, last_limit}
use Rattle.expanded_array.proofs.FlatLaws.{le_tells, tells_le}
use Rattle.expanded_array.proofs.reading.has_allowed_last.Goals as goal

pub returns : goal.returns
returns c =
    let last : cast_signed w64 (cast_unsigned w64 (cast_signed w64 (cast_unsigned w64 (cast_signed w64 (cast_unsigned w64 c.from.result) +ℤ cast_signed w64 c.args.count)) -ℤ pos 1)) ≡ last_of c.args.lower c.args.count = omega (arith, ints) in
    (λ t. subst (λ z. z ≤ℤ last_limit) last (tells_le _ _ t), λ h. le_tells _ _ (subst (λ z. z ≤ℤ last_limit) (sym last) h))
