use Rattle.std.proofs.Common.{sym, ap, ◌∙◌}
use Rattle.std.specs.Int.{w32}
use Rattle.std.proofs.lemmas.Int.{to_z-of_z}
use Rattle.expanded_array.specs.Array.{excess}
use Rattle.expanded_array.specs.Kept.{kept_array}
use Rattle.expanded_array.proofs.ArrayLaws.{map_none, on_ok_always}
use Rattle.expanded_array.proofs.array_var.ArrayVar.set.Goals as goal

pub returns-clause-fits : goal.returns-clause-fits
returns-clause-fits c =
    on_ok_always c.match-set.result
    (ap (λ a. excess a c.args.sub) (sym c.self.view_is)
    ∙ sym (ap (excess (kept_array c.self.inside.kept)) (to_z-of_z w32 c.args.sub c.ranges.sub))
    ∙ map_none _ c.in_default.ensures)
