use Rattle.std.proofs.Common.{ℕ, pos, List, [], ◌∷◌, ◌++◌, ap, ◌∙◌}
use Rattle.lo_base.specs.declared.value.Value.{Value}
use Rattle.lo_base.specs.declared.value.Value.TheVariants.{Null, Int, Bytes}
use Rattle.lo_restore.proofs.tests.tables.long_row.Goals as goal

pub returns : goal.returns
returns c =
    c.in_ok-push.ensures.ok
    ∙ ap (λ (row : List Value). row ++ Null ∷ []) (c.in_ok-row.ensures ∙ ap (λ (bytes : List ℕ). Int (pos 0) ∷ Bytes bytes ∷ []) c.in_ok-fill.ensures)
