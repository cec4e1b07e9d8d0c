use Rattle.std.proofs.Common.{[], ◌∷◌, ◌++◌, ◌+◌, ◌-◌, List, ap, ap₂, ◌∙◌}
use Rattle.lo_base.specs.declared.value.Value.{Value}
use Rattle.lo_restore.specs.Tries.{pair_rows}
use Rattle.lo_restore.proofs.Samples.{one_more}
use Rattle.lo_restore.proofs.tests.tables.long_rows.Goals as goal

pub loop-id-init : goal.loop-id-init
loop-id-init c =
    let one = c.in_ok-push.ensures.ok ∙ ap₂ (λ (rows : List (List Value)) (row : List Value). rows ++ row ∷ []) c.new-rows.ensures c.in_ok-long_row.ensures in
    ap (λ (rows : List (List Value)). rows ++ pair_rows 1 300) one

pub loop-id-preserved : goal.loop-id-preserved
loop-id-preserved c =
    let at = c.loop-id in
    let more = c.in_ok-push-2.ensures.ok ∙ ap (λ (row : List Value). at.rows ++ row ∷ []) c.in_ok-pair_row.ensures in
    ap (λ (rows : List (List Value)). rows ++ pair_rows (at.id + 1) (301 - (at.id + 1))) more ∙ (one_more at.rows at.id c.loop-id-test.true ∙ at.invariant)
