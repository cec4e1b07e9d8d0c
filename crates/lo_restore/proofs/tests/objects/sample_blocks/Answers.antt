use Rattle.std.proofs.Common.{ℕ, List, [], ◌∷◌, ◌++◌, ap₂, ◌∙◌}
use Rattle.lo_restore.proofs.tests.objects.sample_blocks.Goals as goal

pub returns : goal.returns
returns c =
    let first = c.in_ok-push.ensures.ok ∙ ap₂ (λ (blocks : List (ℕ × List ℕ)) (bytes : List ℕ). blocks ++ (1, bytes) ∷ []) c.new-blocks.ensures c.in_ok-fill.ensures in
    c.in_ok-push-2.ensures.ok ∙ ap₂ (λ (blocks : List (ℕ × List ℕ)) (bytes : List ℕ). blocks ++ (3, bytes) ∷ []) first c.in_ok-fill-2.ensures
