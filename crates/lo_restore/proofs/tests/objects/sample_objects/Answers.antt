use Rattle.std.proofs.Common.{List, [], ◌∷◌, ◌++◌, ap, ap₂, ◌∙◌}
use Rattle.lo_opening.specs.declared.opening.ObjectData.{ObjectData}
use Rattle.lo_restore.specs.Tries.{sample_object}
use Rattle.lo_restore.proofs.tests.objects.sample_objects.Goals as goal

pub returns : goal.returns
returns c =
    let with_blocks = c.object.ensures ∙ ap (sample_object 16384 10000) c.in_ok-sample_blocks.ensures in
    let empty = c.object-2.ensures ∙ ap (sample_object 16385 0) c.new.ensures in
    let of_zeros = c.object-3.ensures ∙ ap (sample_object 16390 5000) c.new-2.ensures in
    let one = c.in_ok-push.ensures.ok ∙ ap₂ (λ (os : List ObjectData) (o : ObjectData). os ++ o ∷ []) c.new-objects.ensures with_blocks in
    let two = c.in_ok-push-2.ensures.ok ∙ ap₂ (λ (os : List ObjectData) (o : ObjectData). os ++ o ∷ []) one empty in
    c.in_ok-push-3.ensures.ok ∙ ap₂ (λ (os : List ObjectData) (o : ObjectData). os ++ o ∷ []) two of_zeros
