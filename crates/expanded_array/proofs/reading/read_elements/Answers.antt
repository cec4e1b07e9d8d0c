use Rattle.std.proofs.Common.{◌∷◌, sym, ap, subst, ◌∙◌, length, ◌<◌}
use Rattle.std.specs.Prelude.{IfSome}
use Rattle.std.specs.Option.{option_copied}
use Rattle.expanded_array.specs.Spelling.{SpellsElements, HasRead, parts_behind}
use Rattle.expanded_array.proofs.SpellingLaws.{read_bad, read_last, read_more}
use Rattle.expanded_array.proofs.reading.read_elements.Goals as goal

pub returns-in_default : goal.returns-in_default
returns-in_default c =
    read_bad c.args.body.now c.loop-element.rest.now c.split_comma.result.0.now (parts_behind (option_copied c.split_comma.result.1)) c.loop-element.elements.items c.loop-element.invariant c.split_comma.ensures.parts c.in_default.ensures.none

pub returns-in_default-behind : goal.returns-in_default-behind
returns-in_default-behind c =
    subst (λ es. SpellsElements c.args.body.now es) (sym c.in_ok-push.ensures.items)
    (read_last c.args.body.now c.loop-element.rest.now c.split_comma.result.0.now c.loop-element.elements.items c.in-Some.element c.loop-element.invariant
    (c.split_comma.ensures.parts ∙ ap (λ o. c.split_comma.result.0.now ∷ parts_behind (option_copied o)) c.in_default-behind.is)
    c.in-Some.ensures.found)

pub loop-element-smaller : goal.loop-element-smaller
loop-element-smaller c = subst (λ o. IfSome o (λ b. length b.now < length c.loop-element.rest.now)) c.in-Some-behind.is c.split_comma.ensures.shorter

pub loop-element-preserved : goal.loop-element-preserved
loop-element-preserved c =
    subst (λ es. HasRead c.args.body.now c.in-Some-behind.more.now es) (sym c.in_ok-push.ensures.items)
    (read_more c.args.body.now c.loop-element.rest.now c.split_comma.result.0.now c.in-Some-behind.more.now c.loop-element.elements.items c.in-Some.element c.loop-element.invariant
    (c.split_comma.ensures.parts ∙ ap (λ o. c.split_comma.result.0.now ∷ parts_behind (option_copied o)) c.in-Some-behind.is)
    c.in-Some.ensures.found)
