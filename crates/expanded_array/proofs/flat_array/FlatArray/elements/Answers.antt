use Rattle.std.proofs.Common.{◌<◌, arith, sym, ap₂, ◌∙◌, ◌++◌, ◌∷◌, [], length, None}
use Rattle.std.proofs.lemmas.List.{take_more, take_all}
use Rattle.expanded_array.specs.Kept.{flat_elements}
use Rattle.expanded_array.proofs.Places.{length_elements_in}
use Rattle.expanded_array.proofs.flat_array.FlatArray.elements.Goals as goal

pub loop-index-preserved : goal.loop-index-preserved
loop-index-preserved c =
    let len : c.loop-index.index < length (flat_elements c.args.self.now) = omega (arith, length_elements_in c.args.self.now.bytes.items c.args.self.now.count c.args.self.now.start, c.loop-index-test.true) in (
      c.in_ok-push.ensures.items
          ∙ ap₂ (λ xs x. xs ++ x ∷ []) c.loop-index.invariant.0 c.next-element.ensures.element
          ∙ sym (take_more (flat_elements c.args.self.now) c.loop-index.index None len),
      c.next-element.ensures.place,
    )

pub returns : goal.returns
returns c =
    c.loop-index.invariant.0
    ∙ take_all c.loop-index.index (flat_elements c.args.self.now) (omega (arith, length_elements_in c.args.self.now.bytes.items c.args.self.now.count c.args.self.now.start, c.loop-index-test.false))
