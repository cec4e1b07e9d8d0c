use Rattle.std.proofs.Common.{sym, ap₂, ◌∙◌, rules}
use Rattle.std.specs.Prelude.{FitsSigned}
use Rattle.std.specs.Int.{w32}
use Rattle.std.proofs.lemmas.Int.{to_z-of_z}
use Rattle.expanded_array.specs.Array.{index_in}
use Rattle.expanded_array.specs.Kept.{flat_elements}
use Rattle.expanded_array.proofs.ArrayLaws.{element_outside, element_inside}
use Rattle.expanded_array.proofs.Places.{length_elements_in}
use Rattle.expanded_array.proofs.flat_array.FlatArray.get.Goals as goal

pub returns-in_err-index : goal.returns-in_err-index
returns-in_err-index c =
    let lower : FitsSigned w32 c.args.self.now.lower = search rules in
    c.from_residual.ensures
    ∙ sym (element_outside c.args.self.now.lower (flat_elements c.args.self.now) c.args.sub c.args.self.now.count
    (sym (length_elements_in c.args.self.now.bytes.items c.args.self.now.count c.args.self.now.start))
    (sym (ap₂ (λ s l. index_in s l c.args.self.now.count) (to_z-of_z w32 c.args.sub c.ranges.sub) (to_z-of_z w32 c.args.self.now.lower lower)) ∙ sym (c.in_err-index.ensures)))

pub returns : goal.returns
returns c =
    let lower : FitsSigned w32 c.args.self.now.lower = search rules in
    c.element.ensures
    ∙ sym (element_inside c.args.self.now.lower (flat_elements c.args.self.now) c.args.sub c.args.self.now.count c.in_ok-index.index
    (sym (length_elements_in c.args.self.now.bytes.items c.args.self.now.count c.args.self.now.start))
    (sym (ap₂ (λ s l. index_in s l c.args.self.now.count) (to_z-of_z w32 c.args.sub c.ranges.sub) (to_z-of_z w32 c.args.self.now.lower lower)) ∙ sym (c.in_ok-index.ensures)))
