use Rattle.std.proofs.Common.{sym, ap, ap₂, ◌∙◌, pos, rules, length}
use Rattle.std.specs.Prelude.{FitsSigned}
use Rattle.std.specs.Option.{option_map}
use Rattle.std.specs.Int.{w32}
use Rattle.std.proofs.lemmas.Int.{to_z-of_z}
use Rattle.expanded_array.specs.Array.{excess}
use Rattle.expanded_array.specs.Kept.{excess_of, flat_elements, kept_array}
use Rattle.expanded_array.proofs.ArrayLaws.{excess_is}
use Rattle.expanded_array.proofs.Places.{length_elements_in}
use Rattle.expanded_array.proofs.array_var.Kept.excess.Goals as goal

pub returns-in-Flat : goal.returns-in-Flat
returns-in-Flat c =
    let lower : FitsSigned w32 c.in-Flat.flat.lower = search rules in
    c.excess_of.ensures
    ∙ ap (λ o. option_map (λ n. pos n) o)
    (ap₂ (λ s l. excess_of s l c.in-Flat.flat.count) (to_z-of_z w32 c.args.sub c.ranges.sub) (to_z-of_z w32 c.in-Flat.flat.lower lower)
    ∙ ap (excess_of c.args.sub c.in-Flat.flat.lower) (sym (length_elements_in c.in-Flat.flat.bytes.items c.in-Flat.flat.count c.in-Flat.flat.start))
    ∙ sym (excess_is c.in-Flat.flat.lower (flat_elements c.in-Flat.flat) c.args.sub)
    ∙ ap (λ k. excess (kept_array k) c.args.sub) (sym c.in-Flat.is))

pub returns-in-Elements : goal.returns-in-Elements
returns-in-Elements c =
    let lower : FitsSigned w32 c.in-Elements.expanded.lower = search rules in
    c.excess_of-in-Elements.ensures
    ∙ ap (λ o. option_map (λ n. pos n) o)
    (ap₂ (λ s l. excess_of s l (length c.as_slice-elements.result.now)) (to_z-of_z w32 c.args.sub c.ranges.sub) (to_z-of_z w32 c.in-Elements.expanded.lower lower)
    ∙ ap (λ es. excess_of c.args.sub c.in-Elements.expanded.lower (length es)) c.as_slice-elements.ensures
    ∙ sym (excess_is c.in-Elements.expanded.lower c.in-Elements.expanded.elements c.args.sub)
    ∙ ap (λ k. excess (kept_array k) c.args.sub) (sym c.in-Elements.is))
