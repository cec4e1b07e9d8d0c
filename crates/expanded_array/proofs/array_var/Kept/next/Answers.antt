use Rattle.std.proofs.Common.{◌≡◌, sym, ap, ◌∙◌, length, get_or, None, arith}
use Rattle.expanded_array.specs.Array.{elements_of}
use Rattle.expanded_array.specs.Kept.{kept_array, flat_elements}
use Rattle.expanded_array.proofs.ArrayLaws.{elements_of_array}
use Rattle.expanded_array.proofs.Places.{length_elements_in}
use Rattle.expanded_array.proofs.array_var.Kept.next.Goals as goal

pub next-requires-clause-within : goal.next-requires-clause-within
next-requires-clause-within c =
    let len : length (elements_of (kept_array c.args.self.now)) ≡ c.in-Flat.flat.count = ap (λ k. length (elements_of (kept_array k))) c.in-Flat.is
    ∙ ap length (elements_of_array c.in-Flat.flat.lower (flat_elements c.in-Flat.flat))
    ∙ length_elements_in c.in-Flat.flat.bytes.items c.in-Flat.flat.count c.in-Flat.flat.start in
    omega (arith, len, c.requires.within)

pub returns-in-Flat-clause-element : goal.returns-in-Flat-clause-element
returns-in-Flat-clause-element c =
    c.next.ensures.element
    ∙ ap (λ es. get_or es c.args.index None) (sym (ap (λ k. elements_of (kept_array k)) c.in-Flat.is ∙ elements_of_array c.in-Flat.flat.lower (flat_elements c.in-Flat.flat)))
