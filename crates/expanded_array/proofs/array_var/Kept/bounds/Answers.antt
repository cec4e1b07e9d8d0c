use Rattle.std.proofs.Common.{◌≡◌, sym, ap, ◌∙◌, length, arith, rules}
use Rattle.std.specs.Prelude.{FitsSigned}
use Rattle.std.specs.Int.{w32}
use Rattle.std.proofs.lemmas.Int.{to_z-of_z}
use Rattle.expanded_array.specs.Array.{Bounded, elements_of}
use Rattle.expanded_array.specs.Kept.{kept_array, flat_elements}
use Rattle.expanded_array.proofs.ArrayLaws.{elements_of_array, bounded_array}
use Rattle.expanded_array.proofs.Places.{length_elements_in}
use Rattle.expanded_array.proofs.array_var.Kept.bounds.Goals as goal

pub returns-in-Flat-clause-count : goal.returns-in-Flat-clause-count
returns-in-Flat-clause-count c =
    sym (ap (λ k. length (elements_of (kept_array k))) c.in-Flat.is
    ∙ ap length (elements_of_array c.in-Flat.flat.lower (flat_elements c.in-Flat.flat))
    ∙ length_elements_in c.in-Flat.flat.bytes.items c.in-Flat.flat.count c.in-Flat.flat.start)

pub returns-in-Flat-clause-lower : goal.returns-in-Flat-clause-lower
returns-in-Flat-clause-lower c = λ some.
    let lower : FitsSigned w32 c.in-Flat.flat.lower = search rules in
    let len : length (flat_elements c.in-Flat.flat) ≡ c.in-Flat.flat.count = length_elements_in c.in-Flat.flat.bytes.items c.in-Flat.flat.count c.in-Flat.flat.start in
    ap kept_array c.in-Flat.is
    ∙ bounded_array c.in-Flat.flat.lower (flat_elements c.in-Flat.flat) (omega (arith, len, some))
    ∙ ap (λ k. Bounded c.in-Flat.flat.lower (elements_of (kept_array k))) (sym c.in-Flat.is)
    ∙ ap (λ l. Bounded l (elements_of (kept_array c.args.self.now))) (sym (to_z-of_z w32 c.in-Flat.flat.lower lower))
