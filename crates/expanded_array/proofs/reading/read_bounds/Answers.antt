use Rattle.std.proofs.Common.{◌≡◌, sym, subst, ◌∙◌, arith, rules, length}
use Rattle.std.specs.Prelude.{FitsSigned, ◌≤ℤ◌}
use Rattle.std.specs.Int.{w32}
use Rattle.std.proofs.lemmas.Bool.{false≢true}
use Rattle.std.proofs.lemmas.Int.{to_z-of_z}
use Rattle.expanded_array.specs.Array.{last_of, last_limit}
use Rattle.expanded_array.specs.Spelling.{SpellsBounds}
use Rattle.expanded_array.proofs.BodyLaws.{parts_count}
use Rattle.expanded_array.proofs.Uniqueness.{parts_one, body_elements, bounds_found, bounds_one, too_long}
use Rattle.expanded_array.proofs.reading.read_bounds.Goals as goal

pub returns-in_default-strip_brace : goal.returns-in_default-strip_brace
returns-in_default-strip_brace c = λ l es s.
    c.in_default-strip_brace.ensures.none s.body ((parts_one c.args.text.now c.in-Some.bounds.now c.in-Some.behind.now l es c.in-Some.ensures.found.whole c.in-Some.ensures.found.first s).1)

pub returns-then-count-ge4294967296 : goal.returns-then-count-ge4294967296
returns-then-count-ge4294967296 c = λ l es s.
    let are = body_elements c.args.text.now c.in-Some.bounds.now c.in-Some.behind.now c.in-Some-strip_brace.body.now l es c.in-Some.ensures.found.whole c.in-Some.ensures.found.first c.in-Some-strip_brace.ensures.found s in
    let len : length es ≡ c.count_elements-count.result = parts_count c.in-Some-strip_brace.body.now es are ∙ sym c.count_elements-count.ensures in
    too_long l (length es) (omega (arith, len, c.if-count-ge4294967296.true)) s.int4 s.last

pub returns-in_default-2 : goal.returns-in_default-2
returns-in_default-2 c = λ l es s.
    let none = rw c.in_default-2.is at c.in_ok-lower.ensures in
    let are = body_elements c.args.text.now c.in-Some.bounds.now c.in-Some.behind.now c.in-Some-strip_brace.body.now l es c.in-Some.ensures.found.whole c.in-Some.ensures.found.first c.in-Some-strip_brace.ensures.found s in
    let len : length es ≡ c.count_elements-count.result = parts_count c.in-Some-strip_brace.body.now es are ∙ sym c.count_elements-count.ensures in
    none l s.int4 (subst (λ n. SpellsBounds c.in-Some.bounds.now l n) len (bounds_found c.args.text.now c.in-Some.bounds.now c.in-Some.behind.now l es c.in-Some.ensures.found.whole c.in-Some.ensures.found.first s))

pub returns-then-not-has_allowed_last : goal.returns-then-not-has_allowed_last
returns-then-not-has_allowed_last c = λ l es s.
    let lower : FitsSigned w32 c.in-Some-2.lower = search rules in
    let found = rw c.in-Some-2.is at c.in_ok-lower.ensures in
    let count = c.count_elements-count.result in
    let are = body_elements c.args.text.now c.in-Some.bounds.now c.in-Some.behind.now c.in-Some-strip_brace.body.now l es c.in-Some.ensures.found.whole c.in-Some.ensures.found.first c.in-Some-strip_brace.ensures.found s in
    let len : length es ≡ count = parts_count c.in-Some-strip_brace.body.now es are ∙ sym c.count_elements-count.ensures in
    let bound = bounds_one c.in-Some.bounds.now l c.in-Some-2.lower count s.int4 lower (subst (λ n. SpellsBounds c.in-Some.bounds.now l n) len (bounds_found c.args.text.now c.in-Some.bounds.now c.in-Some.behind.now l es c.in-Some.ensures.found.whole c.in-Some.ensures.found.first s)) found in
    let last : last_of c.in-Some-2.lower count ≤ℤ last_limit = subst (λ z. last_of z count ≤ℤ last_limit) bound (subst (λ n. last_of l n ≤ℤ last_limit) len s.last) in
    false≢true (sym c.if-not-has_allowed_last.true ∙ c.has_allowed_last.ensures.1 (subst (λ z. last_of z count ≤ℤ last_limit) (sym (to_z-of_z w32 c.in-Some-2.lower lower)) last))
