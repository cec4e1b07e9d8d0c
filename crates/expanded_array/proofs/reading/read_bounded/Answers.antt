use Rattle.std.proofs.Common.{sym, ap, subst, arith, rules, length}
use Rattle.std.specs.Prelude.{FitsSigned}
use Rattle.std.specs.Int.{w32}
use Rattle.std.proofs.lemmas.Int.{to_z-of_z}
use Rattle.expanded_array.specs.Spelling.{SpellsBounded}
use Rattle.expanded_array.proofs.BodyLaws.{body_spells, malformed_denied, many_denied, no_body, parts_count}
use Rattle.expanded_array.proofs.reading.read_bounded.Goals as goal

pub returns-then-count-gt-LIMIT-clause-denied : goal.returns-then-count-gt-LIMIT-clause-denied
returns-then-count-gt-LIMIT-clause-denied c =
    let has = rw c.in-Some.is at c.in-Ok.ensures in
    many_denied c.args.text.now c.in-Some.lower c.in-Some.count c.in-Some.body.now c.refusal_of.result has c.if-count-gt-LIMIT.true c.refusal_of.ensures

pub returns-in_default-read-clause-denied : goal.returns-in_default-read-clause-denied
returns-in_default-read-clause-denied c =
    let has = rw c.in-Some.is at c.in-Ok.ensures in
    let none = rw c.in_default-read.is at c.in-Ok-read_elements.ensures in
    malformed_denied c.args.text.now c.malformed-in_default-read.result c.malformed-in_default-read.ensures (no_body c.args.text.now c.in-Some.lower c.in-Some.count c.in-Some.body.now has none)

pub returns-clause-read : goal.returns-clause-read
returns-clause-read c =
    let lower : FitsSigned w32 c.in-Some.lower = search rules in
    let has = rw c.in-Some.is at c.in-Ok.ensures in
    let read = rw c.in-Some-read.is at c.in-Ok-read_elements.ensures in
    subst (λ z. SpellsBounded c.args.text.now z c.from_vec-elements.result) (sym (to_z-of_z w32 c.in-Some.lower lower))
    (subst (λ es. SpellsBounded c.args.text.now c.in-Some.lower es) (sym c.from_vec-elements.ensures) (body_spells c.args.text.now c.in-Some.lower c.in-Some.count c.in-Some.body.now c.in-Some-read.elements.items has read))

pub returns-clause-few : goal.returns-clause-few
returns-clause-few c =
    let has = rw c.in-Some.is at c.in-Ok.ensures in
    let read = rw c.in-Some-read.is at c.in-Ok-read_elements.ensures in
    omega (arith, ap length c.from_vec-elements.ensures, parts_count c.in-Some.body.now c.in-Some-read.elements.items read, has.parts, c.if-count-gt-LIMIT.false)
