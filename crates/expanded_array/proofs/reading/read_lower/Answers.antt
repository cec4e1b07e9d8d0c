use Rattle.std.proofs.Common.{ap, ◌∙◌, Some, rules}
use Rattle.std.specs.Int.{w32}
use Rattle.std.proofs.lemmas.Int.{to_z-of_z}
use Rattle.expanded_array.proofs.ColonLaws.{number_before, number_is_text, number_value, number_good}
use Rattle.expanded_array.proofs.reading.read_lower.Goals as goal

pub returns-in-Ok-parse : goal.returns-in-Ok-parse
returns-in-Ok-parse c = λ lower count f e.
    let number = number_before c.args.bounds.now c.before_colon.result.now lower count f e c.before_colon.ensures in
    let value = c.in-Ok-parse.ensures.value.0.1 ∙ number_value c.in-Ok.text.now c.before_colon.result.now lower f c.in-Ok.ensures.cases.0 number in
    ap Some (to_z-of_z w32 c.in-Ok-parse.number (search (rules, value, f)) ∙ value)

pub returns-in-Err-parse : goal.returns-in-Err-parse
returns-in-Err-parse c = λ lower count f e.
    let number = number_before c.args.bounds.now c.before_colon.result.now lower count f e c.before_colon.ensures in
    absurd (c.in-Err-parse.ensures.value.0 (number_good c.in-Ok.text.now c.before_colon.result.now lower f c.in-Ok.ensures.cases.0 number))

pub returns-in-Err : goal.returns-in-Err
returns-in-Err c = λ lower count f e.
    let number = number_before c.args.bounds.now c.before_colon.result.now lower count f e c.before_colon.ensures in
    absurd (c.in-Err.ensures.cases.0 (number_is_text c.before_colon.result.now lower f number))
