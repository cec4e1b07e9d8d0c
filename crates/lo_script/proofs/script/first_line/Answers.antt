use Rattle.lo_script.proofs.CutTexts.{first_of_lines}
use Rattle.lo_script.proofs.script.first_line.Goals as goal

pub returns-in-Some-clause-lines : goal.returns-in-Some-clause-lines
returns-in-Some-clause-lines c =
    let parts = rw c.in-Some.is at c.cut.ensures.parts in
    rw c.without_return.ensures (first_of_lines c.args.text.now c.cut.result.0.now c.in-Some.after.now parts)
