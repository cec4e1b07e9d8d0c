use Rattle.lo_machine.proofs.Judging.{text_judged}
use Rattle.lo_machine.proofs.literals.array_from.Goals as goal

pub returns-clause-ok : goal.returns-clause-ok
returns-clause-ok c = (text_judged c.texts_are_read.ensures c.args.text.now c.from_text.result c.from_text.ensures.spelled c.from_text.ensures.held c.from_text.ensures.denied).0

pub returns-clause-err : goal.returns-clause-err
returns-clause-err c = (text_judged c.texts_are_read.ensures c.args.text.now c.from_text.result c.from_text.ensures.spelled c.from_text.ensures.held c.from_text.ensures.denied).1
