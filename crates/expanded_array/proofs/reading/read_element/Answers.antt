use Rattle.std.proofs.Common.{sym, ◌∙◌}
use Rattle.std.proofs.lemmas.Bool.{false≢true}
use Rattle.expanded_array.proofs.SpellingLaws.{unreadable}
use Rattle.expanded_array.proofs.reading.read_element.Goals as goal

pub returns-in-Err-clause-none : goal.returns-in-Err-clause-none
returns-in-Err-clause-none c = unreadable c.args.bytes.now (λ h. false≢true (sym c.if-eq_ignore_ascii_case.false ∙ c.eq_ignore_ascii_case.ensures.test.1 h)) c.in-Err.ensures.cases.0
