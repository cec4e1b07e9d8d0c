use Rattle.std.proofs.Common.{◌≡◌, subst}
use Rattle.lo_script.specs.Form.{request_of}
use Rattle.lo_script.specs.Reading.{Read}
use Rattle.lo_script.proofs.DecimalsAndBytes.{int8_of-prints, int8_of-decimal}
use Rattle.lo_script.proofs.SpelledRequests.{request-some, request-spelled, has_spelling}
use Rattle.lo_script.proofs.WrittenLines.{has_program_text, has_text}
use Rattle.lo_script.proofs.law.tokens_spell.Goals as goal

pub returns-clause-printed : goal.returns-clause-printed
returns-clause-printed c token n h = (int8_of-prints token n h).is

pub returns-clause-read : goal.returns-clause-read
returns-clause-read c = int8_of-decimal

pub returns-clause-spelled : goal.returns-clause-spelled
returns-clause-spelled c in_sweep column tokens r h = (request-some in_sweep column tokens r h).1.0

pub returns-clause-exact : goal.returns-clause-exact
returns-clause-exact c in_sweep column tokens r =
    (request-some in_sweep column tokens r, λ h. subst (λ b. request_of b column tokens ≡ Read r) h.0 (request-spelled column tokens r h.1))

pub returns-clause-printable : goal.returns-clause-printable
returns-clause-printable c = has_spelling

pub returns-clause-written : goal.returns-clause-written
returns-clause-written c = has_text

pub returns-clause-unmarked : goal.returns-clause-unmarked
returns-clause-unmarked c = has_program_text
