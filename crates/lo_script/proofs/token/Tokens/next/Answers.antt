use Rattle.std.proofs.Common.{◌≡◌, ◌≤◌, ◌+◌, ◌-◌, ℕ, List, length, ap, sym, ◌∙◌, Bor}
use Rattle.std.specs.Prelude.{Option}
use Rattle.lo_script.specs.Token.{Rest, rest_of}
use Rattle.lo_script.proofs.CutTexts.{cut_column}
use Rattle.lo_script.proofs.token.Tokens.next.Goals as goal

pub returns-clause-column : goal.returns-clause-column
returns-clause-column c =
    let line = c.self.inside.line.now in
    let within : length c.in-Some.rest.now ≤ length line = rw c.in-Some.is at c.self.invariant in
    let start : c.column-column.result ≡ length line - length c.in-Some.rest.now + 1 =
    c.column-column.ensures ∙ sym (ap (λ (r : Rest). r.column) c.self.view_is)
    ∙ ap (λ (left : Option (Bor (List ℕ))). (rest_of line left).column) c.in-Some.is in
    rw start (cut_column line c.in-Some.rest.now c.cut.result.0.now c.cut.result.1 within c.cut.ensures.whole)
