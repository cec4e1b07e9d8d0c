use Rattle.std.proofs.Common.{◌≡◌, ℤ, Some, ap, to_z-of_z, sym, ◌∙◌, rules, w64}
use Rattle.lo_script.proofs.DecimalsAndBytes.{not_parsed, other_parsed, parsed, no_text}
use Rattle.lo_script.proofs.token.decimal.Goals as goal

pub returns-in_err-ok : goal.returns-in_err-ok
returns-in_err-ok c = c.from_residual.ensures ∙ sym (no_text c.args.token.now (search rules))

pub returns-in_err-n : goal.returns-in_err-n
returns-in_err-n c =
    let same : c.args.token.now ≡ c.in_ok-ok.field-0.now = search rules in
    c.from_residual-in_err-n.ensures ∙ sym (not_parsed c.args.token.now c.parse.result (rw same c.parse.ensures.value.0) (search rules))

pub returns-then-eq : goal.returns-then-eq
returns-then-eq c = ap (λ (n : ℤ). Some n) (to_z-of_z {w = w64} {z = c.in_ok-n.n} (search rules)) ∙ sym (parsed c.args.token.now c.in_ok-n.n (search rules) (search rules))

pub returns-else-eq : goal.returns-else-eq
returns-else-eq c =
    let same : c.args.token.now ≡ c.in_ok-ok.field-0.now = search rules in
    sym (other_parsed c.args.token.now c.parse.result c.in_ok-n.n (rw same c.parse.ensures.value.0) (search rules) (search rules))
