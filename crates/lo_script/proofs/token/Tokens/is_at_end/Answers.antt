use Rattle.std.proofs.Common.{◌==◌, ap}
use Rattle.lo_script.specs.Token.{Rest, tokens_of}
use Rattle.lo_script.proofs.CutTexts.{no_rest, slice_split-not_nil}
use Rattle.lo_script.proofs.token.Tokens.is_at_end.Goals as goal

pub returns : goal.returns
returns c =
    no_rest (λ rest. tokens_of rest.now) c.self.inside.rest c.args.self.now.tokens c.is_none.result (λ rest. slice_split-not_nil (λ b. b == 32) rest.now)
    (ap (λ (r : Rest). r.tokens) c.self.view_is) c.is_none.ensures
