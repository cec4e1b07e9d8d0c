use Rattle.lo_script.proofs.ValueTokens.{change_read}
use Rattle.lo_script.proofs.token.Token.change.Goals as goal

pub returns : goal.returns
returns c = record { ok = change_read _ _ c.args.self.now.column c.args.self.now.text.now _ _ _ _ c.in_ok-column.ensures.ok c.in_ok-name.ensures.ok c.in_ok-literal.ensures.ok; bad = tt }
