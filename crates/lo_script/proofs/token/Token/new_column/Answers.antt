use Rattle.lo_script.proofs.ValueTokens.{column_read}
use Rattle.lo_script.proofs.token.Token.new_column.Goals as goal

pub returns : goal.returns
returns c = record { ok = column_read _ _ c.args.self.now.column c.args.self.now.text.now _ _ _ _ c.in_ok-name.ensures.ok c.in_ok-name-2.ensures.ok c.in_ok-kind.ensures.ok; bad = tt }
