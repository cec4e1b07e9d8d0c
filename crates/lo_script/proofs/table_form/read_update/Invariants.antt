-- What was read so far, with the tokens that are left, is what all tokens spell.
use Rattle.std.proofs.Common.{◌≡◌, length}
use Rattle.lo_base.specs.declared.request.Request.TheVariants.{Update}
use Rattle.lo_script.specs.Reader.{more_tokens}
use Rattle.lo_script.specs.TableForm.{update_of}
use Rattle.lo_script.specs.ValueToken.{next_change}
use Rattle.lo_script.proofs.table_form.read_update.Given as goal

abbrev pub invariant-loop-alloc : goal.invariant-loop-alloc
invariant-loop-alloc l =
    more_tokens next_change (Update l.table l.id) l.changes l.tokens.column l.tokens.tokens ≡ update_of l.fn.tokens.column l.fn.tokens.tokens

abbrev pub decreases-loop-alloc : goal.decreases-loop-alloc
decreases-loop-alloc l = length l.tokens.tokens
