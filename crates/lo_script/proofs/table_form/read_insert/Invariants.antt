-- What was read so far, with the tokens that are left, is what all tokens spell.
use Rattle.std.proofs.Common.{◌≡◌, length}
use Rattle.lo_base.specs.declared.request.Request.TheVariants.{Insert}
use Rattle.lo_script.specs.Reader.{more_tokens}
use Rattle.lo_script.specs.TableForm.{insert_of}
use Rattle.lo_script.specs.ValueToken.{next_literal}
use Rattle.lo_script.proofs.table_form.read_insert.Given as goal

abbrev pub invariant-loop-alloc : goal.invariant-loop-alloc
invariant-loop-alloc l =
    more_tokens next_literal (Insert l.table) l.values l.tokens.column l.tokens.tokens ≡ insert_of l.fn.tokens.column l.fn.tokens.tokens

abbrev pub decreases-loop-alloc : goal.decreases-loop-alloc
decreases-loop-alloc l = length l.tokens.tokens
