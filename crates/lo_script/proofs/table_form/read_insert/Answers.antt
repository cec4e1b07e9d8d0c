use Rattle.std.proofs.Common.{◌≡◌, [], ◌∷◌, ◌++◌, ap, ◌∙◌}
use Rattle.lo_base.specs.declared.request.Request.TheVariants.{Insert}
use Rattle.lo_script.specs.Reader.{more_tokens, list_of_tokens}
use Rattle.lo_script.specs.Token.{name_of}
use Rattle.lo_script.specs.ValueToken.{literal_of, next_literal}
use Rattle.lo_script.proofs.Readers.{first_read, more_read}
use Rattle.lo_script.proofs.table_form.read_insert.Goals as goal

pub loop-alloc-init : goal.loop-alloc-init
loop-alloc-init c =
    let value = c.in_ok-literal.field-0 in
    let values : c.push.new.self ≡ value ∷ [] = c.in_ok-push.ensures.ok ∙ ap (λ values. values ++ value ∷ []) c.new-values.ensures in
    let one = c.in_ok-next.ensures in
    let two = c.in_ok-next-2.ensures in
    rw values (first_read literal_of (λ a. more_tokens next_literal _ (a ∷ [])) two.ok two.start two.column c.in_ok-literal.ensures.ok
    ∙ first_read name_of (λ table. list_of_tokens literal_of next_literal (Insert table)) one.ok one.start one.column c.in_ok-table.ensures.ok)

pub loop-alloc-preserved : goal.loop-alloc-preserved
loop-alloc-preserved c =
    let next = c.in_ok-next-3.ensures in
    more_read next_literal _ _ next.ok next.start next.column c.in_ok-value.ensures.ok c.in_ok-push-2.ensures.ok ∙ c.loop-alloc.invariant
