use Rattle.std.proofs.Common.{◌≡◌, [], ◌∷◌, ◌++◌, ap, ◌∙◌}
use Rattle.std.specs.Prelude.{codes}
use Rattle.lo_base.specs.declared.request.Request.TheVariants.{CreateTable}
use Rattle.lo_script.specs.Reader.{first_token, more_tokens, list_of_tokens}
use Rattle.lo_script.specs.Token.{keyword_of, name_of}
use Rattle.lo_script.specs.ValueToken.{id_column_of, next_column}
use Rattle.lo_script.proofs.Readers.{first_read, more_read}
use Rattle.lo_script.proofs.table_form.read_create.Goals as goal

pub loop-alloc-init : goal.loop-alloc-init
loop-alloc-init c =
    let column = c.in_ok-id_column.field-0 in
    let columns : c.push.new.self ≡ column ∷ [] = c.in_ok-push.ensures.ok ∙ ap (λ columns. columns ++ column ∷ []) c.new-columns.ensures in
    let one = c.in_ok-next.ensures in
    let two = c.in_ok-next-2.ensures in
    let three = c.in_ok-next-3.ensures in
    rw columns (first_read id_column_of (λ a. more_tokens next_column _ (a ∷ [])) three.ok three.start three.column c.in_ok-id_column.ensures.ok
    ∙ first_read name_of (λ table. list_of_tokens id_column_of next_column (CreateTable table)) two.ok two.start two.column c.in_ok-table.ensures.ok
    ∙ first_read (keyword_of (codes "table")) (λ _. first_token name_of (λ table. list_of_tokens id_column_of next_column (CreateTable table))) one.ok one.start one.column c.in_ok-keyword.ensures.ok)

pub loop-alloc-preserved : goal.loop-alloc-preserved
loop-alloc-preserved c =
    let next = c.in_ok-next-4.ensures in
    more_read next_column _ _ next.ok next.start next.column (rw c.items.ensures at c.in_ok-column.ensures.ok) c.in_ok-push-2.ensures.ok ∙ c.loop-alloc.invariant
