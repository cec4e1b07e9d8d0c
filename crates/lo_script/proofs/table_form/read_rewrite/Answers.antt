use Rattle.std.proofs.Common.{◌≡◌, [], ◌∷◌, ◌++◌, ap, ◌∙◌}
use Rattle.lo_base.specs.declared.request.Request.TheVariants.{Rewrite}
use Rattle.lo_script.specs.Reader.{more_tokens, list_of_tokens}
use Rattle.lo_script.specs.Token.{name_of}
use Rattle.lo_script.specs.ValueToken.{storage_column_of, next_storage}
use Rattle.lo_script.proofs.Readers.{first_read, more_read}
use Rattle.lo_script.proofs.table_form.read_rewrite.Goals as goal

pub loop-alloc-init : goal.loop-alloc-init
loop-alloc-init c =
    let column = c.in_ok-storage_column.field-0 in
    let storages : c.push.new.self ≡ column ∷ [] = c.in_ok-push.ensures.ok ∙ ap (λ storages. storages ++ column ∷ []) c.new-storages.ensures in
    let one = c.in_ok-next.ensures in
    let two = c.in_ok-next-2.ensures in
    rw storages (first_read storage_column_of (λ a. more_tokens next_storage _ (a ∷ [])) two.ok two.start two.column c.in_ok-storage_column.ensures.ok
    ∙ first_read name_of (λ table. list_of_tokens storage_column_of next_storage (Rewrite table)) one.ok one.start one.column c.in_ok-table.ensures.ok)

pub loop-alloc-preserved : goal.loop-alloc-preserved
loop-alloc-preserved c =
    let next = c.in_ok-next-3.ensures in
    more_read next_storage _ _ next.ok next.start next.column (rw c.items.ensures at c.in_ok-column.ensures.ok) c.in_ok-push-2.ensures.ok ∙ c.loop-alloc.invariant
