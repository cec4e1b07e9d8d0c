use Rattle.std.proofs.Common.{◌≡◌, [], ◌∷◌, ◌++◌, ap, ◌∙◌, to_z-of_z, rules, w64}
use Rattle.lo_base.specs.declared.request.Request.TheVariants.{Update}
use Rattle.lo_script.specs.Reader.{first_token, more_tokens, list_of_tokens}
use Rattle.lo_script.specs.Token.{int8_of, name_of}
use Rattle.lo_script.specs.ValueToken.{change_of, next_change}
use Rattle.lo_script.proofs.Readers.{first_read, more_read}
use Rattle.lo_script.proofs.table_form.read_update.Goals as goal

pub loop-alloc-init : goal.loop-alloc-init
loop-alloc-init c =
    let change = c.in_ok-change.field-0 in
    let changes : c.push.new.self ≡ change ∷ [] = c.in_ok-push.ensures.ok ∙ ap (λ changes. changes ++ change ∷ []) c.new-changes.ensures in
    let one = c.in_ok-next.ensures in
    let two = c.in_ok-next-2.ensures in
    let three = c.in_ok-next-3.ensures in
    rw (changes, to_z-of_z {w = w64} {z = c.in_ok-id.id} (search rules)) (first_read change_of (λ a. more_tokens next_change _ (a ∷ [])) three.ok three.start three.column c.in_ok-change.ensures.ok
    ∙ first_read int8_of (λ id. list_of_tokens change_of next_change (Update _ id)) two.ok two.start two.column c.in_ok-id.ensures.ok
    ∙ first_read name_of (λ table. first_token int8_of (λ id. list_of_tokens change_of next_change (Update table id))) one.ok one.start one.column c.in_ok-table.ensures.ok)

pub loop-alloc-preserved : goal.loop-alloc-preserved
loop-alloc-preserved c =
    let next = c.in_ok-next-4.ensures in
    more_read next_change _ _ next.ok next.start next.column (rw c.items.ensures at c.in_ok-change-2.ensures.ok) c.in_ok-push-2.ensures.ok ∙ c.loop-alloc.invariant
