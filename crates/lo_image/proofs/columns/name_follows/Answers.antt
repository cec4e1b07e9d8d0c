use Rattle.std.proofs.Common.{◌≡◌, Some, refl, ◌∙◌, arith}
use Rattle.lo_image.specs.Tables.{last_name}
use Rattle.lo_image.proofs.TableLists.{last_is, less_by_index}
use Rattle.lo_image.proofs.columns.name_follows.Goals as goal

pub returns-in-len1-up : goal.returns-in-len1-up
returns-in-len1-up c =
    let last : last_name c.args.before.now ≡ Some c.last-item.result.name = last_is c.args.before.now c.last-item.result (omega (arith, c.in-len1-up.len_at_least)) c.last-item.is in
    c.eq.ensures ∙ less_by_index c.cmp.result ∙ rw (last, c.cmp.ensures, c.items.ensures) refl
