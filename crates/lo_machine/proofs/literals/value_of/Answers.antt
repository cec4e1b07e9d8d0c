use Rattle.std.proofs.Common.{List, ℕ, subst}
use Rattle.lo_machine.specs.Literals.{IsArrayFrom}
use Rattle.lo_machine.proofs.Judging.{array_given}
use Rattle.lo_machine.proofs.literals.value_of.Goals as goal

pub returns-in_ok-flat_bytes-in-Int4Array-ArrayText-clause-ok :
    goal.returns-in_ok-flat_bytes-in-Int4Array-ArrayText-clause-ok
returns-in_ok-flat_bytes-in-Int4Array-ArrayText-clause-ok c =
    array_given c.args.own.now c.args.column.now c.args.place c.args.literal.now c.in-Int4Array-ArrayText.text c.in-Int4Array-ArrayText.is-0 c.in-Int4Array-ArrayText.is-1
    c.in_ok-array-in-Int4Array-ArrayText.array c.in_ok-flat_bytes-in-Int4Array-ArrayText.field-0 (subst (λ (text : List ℕ). IsArrayFrom text c.in_ok-array-in-Int4Array-ArrayText.array) c.items-in-Int4Array-ArrayText.ensures c.in_ok-array-in-Int4Array-ArrayText.ensures.ok)
    c.in_ok-flat_bytes-in-Int4Array-ArrayText.ensures.bytes c.in_ok-flat_bytes-in-Int4Array-ArrayText.ensures.flat c.in_ok-flat_bytes-in-Int4Array-ArrayText.ensures.few
