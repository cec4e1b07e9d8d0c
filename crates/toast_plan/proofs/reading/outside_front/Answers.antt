use Rattle.std.proofs.Common.{◌≢◌, take, sym, ◌∙◌, arith}
use Rattle.toast_plan.specs.declared.pointer.Pointer.{Pointer}
use Rattle.toast_plan.specs.Pointer.{pointer_form, IsPointer}
use Rattle.toast_plan.proofs.ReadingLaws.{outside_none, outside_some}
use Rattle.toast_plan.proofs.reading.outside_front.Goals as goal

pub returns-in_default-clause-read : goal.returns-in_default-clause-read
returns-in_default-clause-read c =
    let none : (p : Pointer) → IsPointer p → take 18 c.args.bytes.now ≢ pointer_form p = λ p is e. c.in_default.ensures.none p is (c.split_at.ensures.front ∙ e) in
    outside_none c.args.bytes.now (λ i. omega (arith, c.type_inv.bytes i)) none

pub returns-clause-read : goal.returns-clause-read
returns-clause-read c =
    rw c.from.ensures (outside_some c.args.bytes.now c.in-Some.p c.in-Some.ensures.valid (sym c.split_at.ensures.front ∙ c.in-Some.ensures.form))
