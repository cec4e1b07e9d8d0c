use Rattle.std.proofs.Common.{◌≡◌, true, not, sym, ap, ◌∙◌, arith}
use Rattle.std.specs.Prelude.{bytes_eq}
use Rattle.std.proofs.lemmas.Bool.{false≢true}
use Rattle.std.proofs.lemmas.Slice.Eq.{bytes_eq-Decides}
use Rattle.toast_plan.specs.Pointer.{pointer_form}
use Rattle.toast_plan.proofs.PointerLaws.{length_again, pointer_again}
use Rattle.toast_plan.proofs.pointer.read_pointer.Goals as goal
use Rattle.toast_plan.proofs.pointer.read_pointer.Goals.{then-p-gt-VALUE_LIMIT-via-then-p-gt-VALUE_LIMIT, then-p-gt-VALUE_LIMIT-via-else-p-gt-VALUE_LIMIT+then-ne}

pub returns-then-p-gt-VALUE_LIMIT-clause-none : goal.returns-then-p-gt-VALUE_LIMIT-clause-none
returns-then-p-gt-VALUE_LIMIT-clause-none c = λ p is e.
    elim c.then-p-gt-VALUE_LIMIT.branch [
      | then-p-gt-VALUE_LIMIT-via-then-p-gt-VALUE_LIMIT w ↦ omega (arith, is.length, length_again c.args.bytes.now p c.number_at.result is e c.number_at.ensures)
      | then-p-gt-VALUE_LIMIT-via-else-p-gt-VALUE_LIMIT+then-ne w ↦
          let same = pointer_again c.args.bytes.now p c.number_at.result c.number_at-2.result c.number_at-3.result is e c.number_at.ensures c.number_at-2.ensures c.number_at-3.ensures in
          let spelled : c.args.bytes.now ≡ w.as_slice.result.now = e ∙ ap pointer_form (sym same) ∙ sym w.pointer_bytes.ensures ∙ sym w.as_slice.ensures in
          let equal : bytes_eq c.args.bytes.now w.as_slice.result.now ≡ true = (bytes_eq-Decides c.args.bytes.now w.as_slice.result.now).1 spelled in
          false≢true (sym (ap not equal) ∙ sym w.ne.ensures ∙ w.if-ne.true)
    ]

pub returns-then-p-gt-VALUE_LIMIT-clause-read_back :
    goal.returns-then-p-gt-VALUE_LIMIT-clause-read_back
returns-then-p-gt-VALUE_LIMIT-clause-read_back c = λ p is e. absurd (returns-then-p-gt-VALUE_LIMIT-clause-none c p is e)
