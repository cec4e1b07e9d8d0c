-- The forms of clean-ups are exact.
use Rattle.std.proofs.Common.{◌≡◌, ◌≤◌, ℕ, ◌∷◌, Some, None, true, false, refl, sym, ap, ◌∙◌, inl, inr}
use Rattle.std.specs.Prelude.{codes, bytes_eq}
use Rattle.std.specs.Fmt.{decimal, digits}
use Rattle.std.specs.List.{AllByRecursion}
use Rattle.std.proofs.lemmas.Slice.Eq.{bytes_eq-Decides}
use Rattle.lo_base.specs.declared.request.Request.TheVariants.{Vacuumlo, Step, Finish}
use Rattle.lo_machine.specs.Spelled.{sweep_limit}
use Rattle.lo_script.specs.Reader.{no_token, one_token}
use Rattle.lo_script.specs.SweepForm.{sweep_forms, vacuumlo_of}
use Rattle.lo_script.specs.Token.{limit_of}
use Rattle.lo_script.proofs.DecimalsAndBytes.{tested, limit_of-prints, limit_of-decimal}
use Rattle.lo_script.proofs.ExactForms.{IsPrinted, IsPrintedIn, IsExactIn, plainly, ◌also◌}
use Rattle.lo_script.proofs.Readers.{Finds, no_token-finds, one_token-finds, behind_word_or-finds}

pub vacuumlo-exact : Finds vacuumlo_of (IsPrinted (codes "vacuumlo"))
vacuumlo-exact =
    behind_word_or-finds (IsPrinted (codes "vacuumlo")) (codes "-n") (one_token limit_of (Vacuumlo true)) (one_token limit_of (Vacuumlo false))
    (one_token-finds (λ more. IsPrinted (codes "vacuumlo") (codes "-n" ∷ more)) limit_of (Vacuumlo true)
    (λ t a is-t. let p = limit_of-prints t a is-t in (refl, (p.high, tt, plainly refl (rw p.is refl)))))
    (one_token-finds (IsPrinted (codes "vacuumlo")) limit_of (Vacuumlo false)
    (λ t a is-t. let p = limit_of-prints t a is-t in (refl, (p.high, tt, plainly refl (rw p.is refl)))))

step-exact : Finds (no_token Step) (IsPrintedIn true (codes "step"))
step-exact = no_token-finds (IsPrintedIn true (codes "step")) Step (refl, (tt, tt, plainly refl refl))

finish-exact : Finds (no_token Finish) (IsPrintedIn true (codes "finish"))
finish-exact = no_token-finds (IsPrintedIn true (codes "finish")) Finish (refl, (tt, tt, plainly refl refl))

pub sweeps-exact : AllByRecursion (IsExactIn true) sweep_forms
sweeps-exact = step-exact also finish-exact also tt

no_limit : limit_of (codes "-n") ≡ None
unfolding digits
no_limit = refl

-- a limit is no mark
pub limit-unmarked : (limit : ℕ) → limit ≤ sweep_limit → bytes_eq (decimal limit) (codes "-n") ≡ false
limit-unmarked limit high = elim (tested (bytes_eq (decimal limit) (codes "-n"))) [
  | inl same ↦
      let is : decimal limit ≡ codes "-n" = (bytes_eq-Decides (decimal limit) (codes "-n")).0 same in
      let both : Some limit ≡ None = sym (limit_of-decimal limit high) ∙ ap limit_of is ∙ no_limit in
      cc both
  | inr other ↦ other
]
