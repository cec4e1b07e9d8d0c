-- The exit of a `?`: what the error that is handed on says.
use Rattle.std.proofs.Common.{◌≡◌, sym, subst}
use Rattle.std.specs.Prelude.{Result, Ok, Err, IfErr, IsErrAnd}
use Rattle.lo_base.specs.declared.refusal.Denied.{Denied}
use Rattle.lo_base.specs.declared.refusal.Denied.TheVariants.{By}
use Rattle.lo_base.specs.declared.refusal.Refusal.{Refusal}

pub failed_with : {T E : Type 0} (P : E → Type 0) (result : Result T E) (d : E) → IsErrAnd result (λ e. e ≡ d) → P d → IfErr result P
failed_with P (Ok x) d is p = absurd is
failed_with P (Err e) d is p = subst P (sym is) p

pub refused_by : {T : Type 0} (P : Denied → Type 0) (result : Result T Denied) (r : Refusal) → IsErrAnd result (λ d. d ≡ By r) → P (By r) → IfErr result P
refused_by P result r is p = failed_with P result (By r) is p
