-- Terms of refusals: when one holds, and which is the first that does.
use Rattle.std.proofs.Common.{◌≡◌, ◌≤◌, ℕ, ℤ, pos, Bool, true, false, List, ◌∷◌, Option, Some, None, refl, sym, subst, arith}
use Rattle.std.specs.Prelude.{Result, Ok, Err, IfErr, IsErrAnd, nat_lt}
use Rattle.std.proofs.lemmas.Bool.Decides.{nat_tests}
use Rattle.lo_base.specs.declared.refusal.Cause.{Cause}
use Rattle.lo_base.specs.declared.refusal.Cause.TheVariants.{TooMuch}
use Rattle.lo_base.specs.declared.refusal.Denied.{Denied}
use Rattle.lo_base.specs.declared.refusal.Denied.TheVariants.{By}
use Rattle.lo_base.specs.declared.refusal.Refusal.{Refusal}
use Rattle.lo_pages.specs.Outcome.{first_of}
use Rattle.lo_calls.specs.Terms.{when, too_much}

pub skip : (term : Option Refusal) (terms : List (Option Refusal)) → term ≡ None → first_of (term ∷ terms) ≡ first_of terms
skip term terms none = rw none refl

pub stop : (term : Option Refusal) (terms : List (Option Refusal)) (r : Refusal) → term ≡ Some r → first_of (term ∷ terms) ≡ Some r
stop term terms r some = rw some refl

pub holds : (test : Bool) (cause : Cause) (subject : ℤ) → test ≡ true → when test cause subject ≡ Some (record { cause = cause; subject = subject })
holds test cause subject is = rw is refl

pub fails : (test : Bool) (cause : Cause) (subject : ℤ) → test ≡ false → when test cause subject ≡ None
fails test cause subject is = rw is refl

-- the exit of a `?` that hands a refusal on
pub refused_by : {T : Type 0} (P : Denied → Type 0) (result : Result T Denied) (r : Refusal) → IsErrAnd result (λ d. d ≡ By r) → P (By r) → IfErr result P
refused_by P (Ok x) r is p = absurd is
refused_by P (Err d) r is p = subst P (sym is) p

pub few_enough : (n : ℕ) → n ≤ 16777216 → too_much n ≡ None
few_enough n few = fails (nat_lt 16777216 n) TooMuch (pos n) (grind (arith, nat_tests, few))

pub skip_second : (first term : Option Refusal) (terms : List (Option Refusal)) → term ≡ None → first_of (first ∷ term ∷ terms) ≡ first_of (first ∷ terms)
skip_second None term terms none = skip term terms none
skip_second (Some r) term terms none = refl

-- the exit of a `?` that hands on why a call was denied
pub denied_by : {T : Type 0} (P : Denied → Type 0) (result : Result T Denied) (d : Denied) → IsErrAnd result (λ e. e ≡ d) → P d → IfErr result P
denied_by P (Ok x) d is p = absurd is
denied_by P (Err e) d is p = subst P (sym is) p

-- the exit of a `?` that hands an error on
pub failed_with : {T E : Type 0} (P : E → Type 0) (result : Result T E) (d : E) → IsErrAnd result (λ e. e ≡ d) → P d → IfErr result P
failed_with P (Ok x) d is p = absurd is
failed_with P (Err e) d is p = subst P (sym is) p
