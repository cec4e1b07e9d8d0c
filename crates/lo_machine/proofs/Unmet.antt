-- Where no term of a refusal holds.
use Rattle.std.proofs.Common.{◌≡◌, ℤ, Bool, true, false, List, [], ◌∷◌, ◌++◌, Option, Some, None, refl}
use Rattle.std.specs.Prelude.{not}
use Rattle.std.proofs.lemmas.Bool.{true≢false}
use Rattle.lo_base.specs.declared.refusal.Cause.{Cause}
use Rattle.lo_base.specs.declared.refusal.Refusal.{Refusal}
use Rattle.lo_calls.specs.Terms.{when}
use Rattle.lo_pages.specs.Outcome.{first_of}

pub first_none : (term : Option Refusal) (terms : List (Option Refusal)) → first_of (term ∷ terms) ≡ None → (term ≡ None) × (first_of terms ≡ None)
first_none None terms is = (refl, is)
first_none (Some r) terms is = absurd (let no : Some r ≡ None = is in cc)

pub front_none : (terms more : List (Option Refusal)) → first_of (terms ++ more) ≡ None → first_of terms ≡ None
front_none [] more is = refl
front_none (None ∷ terms) more is = front_none terms more is
front_none (Some r ∷ terms) more is = absurd (let no : Some r ≡ None = is in cc)

pub rest_none : (terms more : List (Option Refusal)) → first_of (terms ++ more) ≡ None → first_of more ≡ None
rest_none [] more is = is
rest_none (None ∷ terms) more is = rest_none terms more is
rest_none (Some r ∷ terms) more is = absurd (let no : Some r ≡ None = is in cc)

pub unmet : (test : Bool) (cause : Cause) (subject : ℤ) → when test cause subject ≡ None → test ≡ false
unmet false cause subject is = refl
unmet true cause subject is = absurd (let no : Some (record { cause = cause; subject = subject }) ≡ None = is in cc)

pub not_unmet : (test : Bool) → not test ≡ false → test ≡ true
not_unmet true is = refl
not_unmet false is = absurd (true≢false is)
