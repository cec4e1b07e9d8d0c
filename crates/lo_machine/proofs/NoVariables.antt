-- Sixteen sessions without array variables, made one after another.
use Rattle.std.proofs.Common.{◌≡◌, ℕ, ◌+◌, List, [], ◌∷◌, ◌++◌, length, Some, None, inl, inr, refl, sym, subst, arith, length-append}
use Rattle.std.specs.Prelude.{slice_get}
use Rattle.std.proofs.lemmas.Option.{none-some}
use Rattle.xact_core.proofs.ListPlaces.{append_cases}
use Rattle.lo_machine.specs.NewServer.{AreNone}
use Rattle.lo_machine.specs.Variables.{array_at}
use Rattle.lo_machine.specs.declared.variables.Variables.{Variables}

abbrev pub IsNone : Variables → Type 0
IsNone own = (name : List ℕ) → array_at own name ≡ None

-- the first of them, so many
pub record AreNoneBelow (number : ℕ) (lists : List Variables) : Type 0 where
  pub count : length lists ≡ number
  pub each : (place : ℕ) (own : Variables) → slice_get lists place ≡ Some own → IsNone own

pub none_below : AreNoneBelow 0 []
none_below = record { count = refl; each = λ place own is. absurd (none-some own is) }

pub one_more : (number : ℕ) (lists : List Variables) (own : Variables) → AreNoneBelow number lists → IsNone own → AreNoneBelow (number + 1) (lists ++ own ∷ [])
one_more number lists own below none = record {
  count = omega (arith, below.count, length-append lists (own ∷ []));
  each = λ place found is. elim (append_cases lists own found place is) [
    | inl before ↦ below.each place found before
    | inr here ↦ subst IsNone (sym here.1) none
  ];
}

pub all_none : (number : ℕ) (lists : List Variables) → number ≡ 16 → AreNoneBelow number lists → AreNone lists
all_none number lists is below = record { sixteen = omega (arith, is, below.count); each = below.each }
