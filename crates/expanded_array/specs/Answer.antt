-- Why a call on an array is denied.
use Rattle.std.specs.Prelude.{◌≡◌, ℕ, pos, Option, Some, None, ⊤}
use Rattle.lo_base.specs.declared.refusal.Cause.TheVariants.{ArrayTooBig}
use Rattle.lo_base.specs.declared.refusal.Denied.{Denied}
use Rattle.lo_base.specs.declared.refusal.Denied.TheVariants.{By, NoMemory}
use Rattle.lo_base.specs.declared.refusal.Refusal.{Refusal}

-- the refusal of an array of so many elements
abbrev pub too_big : ℕ → Refusal
too_big n = record { cause = ArrayTooBig; subject = pos n }

-- a set is denied by want of memory, or because it would leave too many elements
abbrev pub IsSetDenial : Option ℕ → Denied → Type 0
IsSetDenial excess NoMemory = ⊤
IsSetDenial None (By refusal) = ⊥
IsSetDenial (Some n) (By refusal) = refusal ≡ too_big n
