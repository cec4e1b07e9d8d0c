-- The requests that programs have, which are those that can be spelled, and those of them that are none of a clean-up.
use Rattle.std.specs.Prelude.{◌≡◌, Bool, true, false, All, List, IfSome, FitsSigned}
use Rattle.std.specs.Int.{w32}
use Rattle.lo_base.specs.declared.request.Request.{Request}
use Rattle.lo_base.specs.declared.request.Request.TheVariants.{Vacuumlo, Step, Finish, Set}
use Rattle.lo_machine.specs.Spelled.{IsSpelled}

abbrev pub IsServed : Request → Type 0
IsServed r = IsSpelled r

abbrev pub is_plain : Request → Bool
is_plain (Vacuumlo dry limit) = false
is_plain Step = false
is_plain Finish = false
is_plain _ = true

-- a request that is none of a clean-up
abbrev pub IsPlain : Request → Type 0
IsPlain r = (is_plain r ≡ true) × IsSpelled r

-- The numbers that a request sets in an array have the range of their type.
abbrev pub IsRanged : Request → Type 0
IsRanged (Set name sub value) = FitsSigned w32 sub × IfSome value (FitsSigned w32)
IsRanged _ = Unit {0}

-- programs of such requests alone
abbrev pub AreServed : List (List Request) → Type 0
AreServed programs = All (λ lines. All IsServed lines) programs

abbrev pub ArePlain : List (List Request) → Type 0
ArePlain programs = All (λ lines. All IsPlain lines) programs
