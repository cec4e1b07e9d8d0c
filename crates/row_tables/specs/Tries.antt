-- What the tests ask of a call's answer before they go on.
use Rattle.std.specs.Prelude.{Result, Ok, Err}
use Rattle.lo_base.specs.declared.refusal.Denied.{Denied}
use Rattle.lo_base.specs.declared.refusal.Denied.TheVariants.{By, NoMemory}

-- it was not for want of memory
abbrev pub IsRefusal : Denied → Type 0
IsRefusal (By r) = Unit {0}
IsRefusal NoMemory = ⊥

abbrev pub HadMemory : {A : Type 0} → Result A Denied → Type 0
HadMemory (Ok a) = Unit {0}
HadMemory (Err denied) = IsRefusal denied
