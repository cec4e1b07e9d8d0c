-- When a call may fail.
use Rattle.std.specs.Prelude.{◌≡◌, ◌+◌, ◌-◌, ◌^◌, ◌≤◌, ℕ, min, Result, OnOk, OnErr}
use Rattle.lo_outside.specs.declared.files.Failed.{Failed}

-- the count of faults is greater, or it stood at the last value of its 64 bits and still does
abbrev pub Rose : ℕ → ℕ → Type 0
Rose old new = min (old + 1) (2 ^ 64 - 1) ≤ new

-- A call fails only where the count of faults rose in it. One that is granted leaves the count, and it never falls.
pub record HasCause {T : Type 0} (old new : ℕ) (result : Result T Failed) : Type 0 where
  pub later : old ≤ new
  pub ok : OnOk result (new ≡ old)
  pub err : OnErr result (Rose old new)
