-- Which offsets and numbers of bytes a call takes.
use Rattle.std.specs.Prelude.{◌≡◌, ◌<◌, ◌^◌, ℕ, ℤ, pos, List, length, take, Option, Some, None}
use Rattle.lo_base.specs.declared.refusal.Refusal.{Refusal}
use Rattle.lo_calls.specs.ObjectRows.{bad_limit, limited}
use Rattle.lo_calls.specs.Terms.{bad_offset}

-- an offset that an object can have, and one that none can have
pub record IsOffset (offset : ℤ) (at : ℕ) : Type 0 where
  pub is : offset ≡ pos at
  pub good : bad_offset offset ≡ None

pub record IsNoOffset (offset : ℤ) (r : Refusal) : Type 0 where
  pub bad : bad_offset offset ≡ Some r

-- a number of bytes that can be asked for, or all, as a number that no object has more bytes than; and one that cannot
pub record IsLimit (asked : Option ℤ) (most : ℕ) : Type 0 where
  pub good : bad_limit asked ≡ None
  pub front : (bytes : List ℕ) → length bytes < 2 ^ 64 → limited asked bytes ≡ take most bytes

pub record IsNoLimit (asked : Option ℤ) (r : Refusal) : Type 0 where
  pub bad : bad_limit asked ≡ Some r
