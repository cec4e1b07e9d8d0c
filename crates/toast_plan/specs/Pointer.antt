-- The pointer that a value leaves in its row where it moves out. Numbers are little-endian.
use Rattle.std.specs.Prelude.{ℕ, ◌+◌, ◌<◌, ◌≤◌, ◌^◌, List, [], ◌∷◌, ◌++◌}
use Rattle.std.specs.Int.{w32, to_le_bytes}
use Rattle.toast_plan.specs.declared.pointer.Pointer.{Pointer}

-- the tag of an external value of 18 bytes, the value's length with the 4 bytes of a long header, its length, its number
-- and its table's
abbrev pub pointer_form : Pointer → List ℕ
pointer_form p = 1 ∷ 18 ∷ [] ++ (to_le_bytes w32 (p.length + 4) ++ (to_le_bytes w32 p.length ++ (to_le_bytes w32 p.value ++ to_le_bytes w32 p.table)))

-- a pointer to a value that is no longer than a value can be
pub record IsPointer (p : Pointer) : Type 0 where
  pub length : p.length ≤ 16777216
  pub value : p.value < 2 ^ 32
  pub table : p.table < 2 ^ 32
