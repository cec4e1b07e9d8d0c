-- What a session's array variables stand for: under each name the array that the model has.
use Rattle.std.specs.Prelude.{◌≡◌, ◌≢◌, ℕ, ℤ, pos, true, List, Option, Some, None, is_some}
use Rattle.std.specs.BTreeMap.{get_by}
use Rattle.std.specs.Cmp.Lexicographic.{slice_cmp}
use Rattle.std.specs.Ordering.{nat_cmp}
use Rattle.std.specs.declared.alloc.Global.{Global}
use Rattle.std.specs.declared.vec.Vec.{Vec}
use Rattle.expanded_array.specs.Array.{Array, array_set, excess}
use Rattle.lo_base.specs.declared.refusal.Cause.TheVariants.{NoVariable}
use Rattle.lo_base.specs.declared.refusal.Denied.{Denied}
use Rattle.lo_base.specs.declared.refusal.Denied.TheVariants.{By, NoMemory}
use Rattle.row_tables.specs.Terms.{refusal}
use Rattle.lo_machine.specs.ArrayRows.{too_big_by}
use Rattle.lo_machine.specs.Values.{array_or_empty}
use Rattle.lo_machine.specs.State.{Variable, variable_in}
use Rattle.lo_machine.specs.declared.variables.Variables.{Variables}

-- the array under a name
abbrev pub array_at : Variables → (name : List ℕ) → Option Array
array_at own name = get_by (λ (key : Vec ℕ Global). slice_cmp nat_cmp name key.items) own.arrays

pub record IsAs (own : Variables) (variables : List Variable) : Type 0 where
  pub named : (name : List ℕ) → array_at own name ≡ variable_in name variables

-- one element of the array under a name was set
pub record SetsElement (old new : Variables) (name : List ℕ) (sub : ℤ) (value : Option ℤ) : Type 0 where
  pub there : is_some (array_at old name) ≡ true
  pub fits : excess (array_or_empty (array_at old name)) sub ≡ None
  pub own : array_at new name ≡ Some (array_set (array_or_empty (array_at old name)) sub value)
  pub others : (other : List ℕ) → other ≢ name → array_at new other ≡ array_at old other

-- why none was: there is no array, or it would be too big; or there is no memory
abbrev pub IsElementDenial : Option Array → (sub : ℤ) → Denied → Type 0
IsElementDenial found sub NoMemory = Unit {0}
IsElementDenial None sub (By r) = r ≡ refusal NoVariable (pos 0)
IsElementDenial (Some a) sub (By r) = too_big_by (excess a sub) ≡ Some r

pub record DeniesElement (old new : Variables) (name : List ℕ) (sub : ℤ) (denied : Denied) : Type 0 where
  pub why : IsElementDenial (array_at old name) sub denied
  pub same : (other : List ℕ) → array_at new other ≡ array_at old other
