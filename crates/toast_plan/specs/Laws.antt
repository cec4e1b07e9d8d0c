-- What holds of every plan, said of its outcome alone.
use Rattle.std.specs.Prelude.{◌≡◌, ◌≢◌, ℕ, ◌+◌, ◌<◌, ◌≤◌, ◌^◌, All, Bool, true, false, ◌&&◌, List, [], ◌∷◌, length, Option, Some, None, slice_get, slice_set}
use Rattle.lo_base.specs.declared.column.Column.{Column}
use Rattle.lo_base.specs.declared.column.Storage.{Storage}
use Rattle.lo_base.specs.declared.column.Storage.TheVariants.{Plain}
use Rattle.lo_base.specs.declared.value.Value.{Value}
use Rattle.toast_plan.specs.Layout.{up_to_8, data_length}
use Rattle.toast_plan.specs.Columns.{IsTableColumns}
use Rattle.toast_plan.specs.Choice.{Candidate, moves_first, moves_second, goes_before, first_target, second_target, outside_of, planned_length}
use Rattle.toast_plan.specs.Row.{AreRowValues, count_outside, value_lengths}
use Rattle.toast_plan.specs.Writing.{HasRange}

-- a row's value that is not null, of a column whose storage passes the test
pub record IsValue (moves : Storage → Bool) (cs : List Column) (ns : List (Option ℕ)) (a : Candidate) : Type 0 where
  pub column : Column
  pub at : slice_get cs a.place ≡ Some column
  pub storage : moves column.storage ≡ true
  pub bytes : slice_get ns a.place ≡ Some (Some a.bytes)

-- it is outside
abbrev pub IsOutside : List Bool → Candidate → Type 0
IsOutside os a = slice_get os a.place ≡ Some true

-- it is the last of the values of these storages that are outside, in the order of the candidates
pub record IsLastOutside (moves : Storage → Bool) (cs : List Column) (ns : List (Option ℕ)) (os : List Bool) (a : Candidate) : Type 0 where
  pub value : IsValue moves cs ns a
  pub outside : IsOutside os a
  pub others : (b : Candidate) → IsValue moves cs ns b → IsOutside os b → b.place ≢ a.place → goes_before b a ≡ true

-- of the values outside those of columns whose storage passes the test
abbrev pub of_storages : (Storage → Bool) → List Column → List Bool → List Bool
of_storages moves [] os = os
of_storages moves (c ∷ cs) [] = []
of_storages moves (c ∷ cs) (o ∷ os) = (o && moves c.storage) ∷ of_storages moves cs os

abbrev pub any_storage : Storage → Bool
any_storage s = true

-- a value of 23 bytes or fewer stays in the row
abbrev pub SmallStay : Type 0
SmallStay = (cs : List Column) (ns : List (Option ℕ)) (a : Candidate) → IsValue any_storage cs ns a → IsOutside (outside_of cs ns) a → 24 ≤ a.bytes

-- a null has nothing that could be outside
abbrev pub NullsStay : Type 0
NullsStay = (cs : List Column) (ns : List (Option ℕ)) (k : ℕ) → length ns ≡ length cs → slice_get ns k ≡ Some None → slice_get (outside_of cs ns) k ≡ Some false

-- a value of PLAIN stays in the row
abbrev pub PlainStay : Type 0
PlainStay = (cs : List Column) (ns : List (Option ℕ)) (c : Column) (k : ℕ) → slice_get cs k ≡ Some c → c.storage ≡ Plain → slice_get (outside_of cs ns) k ≡ Some false

-- of the values of one round none stays that goes before one that is outside: no longer one, and of equal ones none of an
-- earlier column
abbrev pub LongerFirst : (Storage → Bool) → Type 0
LongerFirst moves = (cs : List Column) (ns : List (Option ℕ)) (a b : Candidate) → IsValue moves cs ns a → IsValue moves cs ns b → goes_before a b ≡ true
    → IsOutside (outside_of cs ns) b → IsOutside (outside_of cs ns) a

-- with the last value of EXTERNAL and EXTENDED that is outside left in the row, the data would miss the first target, be
-- it with all of MAIN inside
abbrev pub FirstNeeded : Type 0
FirstNeeded = (cs : List Column) (ns : List (Option ℕ)) (a : Candidate) → IsLastOutside moves_first cs ns (outside_of cs ns) a
    → first_target ns < data_length cs ns (slice_set (of_storages moves_first cs (outside_of cs ns)) a.place false)

-- with the last value of MAIN that is outside left in the row, the data would miss the second target
abbrev pub SecondNeeded : Type 0
SecondNeeded = (cs : List Column) (ns : List (Option ℕ)) (a : Candidate) → IsLastOutside moves_second cs ns (outside_of cs ns) a
    → second_target ns < data_length cs ns (slice_set (outside_of cs ns) a.place false)

-- where a value of EXTERNAL or EXTENDED that might be outside stays, the data meet the first target already
abbrev pub FirstEnough : Type 0
FirstEnough = (cs : List Column) (ns : List (Option ℕ)) (a : Candidate) → IsValue moves_first cs ns a → 24 ≤ a.bytes → slice_get (outside_of cs ns) a.place ≡ Some false
    → data_length cs ns (of_storages moves_first cs (outside_of cs ns)) ≤ first_target ns

-- where a value of MAIN that might be outside stays, the data meet the second target
abbrev pub SecondEnough : Type 0
SecondEnough = (cs : List Column) (ns : List (Option ℕ)) (a : Candidate) → IsValue moves_second cs ns a → 24 ≤ a.bytes → slice_get (outside_of cs ns) a.place ≡ Some false
    → data_length cs ns (outside_of cs ns) ≤ second_target ns

-- each column has one mark
abbrev pub OneMarkEach : Type 0
OneMarkEach = (cs : List Column) (ns : List (Option ℕ)) → length (outside_of cs ns) ≡ length cs

-- values that make a row of the table: they fit its columns and have numbers of their types, the row is not too big, and
-- there are numbers for the table and for the values outside
pub record HasRow (columns : List Column) (table first : ℕ) (values : List Value) : Type 0 where
  pub columns_are : IsTableColumns columns
  pub values_are : AreRowValues columns values
  pub range : All HasRange values
  pub fits : up_to_8 (planned_length columns (value_lengths values)) ≤ 8160
  pub numbers : first + count_outside (outside_of columns (value_lengths values)) ≤ 2 ^ 32
  pub table_is : table < 2 ^ 32
