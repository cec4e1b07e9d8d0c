-- Sums of values outside and of their chunks.
use Rattle.std.specs.Prelude.{◌≡◌, ◌<◌, ◌≤◌, ◌+◌, ◌^◌, ◌⊎◌, ℕ, IfSome}
use Rattle.std.specs.List.{AllByRecursion}
use Rattle.lo_base.specs.declared.value.Value.{Value}
use Rattle.toast_plan.specs.Columns.{IsTableColumns}
use Rattle.toast_plan.specs.Row.{value_length}
use Rattle.lo_opening.specs.declared.opening.TableData.{TableData}
use Rattle.lo_restore.specs.declared.tables_counted.Counts.{Counts}
use Rattle.lo_restore.specs.TablesSaved.{IsRowOf}

-- no longer than a value can be
abbrev pub IsShortValue : Value → Type 0
IsShortValue v = IfSome (value_length v) (λ n. n ≤ 16777216)

-- the counts with so many values and chunks more, which fit 32 bits
pub record IsSumOf (before : Counts) (values chunks : ℕ) (sum : Counts) : Type 0 where
  pub values_are : sum.values ≡ before.values + values
  pub chunks_are : sum.chunks ≡ before.chunks + chunks
  pub few_values : sum.values < 2 ^ 32
  pub few_chunks : sum.chunks < 2 ^ 32

-- one of them does not fit
abbrev pub AreTooMany : Counts → (values chunks : ℕ) → Type 0
AreTooMany before values chunks = (2 ^ 32 ≤ before.values + values) ⊎ (2 ^ 32 ≤ before.chunks + chunks)

abbrev pub no_counts : Counts
no_counts = record { values = 0; chunks = 0 }

-- a table of which each row has a plan
pub record HasPlans (t : TableData) : Type 0 where
  pub columns : IsTableColumns t.columns
  pub rows : AllByRecursion (IsRowOf t.columns) t.rows
