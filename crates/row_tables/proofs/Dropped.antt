-- The numbers of a row that another one has not.
use Rattle.std.proofs.Common.{ℕ, ◌<◌, ◌≡◌, ◌≢◌, true, List}
use Rattle.std.specs.Prelude.{◌&&◌, not}
use Rattle.lo_base.specs.declared.value.Cell.{Cell}
use Rattle.row_versions.specs.Count.{Different}
use Rattle.row_versions.specs.Stack.{Each}
use Rattle.row_tables.specs.Cells.{dropped, has_number, is_among, numbers_in}
use Rattle.row_tables.proofs.EachOf.{among_each, among_filter, each_filter, pairwise_filter}
pub use Rattle.row_tables.proofs.EachOf.{among_of}

pub dropped_is : (old new : List Cell) (n : ℕ) → is_among (dropped old new) n ≡ (has_number old n && not (has_number new n))
dropped_is old new n = among_filter (λ (m : ℕ). not (has_number new m)) (numbers_in old) n

pub dropped_once : (old new : List Cell) → Different (numbers_in old) → Different (dropped old new)
dropped_once old new once = pairwise_filter (λ (a b : ℕ). a ≢ b) (λ (m : ℕ). not (has_number new m)) (numbers_in old) once

pub dropped_each : (P : ℕ → Type 0) (old new : List Cell) → Each P (numbers_in old) → Each P (dropped old new)
dropped_each P old new h = each_filter P (λ (m : ℕ). not (has_number new m)) (numbers_in old) h

pub dropped_below : (next : ℕ) (old new : List Cell) → Each (λ (n : ℕ). n < next) (numbers_in old) → Each (λ (n : ℕ). n < next) (dropped old new)
dropped_below next old new h = dropped_each (λ (n : ℕ). n < next) old new h

pub dropped_all : (old new : List Cell) (P : ℕ → Type 0) → ((n : ℕ) → has_number old n ≡ true → P n) → Each P (dropped old new)
dropped_all old new P h = dropped_each P old new (among_each P (numbers_in old) h)
