-- Which values of a row are moved out (PostgreSQL manual, section TOAST, for values that do not compress).
use Rattle.std.specs.Prelude.{◌≡◌, ◌≤◌, take, drop, ℕ, zero, suc, ◌+◌, ◌-◌, ◌==◌, nat_le, nat_lt, Bool, true, false, not, ◌&&◌, ◌||◌, if◌then◌else◌, List, [], ◌∷◌, ◌++◌, length, count_by, replicate, Option, Some, None, option_to_list, Result, Ok, Err}
use Rattle.std.specs.Option.{option_map_or}
use Rattle.lo_base.specs.declared.column.Column.{Column}
use Rattle.lo_base.specs.declared.column.Storage.{Storage}
use Rattle.lo_base.specs.declared.column.Storage.TheVariants.{Plain, External, Extended, Main}
use Rattle.toast_plan.specs.declared.layout.Plan.{Plan}
use Rattle.toast_plan.specs.declared.layout.RowTooBig.{RowTooBig}
use Rattle.toast_plan.specs.Layout.{up_to_8, value_header, data_length, header_length, row_length}

-- the storages whose values the first round moves
abbrev pub moves_first : Storage → Bool
moves_first Plain = false
moves_first External = true
moves_first Extended = true
moves_first Main = false

-- the storage whose values the second round moves
abbrev pub moves_second : Storage → Bool
moves_second Plain = false
moves_second External = false
moves_second Extended = false
moves_second Main = true

-- a value that may move out: the place of its column and its length
pub record Candidate : Type 0 where
  pub place : ℕ
  pub bytes : ℕ

-- a value is a candidate of the round of its storage where it is not outside yet and has, with its header, more than
-- 24 bytes
abbrev pub candidate_at : (Storage → Bool) → ℕ → Column → Option ℕ → Bool → Option Candidate
candidate_at moves place c None out = None
candidate_at moves place c (Some n) out =
    if moves c.storage && nat_lt 24 (n + value_header c.storage n) && not out then Some (record { place = place; bytes = n }) else None

-- the candidates among the columns from the place `k` on
abbrev pub candidates_from : (Storage → Bool) → ℕ → List Column → List (Option ℕ) → List Bool → List Candidate
candidates_from moves k [] ns os = []
candidates_from moves k (c ∷ cs) [] os = []
candidates_from moves k (c ∷ cs) (n ∷ ns) [] = []
candidates_from moves k (c ∷ cs) (n ∷ ns) (o ∷ os) = option_to_list (candidate_at moves k c n o) ++ candidates_from moves (k + 1) cs ns os

abbrev pub candidates : (Storage → Bool) → List Column → List (Option ℕ) → List Bool → List Candidate
candidates moves cs ns os = candidates_from moves 0 cs ns os

-- the order of the candidates: the longer first, of equal ones the one of the earlier column
abbrev pub goes_before : Candidate → Candidate → Bool
goes_before a b = nat_lt b.bytes a.bytes || (a.bytes == b.bytes && nat_lt a.place b.place)

-- how many of them stand before a candidate in that order
abbrev pub place_in_order : List Candidate → Candidate → ℕ
place_in_order all a = count_by (λ b. goes_before b a) all

-- whether it is one of the first `count` in that order
abbrev pub is_among_first : ℕ → List Candidate → Candidate → Bool
is_among_first count all a = nat_lt (place_in_order all a) count

-- the values outside once the candidates that pass the test moved out too, from the column at the place `k` on
abbrev pub with_moved_from : (Candidate → Bool) → (Storage → Bool) → ℕ → List Column → List (Option ℕ) → List Bool → List Bool
with_moved_from test moves k [] ns os = os
with_moved_from test moves k (c ∷ cs) [] os = os
with_moved_from test moves k (c ∷ cs) (n ∷ ns) [] = []
with_moved_from test moves k (c ∷ cs) (n ∷ ns) (o ∷ os) =
    (o || option_map_or test (candidate_at moves k c n o) false) ∷ with_moved_from test moves (k + 1) cs ns os

-- the values outside once the first `count` candidates of the order moved out too
abbrev pub with_first : (Storage → Bool) → ℕ → List Column → List (Option ℕ) → List Bool → List Bool
with_first moves count cs ns os = with_moved_from (is_among_first count (candidates moves cs ns os)) moves 0 cs ns os

-- the least number that passes the test, or the limit where no number below it does
abbrev pub least : (ℕ → Bool) → ℕ → ℕ
least test zero = 0
least test (suc limit) = if test 0 then 0 else suc (least (λ n. test (n + 1)) limit)

-- whether the data are no longer than the target with these values outside
abbrev pub fits : ℕ → List Column → List (Option ℕ) → List Bool → Bool
fits target cs ns os = nat_le (data_length cs ns os) target

-- how many candidates move out: the least number, from the front of the order, such that the data fit, or all of them
abbrev pub moves_needed : (Storage → Bool) → ℕ → List Column → List (Option ℕ) → List Bool → ℕ
moves_needed moves target cs ns os = least (λ count. fits target cs ns (with_first moves count cs ns os)) (length (candidates moves cs ns os))

abbrev pub after_round : (Storage → Bool) → ℕ → List Column → List (Option ℕ) → List Bool → List Bool
after_round moves target cs ns os = with_first moves (moves_needed moves target cs ns os) cs ns os

-- the lengths that the data are to have after the two rounds: a row is to have 2032 bytes, or else at most 8160
abbrev pub first_target : List (Option ℕ) → ℕ
first_target ns = 2032 - header_length ns

abbrev pub second_target : List (Option ℕ) → ℕ
second_target ns = 8160 - header_length ns

-- which values are outside after the first round, and after both
abbrev pub outside_first : List Column → List (Option ℕ) → List Bool
outside_first cs ns = after_round moves_first (first_target ns) cs ns (replicate (length cs) false)

abbrev pub outside_of : List Column → List (Option ℕ) → List Bool
outside_of cs ns = after_round moves_second (second_target ns) cs ns (outside_first cs ns)

-- the row's length after the moves
abbrev pub planned_length : List Column → List (Option ℕ) → ℕ
planned_length cs ns = row_length cs ns (outside_of cs ns)

-- the rounded length of a row that is too big, with all moved that can be. There is none where the row fits
abbrev pub too_long : List Column → List (Option ℕ) → Option ℕ
too_long cs ns = let size = up_to_8 (planned_length cs ns) in if nat_lt 8160 size then Some size else None

-- the length that a refused plan names
abbrev pub refused_size : Result Plan RowTooBig → Option ℕ
refused_size (Ok p) = None
refused_size (Err e) = Some e.size

-- the plan for values of these lengths, which are not too big for a row
pub record IsPlanFor (columns : List Column) (ns : List (Option ℕ)) (p : Plan) : Type 0 where
  pub fits : up_to_8 (planned_length columns ns) ≤ 8160
  pub size : p.size ≡ planned_length columns ns
  pub outside : take (length columns) p.outside ≡ outside_of columns ns
  pub others : drop (length columns) p.outside ≡ replicate (32 - length columns) false
