-- The terms of refusals that several calls have. A term is a refusal where it holds, and else nothing.
use Rattle.std.specs.Prelude.{ℕ, ℤ, pos, negsuc, Bool, not, nat_lt, int_lt, List, [], ◌∷◌, Option, Some, None, is_none, if◌then◌else◌}
use Rattle.lo_base.specs.declared.column.Column.{Column}
use Rattle.lo_base.specs.declared.refusal.Cause.{Cause}
use Rattle.lo_base.specs.declared.refusal.Cause.TheVariants.{NoTable, NoRow, RowExists, RowTooBig, Busy, BadLength}
use Rattle.lo_base.specs.declared.refusal.Refusal.{Refusal}
use Rattle.lo_model.specs.Listing.{has_row}
use Rattle.lo_model.specs.Touch.{RowOf, Touched, busy_with}
use Rattle.toast_plan.specs.Choice.{planned_length}
use Rattle.toast_plan.specs.Layout.{up_to_8}
use Rattle.row_tables.specs.Catalog.{table_in}
use Rattle.row_tables.specs.Row.{Here}

abbrev pub refusal : Cause → ℤ → Refusal
refusal cause subject = record { cause = cause; subject = subject }

-- a term that holds where a test does
abbrev pub when : Bool → Cause → ℤ → Option Refusal
when test cause subject = if test then Some (refusal cause subject) else None

-- the first term that holds
abbrev pub first_of : List (Option Refusal) → Option Refusal
first_of [] = None
first_of (None ∷ terms) = first_of terms
first_of (Some r ∷ terms) = Some r

abbrev pub no_table : Here → (table : List ℕ) → Option Refusal
no_table here t = when (is_none (table_in t here.tables)) NoTable (pos 0)

-- a row that the view has not, or has
abbrev pub no_row : Here → (table : List ℕ) → (id : ℤ) → Option Refusal
no_row here t i = when (not (has_row here.view t i)) NoRow i

abbrev pub row_exists : Here → (table : List ℕ) → (id : ℤ) → Option Refusal
row_exists here t i = when (has_row here.view t i) RowExists i

-- the most bytes of a row
abbrev pub row_limit : ℕ
row_limit = 8160

-- how long a row is with all moved out that its plan moves, rounded up to a multiple of 8
abbrev pub rounded_length : List Column → (lengths : List (Option ℕ)) → ℕ
rounded_length columns lengths = up_to_8 (planned_length columns lengths)

abbrev pub row_too_big : List Column → (lengths : List (Option ℕ)) → Option Refusal
row_too_big columns lengths = when (nat_lt row_limit (rounded_length columns lengths)) RowTooBig (pos (rounded_length columns lengths))

-- the lowest other session that holds something of what would be touched
abbrev pub held_by_session : Option ℕ → Option Refusal
held_by_session None = None
held_by_session (Some s) = Some (refusal Busy (pos s))

abbrev pub busy_for : Here → Touched → Option Refusal
busy_for here wanted = held_by_session (busy_with here.session wanted here.edits)

abbrev pub busy : Here → (table : List ℕ) → (id : ℤ) → Option Refusal
busy here t i = busy_for here (RowOf t i)

abbrev pub bad_length : ℤ → Option Refusal
bad_length length = when (int_lt length (pos 0)) BadLength length

-- a number, 0 where it is negative
abbrev pub count_of : ℤ → ℕ
count_of (pos n) = n
count_of (negsuc n) = 0
