-- The terms of refusals that several calls have. A term is a refusal where it holds, and else nothing.
use Rattle.std.specs.Prelude.{ℕ, ℤ, pos, negsuc, ◌+◌, Bool, true, not, nat_lt, int_lt, List, map, Option, Some, None, is_none, if◌then◌else◌}
use Rattle.lo_base.specs.declared.refusal.Cause.{Cause}
use Rattle.lo_base.specs.declared.refusal.Cause.TheVariants.{NoObject, NoOids, ObjectExists, BadSeek, BadLength, BadWrite, TooMuch, Busy}
use Rattle.lo_base.specs.declared.refusal.Refusal.{Refusal}
use Rattle.lo_model.specs.Edit.{Deed}
use Rattle.lo_model.specs.Listing.{has_object}
use Rattle.lo_model.specs.Touch.{touched, busy_with_any}
use Rattle.lo_pages.specs.Outcome.{largest_size}
use Rattle.lo_calls.specs.Row.{Here, view_of}

-- a term that holds where a test does
abbrev pub when : Bool → Cause → ℤ → Option Refusal
when test cause subject = if test then Some (record { cause = cause; subject = subject }) else None

-- an object that the session's current view has not, or has
abbrev pub no_object : Here → (oid : ℕ) → Option Refusal
no_object here o = when (not (has_object (view_of here) o)) NoObject (pos o)

abbrev pub object_exists : Here → (oid : ℕ) → Option Refusal
object_exists here o = when (has_object (view_of here) o) ObjectExists (pos o)

-- the most bytes that one request reads
abbrev pub read_limit : ℕ
read_limit = 16777216

-- a number that is below 0 or above a limit
abbrev pub is_outside : (most : ℕ) → ℤ → Bool
is_outside most (pos n) = nat_lt most n
is_outside most (negsuc n) = true

-- an offset that no object has
abbrev pub bad_offset : ℤ → Option Refusal
bad_offset at = when (is_outside largest_size at) BadSeek at

-- so many bytes from an offset on that would end above the largest size
abbrev pub bad_write : (at count : ℕ) → Option Refusal
bad_write at count = when (nat_lt largest_size (at + count)) BadWrite (pos count)

abbrev pub bad_length : ℤ → Option Refusal
bad_length length = when (int_lt length (pos 0)) BadLength length

-- so many bytes that would be read
abbrev pub too_much : (count : ℕ) → Option Refusal
too_much count = when (nat_lt read_limit count) TooMuch (pos count)

-- no number is left to pick
abbrev pub no_oids : (picked : Option ℕ) → Option Refusal
no_oids picked = when (is_none picked) NoOids (pos 0)

-- the lowest other session that holds something of what would be touched
abbrev pub held_by_session : Option ℕ → Option Refusal
held_by_session None = None
held_by_session (Some s) = Some (record { cause = Busy; subject = pos s })

abbrev pub busy_for : Here → List Deed → Option Refusal
busy_for here deeds = held_by_session (busy_with_any here.session (map touched deeds) here.edits)

-- a number, 0 where it is negative
abbrev pub count_of : ℤ → ℕ
count_of (pos n) = n
count_of (negsuc n) = 0
