-- The terms of refusals on where a request may stand, and on the pool. A term is a refusal where it holds, and else nothing.
-- Those of large objects stand in lo_calls, those of tables in row_tables.
use Rattle.std.specs.Prelude.{ℕ, ℤ, pos, ◌+◌, not, ◌&&◌, nat_lt, List, length, Option, Some, None}
use Rattle.lo_base.specs.declared.refusal.Cause.{Cause}
use Rattle.lo_base.specs.declared.refusal.Cause.TheVariants.{NoBlock, InBlock, PoolShort}
use Rattle.lo_base.specs.declared.refusal.Refusal.{Refusal}
use Rattle.lo_calls.specs.Terms.{when}
use Rattle.lo_model.specs.Edit.{Deed}
use Rattle.lo_model.specs.Held.{held_versions, need_of}
use Rattle.lo_model.specs.Transaction.{is_open}
use Rattle.lo_machine.specs.State.{State, now, edits, session_of}

abbrev pub refusal : Cause → ℤ → Refusal
refusal cause subject = record { cause = cause; subject = subject }

abbrev pub no_block : State → (session : ℕ) → Option Refusal
no_block st s = when (not (is_open (session_of st s).transaction)) NoBlock (pos 0)

abbrev pub in_block : State → (session : ℕ) → Option Refusal
in_block st s = when (is_open (session_of st s).transaction) InBlock (pos 0)

-- The pool is too small for what a request needs and what the kept views hold. Nothing is refused where blocks are not
-- counted, nor a request that needs none.
abbrev pub held_count : State → ℕ
held_count st = length (held_versions (now st) (session_of st) (edits st))

abbrev pub short_of : (blocks : Option ℕ) → (need held : ℕ) → Option Refusal
short_of None need held = None
short_of (Some blocks) need held = when (nat_lt 0 need && nat_lt blocks (need + held)) PoolShort (pos need)

abbrev pub pool_short : State → List Deed → Option Refusal
pool_short st deeds = short_of st.blocks (need_of (now st) deeds) (held_count st)
