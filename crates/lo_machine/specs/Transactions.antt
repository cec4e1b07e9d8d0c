-- What both requests that name a savepoint are refused by, and which requests end a block's failure.
use Rattle.std.specs.Prelude.{ℕ, pos, Bool, true, false}
use Rattle.lo_base.specs.declared.refusal.Cause.{Cause}
use Rattle.lo_base.specs.declared.refusal.Cause.TheVariants.{NoBlock, NoSavepoint}
use Rattle.lo_base.specs.declared.refusal.Refusal.{Refusal}
use Rattle.lo_base.specs.declared.request.Request.{Request}
use Rattle.lo_base.specs.declared.request.Request.TheVariants.{Commit, Rollback, RollbackTo}
use Rattle.lo_model.specs.Transaction.{is_open}
use Rattle.lo_machine.specs.State.{State, session_of}
use Rattle.lo_machine.specs.Terms.{refusal}

abbrev pub missing_level : (in_block : Bool) → Cause
missing_level true = NoSavepoint
missing_level false = NoBlock

abbrev pub no_level : State → (session : ℕ) → Refusal
no_level st s = refusal (missing_level (is_open (session_of st s).transaction)) (pos 0)

-- which of the requests that are served may end a block's failure
abbrev pub may_recover : Request → Bool
may_recover Commit = true
may_recover Rollback = true
may_recover (RollbackTo name) = true
may_recover r = false
