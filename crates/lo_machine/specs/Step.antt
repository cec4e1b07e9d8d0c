-- What one request does: a row for each form, which is the terms of its refusals in order, and what is granted where none of
-- them holds. The rows of a family stand together, each in the file of its family; those of requests on data are in CallRow. A
-- vacuum gives back what no kept view needs, and so changes no reply but its own.
use Rattle.std.specs.Prelude.{ℕ, pos, Bool, true, false, not, ◌&&◌, List, [], ◌∷◌, Option, Some, None, is_some}
use Rattle.lo_base.specs.declared.reply.Reply.{Reply}
use Rattle.lo_base.specs.declared.reply.Reply.TheVariants.{Word}
use Rattle.lo_base.specs.declared.reply.Word.TheVariants as words
use Rattle.lo_base.specs.declared.refusal.Cause.TheVariants.{Failed}
use Rattle.lo_base.specs.declared.refusal.Refusal.{Refusal}
use Rattle.lo_base.specs.declared.request.Request.{Request}
use Rattle.lo_base.specs.declared.request.Request.TheVariants.{Begin, Commit, Rollback, Savepoint, Release, RollbackTo, Vacuum, Vacuumlo, Step, Finish}
use Rattle.lo_calls.specs.Terms.{when}
use Rattle.lo_machine.specs.CallRow.{call_row}
use Rattle.lo_machine.specs.CallRows.{call_refusals, call_granted, misplaced}
use Rattle.lo_machine.specs.State.{State, Outcome, answered, session_of, state_with, refused}
use Rattle.lo_machine.specs.SweepRows.{vacuumlo_refusals, vacuumlo_granted, act_of, act_refusals, act_granted, told_of, is_idle}
use Rattle.lo_machine.specs.Terms.{in_block}
use Rattle.lo_pages.specs.Outcome.{first_of}
use Rattle.lo_machine.specs.TransactionRows.{begin_granted, commit_granted, rollback_granted, savepoint_refusals, saved, level_refusals, release_granted, rollback_to_granted}

-- the terms of a request's refusals, in order
abbrev pub refusals : State → (session : ℕ) → Request → List (Option Refusal)
refusals st s Begin = []
refusals st s Commit = []
refusals st s Rollback = []
refusals st s (Savepoint name) = savepoint_refusals st s
refusals st s (Release name) = level_refusals st s name
refusals st s (RollbackTo name) = level_refusals st s name
refusals st s Vacuum = in_block st s ∷ []
refusals st s (Vacuumlo dry limit) = vacuumlo_refusals st s
refusals st s Step = act_refusals st s (act_of st s)
refusals st s Finish = act_refusals st s (act_of st s)
refusals st s r = misplaced st s r ∷ call_refusals st s (call_row r)

-- what is granted where no term holds
abbrev pub granted : State → (session : ℕ) → Request → Outcome
granted st s Begin = begin_granted st s
granted st s Commit = commit_granted st s
granted st s Rollback = rollback_granted st s
granted st s (Savepoint name) = saved st s name
granted st s (Release name) = release_granted st s name
granted st s (RollbackTo name) = rollback_to_granted st s name
granted st s Vacuum = answered st s (Word words.Vacuum)
granted st s (Vacuumlo dry limit) = vacuumlo_granted st s dry limit
granted st s Step = act_granted st s (act_of st s)
granted st s Finish = act_granted st s (act_of st s)
granted st s r = call_granted st s (call_row r)

-- Which requests a failed block lets through: those that may end its failure, and the acts of a clean-up that is before its
-- report, since the next of them is the rollback.
abbrev pub may_go_on : State → (session : ℕ) → Request → Bool
may_go_on st s Commit = true
may_go_on st s Rollback = true
may_go_on st s (RollbackTo name) = true
may_go_on st s Step = not (is_idle (act_of st s))
may_go_on st s Finish = not (is_idle (act_of st s))
may_go_on st s _ = false

abbrev pub failed : State → (session : ℕ) → Request → Option Refusal
failed st s request = when ((session_of st s).transaction.failed && not (may_go_on st s request)) Failed (pos 0)

-- the refusal of a request: the first term that holds, that of a failed block before all others
abbrev pub refusal_of : State → (session : ℕ) → Request → Option Refusal
refusal_of st s request = first_of (failed st s request ∷ refusals st s request)

abbrev pub granted_or_refused : State → (session : ℕ) → Request → Option Refusal → Outcome
granted_or_refused st s request None = granted st s request
granted_or_refused st s request (Some r) = refused st s r

-- what a request does in a block that is not failed, or outside one
abbrev pub tried : State → (session : ℕ) → Request → Outcome
tried st s request = granted_or_refused st s request (first_of (refusals st s request))

-- a clean-up is told what became of its act
abbrev pub told_sweep : State → (session : ℕ) → Request → (refused : Bool) → Outcome → Outcome
told_sweep st s Step is_refused done = told_of st s (act_of st s) is_refused done
told_sweep st s Finish is_refused done = told_of st s (act_of st s) is_refused done
told_sweep st s _ is_refused done = done

abbrev pub outcome : State → (session : ℕ) → Request → Outcome
outcome st s request =
    told_sweep st s request (is_some (refusal_of st s request)) (granted_or_refused st s request (refusal_of st s request))

abbrev pub reply_to : State → (session : ℕ) → Request → Reply
reply_to st s request = (outcome st s request).reply

abbrev pub state_after : State → (session : ℕ) → Request → State
state_after st s request = state_with st s (outcome st s request)
