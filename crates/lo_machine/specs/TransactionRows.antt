-- The requests of transaction blocks: the terms of their refusals in order, and what is granted where none holds. (Manual,
-- BEGIN, COMMIT, ROLLBACK, SAVEPOINT, RELEASE SAVEPOINT, ROLLBACK TO SAVEPOINT.)
use Rattle.std.specs.Prelude.{ℕ, pos, Bool, true, false, List, [], ◌∷◌, Option, Some, None, is_none}
use Rattle.lo_base.specs.declared.reply.Reply.{Reply}
use Rattle.lo_base.specs.declared.reply.Reply.TheVariants.{Word}
use Rattle.lo_base.specs.declared.reply.Word.TheVariants as words
use Rattle.lo_base.specs.declared.refusal.Cause.TheVariants.{NoSavepoint}
use Rattle.lo_base.specs.declared.refusal.Refusal.{Refusal}
use Rattle.lo_model.specs.Edit.{Deed, Edit}
use Rattle.lo_model.specs.Levels.{released, undone, committed, aborted}
use Rattle.lo_model.specs.Session.{idle_session, session_begun, session_saved, session_released, session_undone}
use Rattle.lo_model.specs.Transaction.{is_open, newest}
use Rattle.lo_machine.specs.State.{State, Outcome, now, edits, session_of, answered, left_with}
use Rattle.lo_calls.specs.Terms.{when}
use Rattle.lo_machine.specs.Terms.{no_block}

-- a savepoint's level, the newest where several have the name
abbrev pub level_named : State → (session : ℕ) → (name : List ℕ) → Option ℕ
level_named st s name = newest name (session_of st s).transaction.levels

abbrev pub no_savepoint : State → (session : ℕ) → (name : List ℕ) → Option Refusal
no_savepoint st s name = when (is_none (level_named st s name)) NoSavepoint (pos 0)

abbrev pub level_or_0 : Option ℕ → ℕ
level_or_0 None = 0
level_or_0 (Some k) = k

-- begin: inside a block it changes nothing
abbrev pub begun : State → (session : ℕ) → (in_block : Bool) → Outcome
begun st s true = answered st s (Word words.Begin)
begun st s false = left_with st s (Word words.Begin) (edits st) session_begun

-- the end of a block, with its descriptors and cursors, which leaves these edits
abbrev pub ended : State → (session : ℕ) → Reply → List (Edit Deed) → Outcome
ended st s reply new = left_with st s reply new idle_session

-- rollback: outside a block it changes nothing
abbrev pub rolled_back : State → (session : ℕ) → (in_block : Bool) → Outcome
rolled_back st s false = answered st s (Word words.Rollback)
rolled_back st s true = ended st s (Word words.Rollback) (aborted s (edits st))

-- commit: outside a block it changes nothing, and that of a failed block is a rollback
abbrev pub committed_in : State → (session : ℕ) → (in_block failed : Bool) → Outcome
committed_in st s false failed = answered st s (Word words.Commit)
committed_in st s true true = rolled_back st s true
committed_in st s true false = ended st s (Word words.Commit) (committed s (now st) (edits st))

abbrev pub saved : State → (session : ℕ) → (name : List ℕ) → Outcome
saved st s name = left_with st s (Word words.Savepoint) (edits st) (session_saved name (session_of st s))

-- release of a savepoint: its level and all above it become one with the level below
abbrev pub released_to : State → (session level : ℕ) → Outcome
released_to st s k = left_with st s (Word words.Release) (released s k (edits st)) (session_released k (session_of st s))

-- rollback to a savepoint: its level and all above it are undone, it stays as an empty level, and the block is not failed
abbrev pub undone_to : State → (session level : ℕ) → Outcome
undone_to st s k = left_with st s (Word words.Rollback) (undone s k (edits st)) (session_undone k false (session_of st s))

abbrev pub begin_granted : State → (session : ℕ) → Outcome
begin_granted st s = begun st s (is_open (session_of st s).transaction)

abbrev pub rollback_granted : State → (session : ℕ) → Outcome
rollback_granted st s = rolled_back st s (is_open (session_of st s).transaction)

abbrev pub commit_granted : State → (session : ℕ) → Outcome
commit_granted st s = committed_in st s (is_open (session_of st s).transaction) (session_of st s).transaction.failed

abbrev pub savepoint_refusals : State → (session : ℕ) → List (Option Refusal)
savepoint_refusals st s = no_block st s ∷ []

abbrev pub level_refusals : State → (session : ℕ) → (name : List ℕ) → List (Option Refusal)
level_refusals st s name = no_block st s ∷ no_savepoint st s name ∷ []

abbrev pub release_granted : State → (session : ℕ) → (name : List ℕ) → Outcome
release_granted st s name = released_to st s (level_or_0 (level_named st s name))

abbrev pub rollback_to_granted : State → (session : ℕ) → (name : List ℕ) → Outcome
rollback_to_granted st s name = undone_to st s (level_or_0 (level_named st s name))
