-- Worked examples of steps and runs, each computed by the checker: a wrong one fails the crate.
use Rattle.std.proofs.Common.{◌≡◌, refl, pos, ℕ, List, [], ◌∷◌, ◌++◌, None, Some, replicate}
use Rattle.std.specs.Prelude.{Bool, codes}
use Rattle.lo_base.specs.declared.column.Column.{Column}
use Rattle.lo_base.specs.declared.value.Value.{Value}
use Rattle.lo_base.specs.declared.refusal.Cause.{Cause}
use Rattle.lo_base.specs.declared.refusal.Cause.TheVariants.{Failed, NoBlock, InBlock, NoSavepoint, NoObject, ObjectExists, Busy}
use Rattle.lo_base.specs.declared.reply.Reply.{Reply}
use Rattle.lo_base.specs.declared.reply.Reply.TheVariants.{Word, Number, Content, Refused}
use Rattle.lo_base.specs.declared.reply.Word.TheVariants as words
use Rattle.lo_base.specs.declared.request.Request.{Request}
use Rattle.lo_base.specs.declared.request.Request.TheVariants.{Begin, Commit, Rollback, Savepoint, Release, RollbackTo, LoCreate, LoPut, LoGet, Vacuum}
use Rattle.lo_model.specs.declared.owner.Owner.TheVariants.{Running, Committed}
use Rattle.lo_model.specs.Edit.{Deed, Create, Write, Edit}
use Rattle.lo_model.specs.Opening.{opened}
use Rattle.lo_machine.specs.Run.{replies_of, end_of, empty_database}

abbrev refused : Cause → (subject : ℕ) → Reply
refused cause subject = Refused (record { cause = cause; subject = pos subject })

-- the empty database is the one that an opening without tables and objects gives, whatever the plan of rows
opened_empty : (plan : List Column → List Value → List Bool) → opened plan (record { blocks = 65536; counter = 16384; tables = []; objects = [] }) ≡ empty_database
opened_empty plan = refl

-- one session creates an object, writes a byte behind a hole and reads all
abbrev written_behind_a_hole : List (List Request)
written_behind_a_hole = (LoCreate 17000 ∷ LoPut 17000 (pos 3) (65 ∷ []) ∷ LoGet 17000 (pos 0) None ∷ []) ∷ replicate 15 []

read_behind_a_hole : replies_of written_behind_a_hole (1 ∷ 1 ∷ 1 ∷ []) ≡ (1, Number (pos 17000)) ∷ (1, Word words.Ok) ∷ (1, Content (0 ∷ 0 ∷ 0 ∷ 65 ∷ [])) ∷ []
read_behind_a_hole = refl

-- refusals, and a write of no bytes
abbrev refused_requests : List (List Request)
refused_requests = (LoGet 5 (pos 0) None ∷ LoPut 5 (pos 0) [] ∷ LoCreate 5 ∷ LoCreate 5 ∷ LoPut 5 (pos 9) [] ∷ LoGet 5 (pos 0) None ∷ []) ∷ replicate 15 []

refusals_change_nothing : replies_of refused_requests (1 ∷ 1 ∷ 1 ∷ 1 ∷ 1 ∷ 1 ∷ [])
    ≡ (1, refused NoObject 5) ∷ (1, refused NoObject 5) ∷ (1, Number (pos 5)) ∷ (1, refused ObjectExists 5) ∷ (1, Word words.Ok) ∷ (1, Content []) ∷ []
refusals_change_nothing = refl

-- two sessions in turn: each request is a transaction of its own, which the other session sees from its next advance on
abbrev two_sessions : List (List Request)
two_sessions = (LoCreate 5 ∷ LoPut 5 (pos 1) (7 ∷ []) ∷ []) ∷ (LoGet 5 (pos 0) None ∷ LoGet 5 (pos 0) None ∷ []) ∷ replicate 14 []

seen_in_turn : replies_of two_sessions (1 ∷ 2 ∷ 1 ∷ 2 ∷ []) ≡ (1, Number (pos 5)) ∷ (2, Content []) ∷ (1, Word words.Ok) ∷ (2, Content (0 ∷ 7 ∷ [])) ∷ []
seen_in_turn = refl

-- a savepoint, what another session sees and may not write, a failure and its end
abbrev savepoints : List (List Request)
savepoints =
    (LoCreate 17000 ∷ Begin ∷ LoPut 17000 (pos 0) (65 ∷ []) ∷ Savepoint (codes "s") ∷ LoPut 17000 (pos 0) (66 ∷ []) ∷ RollbackTo (codes "s") ∷ LoGet 17000 (pos 0) None
    ∷ Savepoint (codes "s") ∷ Release (codes "t") ∷ LoGet 17000 (pos 0) None ∷ RollbackTo (codes "s") ∷ LoGet 17000 (pos 0) None ∷ Commit ∷ [])
    ∷ (LoGet 17000 (pos 0) None ∷ LoPut 17000 (pos 0) (67 ∷ []) ∷ LoGet 17000 (pos 0) None ∷ [])
    ∷ replicate 14 []

undone_and_committed : replies_of savepoints (1 ∷ 1 ∷ 1 ∷ 1 ∷ 1 ∷ 2 ∷ 2 ∷ 1 ∷ 1 ∷ 1 ∷ 1 ∷ 1 ∷ 1 ∷ 1 ∷ 1 ∷ 2 ∷ [])
    ≡ (1, Number (pos 17000)) ∷ (1, Word words.Begin) ∷ (1, Word words.Ok) ∷ (1, Word words.Savepoint) ∷ (1, Word words.Ok)
    ∷ (2, Content []) ∷ (2, refused Busy 1)
    ∷ (1, Word words.Rollback) ∷ (1, Content (65 ∷ [])) ∷ (1, Word words.Savepoint) ∷ (1, refused NoSavepoint 0) ∷ (1, refused Failed 0) ∷ (1, Word words.Rollback) ∷ (1, Content (65 ∷ [])) ∷ (1, Word words.Commit)
    ∷ (2, Content (65 ∷ [])) ∷ []
undone_and_committed = refl

-- requests outside a block and inside one; the commit of a failed block is a rollback
abbrev out_of_place : List (List Request)
out_of_place =
    (Commit ∷ Rollback ∷ Savepoint (codes "s") ∷ Release (codes "s") ∷ RollbackTo (codes "s") ∷ Vacuum ∷ Begin ∷ Begin ∷ LoCreate 5 ∷ Vacuum ∷ Begin ∷ Commit ∷ LoGet 5 (pos 0) None ∷ Begin ∷ LoCreate 6 ∷ Rollback ∷ LoGet 6 (pos 0) None ∷ [])
    ∷ replicate 15 []

refused_out_of_place : replies_of out_of_place (replicate 17 1)
    ≡ (1, Word words.Commit) ∷ (1, Word words.Rollback) ∷ (1, refused NoBlock 0) ∷ (1, refused NoBlock 0) ∷ (1, refused NoBlock 0) ∷ (1, Word words.Vacuum)
    ∷ (1, Word words.Begin) ∷ (1, Word words.Begin) ∷ (1, Number (pos 5)) ∷ (1, refused InBlock 0) ∷ (1, refused Failed 0) ∷ (1, Word words.Rollback) ∷ (1, refused NoObject 5)
    ∷ (1, Word words.Begin) ∷ (1, Number (pos 6)) ∷ (1, Word words.Rollback) ∷ (1, refused NoObject 6) ∷ []
refused_out_of_place = refl

-- of equal names the newest counts; a release leaves the edits to the level below, which a rollback to it then undoes
abbrev equal_names : List (List Request)
equal_names =
    (Begin ∷ LoCreate 5 ∷ Savepoint (codes "s") ∷ LoPut 5 (pos 0) (1 ∷ []) ∷ Savepoint (codes "s") ∷ LoPut 5 (pos 1) (2 ∷ []) ∷ Release (codes "s") ∷ LoGet 5 (pos 0) None ∷ RollbackTo (codes "s") ∷ LoGet 5 (pos 0) None ∷ Release (codes "s") ∷ Release (codes "s") ∷ [])
    ∷ replicate 15 []

newest_counts : replies_of equal_names (replicate 12 1)
    ≡ (1, Word words.Begin) ∷ (1, Number (pos 5)) ∷ (1, Word words.Savepoint) ∷ (1, Word words.Ok) ∷ (1, Word words.Savepoint) ∷ (1, Word words.Ok)
    ∷ (1, Word words.Release) ∷ (1, Content (1 ∷ 2 ∷ [])) ∷ (1, Word words.Rollback) ∷ (1, Content []) ∷ (1, Word words.Release) ∷ (1, refused NoSavepoint 0) ∷ []
newest_counts = refl

-- two sessions write neighbouring blocks of one object and both commit; the third names the lowest of those that hold the
-- bytes which it would write, and the fourth may not create the object that another has created
abbrev neighbours : List (List Request)
neighbours =
    (LoCreate 5 ∷ LoPut 5 (pos 4095) (9 ∷ []) ∷ Begin ∷ LoPut 5 (pos 2047) (1 ∷ []) ∷ Commit ∷ [])
    ∷ (Begin ∷ LoPut 5 (pos 2048) (2 ∷ []) ∷ LoCreate 6 ∷ Commit ∷ [])
    ∷ (LoPut 5 (pos 2047) (3 ∷ 4 ∷ []) ∷ LoPut 5 (pos 4096) (5 ∷ []) ∷ LoPut 5 (pos 2048) [] ∷ LoPut 5 (pos 2047) (3 ∷ 4 ∷ []) ∷ [])
    ∷ (LoCreate 6 ∷ LoGet 6 (pos 0) None ∷ [])
    ∷ replicate 12 []

held_by_the_lowest : replies_of neighbours (1 ∷ 1 ∷ 2 ∷ 2 ∷ 1 ∷ 1 ∷ 3 ∷ 3 ∷ 3 ∷ 2 ∷ 4 ∷ 4 ∷ 1 ∷ 3 ∷ 2 ∷ [])
    ≡ (1, Number (pos 5)) ∷ (1, Word words.Ok) ∷ (2, Word words.Begin) ∷ (2, Word words.Ok) ∷ (1, Word words.Begin) ∷ (1, Word words.Ok)
    ∷ (3, refused Busy 1) ∷ (3, Word words.Ok) ∷ (3, Word words.Ok)
    ∷ (2, Number (pos 6)) ∷ (4, refused Busy 2) ∷ (4, refused NoObject 6)
    ∷ (1, Word words.Commit) ∷ (3, refused Busy 2) ∷ (2, Word words.Commit) ∷ []
held_by_the_lowest = refl

-- what another session commits between two reads of a block is in the second
abbrev committed_between : List (List Request)
committed_between = (LoCreate 5 ∷ LoPut 5 (pos 0) (1 ∷ []) ∷ []) ∷ (Begin ∷ LoGet 5 (pos 0) None ∷ LoGet 5 (pos 0) None ∷ []) ∷ replicate 14 []

read_committed : replies_of committed_between (1 ∷ 2 ∷ 2 ∷ 1 ∷ 2 ∷ [])
    ≡ (1, Number (pos 5)) ∷ (2, Word words.Begin) ∷ (2, Content []) ∷ (1, Word words.Ok) ∷ (2, Content (1 ∷ [])) ∷ []
read_committed = refl

-- a release takes the levels above with it
abbrev three_levels : List (List Request)
three_levels = (Begin ∷ Savepoint (codes "a") ∷ Savepoint (codes "b") ∷ Savepoint (codes "c") ∷ Release (codes "b") ∷ Release (codes "c") ∷ RollbackTo (codes "a") ∷ []) ∷ replicate 15 []

released_in_the_middle : replies_of three_levels (replicate 7 1)
    ≡ (1, Word words.Begin) ∷ (1, Word words.Savepoint) ∷ (1, Word words.Savepoint) ∷ (1, Word words.Savepoint) ∷ (1, Word words.Release) ∷ (1, refused NoSavepoint 0) ∷ (1, Word words.Rollback) ∷ []
released_in_the_middle = refl

-- a begin in a block changes nothing: the savepoint stays, and nothing is committed
abbrev begun_again : List (List Request)
begun_again =
    (Begin ∷ LoCreate 5 ∷ Savepoint (codes "s") ∷ LoPut 5 (pos 0) (1 ∷ []) ∷ Begin ∷ RollbackTo (codes "s") ∷ LoGet 5 (pos 0) None ∷ Rollback ∷ LoGet 5 (pos 0) None ∷ [])
    ∷ (LoGet 5 (pos 0) None ∷ [])
    ∷ replicate 14 []

begun_once : replies_of begun_again (1 ∷ 1 ∷ 1 ∷ 1 ∷ 1 ∷ 2 ∷ 1 ∷ 1 ∷ 1 ∷ 1 ∷ [])
    ≡ (1, Word words.Begin) ∷ (1, Number (pos 5)) ∷ (1, Word words.Savepoint) ∷ (1, Word words.Ok) ∷ (1, Word words.Begin) ∷ (2, refused NoObject 5)
    ∷ (1, Word words.Rollback) ∷ (1, Content []) ∷ (1, Word words.Rollback) ∷ (1, refused NoObject 5) ∷ []
begun_once = refl

-- a released level's edits are those of the level below it, so that a rollback to a later savepoint in its place keeps them;
-- a commit commits those of all levels
abbrev released_once : List (List Request)
released_once =
    (Begin ∷ LoCreate 5 ∷ Savepoint (codes "a") ∷ Savepoint (codes "b") ∷ LoPut 5 (pos 0) (1 ∷ []) ∷ Release (codes "b") ∷ Savepoint (codes "c") ∷ RollbackTo (codes "c") ∷ LoGet 5 (pos 0) None ∷ LoPut 5 (pos 1) (2 ∷ []) ∷ Commit ∷ [])
    ∷ (LoGet 5 (pos 0) None ∷ [])
    ∷ replicate 14 []

kept_by_the_level_below : replies_of released_once (replicate 11 1 ++ 2 ∷ [])
    ≡ (1, Word words.Begin) ∷ (1, Number (pos 5)) ∷ (1, Word words.Savepoint) ∷ (1, Word words.Savepoint) ∷ (1, Word words.Ok) ∷ (1, Word words.Release)
    ∷ (1, Word words.Savepoint) ∷ (1, Word words.Rollback) ∷ (1, Content (1 ∷ [])) ∷ (1, Word words.Ok) ∷ (1, Word words.Commit)
    ∷ (2, Content (1 ∷ 2 ∷ [])) ∷ []
kept_by_the_level_below = refl

-- each refusal fails the block that it is in
abbrev failing : List (List Request)
failing =
    (LoCreate 5 ∷ Begin ∷ LoPut 5 (pos 0) (1 ∷ []) ∷ LoCreate 6 ∷ [])
    ∷ (Begin ∷ LoGet 9 (pos 0) None ∷ LoGet 5 (pos 0) None ∷ Rollback
    ∷ Begin ∷ LoPut 6 (pos 0) (1 ∷ []) ∷ Commit
    ∷ Begin ∷ LoCreate 5 ∷ Commit
    ∷ Begin ∷ LoPut 5 (pos 0) (2 ∷ []) ∷ Commit ∷ [])
    ∷ replicate 14 []

each_fails_its_block : replies_of failing (replicate 4 1 ++ replicate 13 2)
    ≡ (1, Number (pos 5)) ∷ (1, Word words.Begin) ∷ (1, Word words.Ok) ∷ (1, Number (pos 6))
    ∷ (2, Word words.Begin) ∷ (2, refused NoObject 9) ∷ (2, refused Failed 0) ∷ (2, Word words.Rollback)
    ∷ (2, Word words.Begin) ∷ (2, refused NoObject 6) ∷ (2, Word words.Rollback)
    ∷ (2, Word words.Begin) ∷ (2, refused ObjectExists 5) ∷ (2, Word words.Rollback)
    ∷ (2, Word words.Begin) ∷ (2, refused Busy 1) ∷ (2, Word words.Rollback) ∷ []
each_fails_its_block = refl

-- a refusal lets go of what the top level held, and of nothing below it
abbrev failing_writer : List (List Request)
failing_writer =
    (LoCreate 5 ∷ Begin ∷ LoPut 5 (pos 0) (1 ∷ []) ∷ Savepoint (codes "s") ∷ LoPut 5 (pos 2048) (2 ∷ []) ∷ Savepoint (codes "s") ∷ LoPut 5 (pos 4096) (3 ∷ []) ∷ LoGet 9 (pos 0) None ∷ [])
    ∷ (LoPut 5 (pos 4096) [] ∷ LoPut 5 (pos 4096) (4 ∷ []) ∷ LoPut 5 (pos 4096) (4 ∷ []) ∷ LoPut 5 (pos 2048) (4 ∷ []) ∷ LoPut 5 (pos 0) (4 ∷ []) ∷ [])
    ∷ replicate 14 []

top_level_let_go : replies_of failing_writer (replicate 7 1 ++ 2 ∷ 2 ∷ 1 ∷ 2 ∷ 2 ∷ 2 ∷ [])
    ≡ (1, Number (pos 5)) ∷ (1, Word words.Begin) ∷ (1, Word words.Ok) ∷ (1, Word words.Savepoint) ∷ (1, Word words.Ok) ∷ (1, Word words.Savepoint) ∷ (1, Word words.Ok)
    ∷ (2, Word words.Ok) ∷ (2, refused Busy 1)
    ∷ (1, refused NoObject 9) ∷ (2, Word words.Ok) ∷ (2, refused Busy 1) ∷ (2, refused Busy 1) ∷ []
top_level_let_go = refl

-- a failed block lets through neither a savepoint nor a release, nor a name that is not there, and a rollback ends it
abbrev failed_requests : List (List Request)
failed_requests =
    (Begin ∷ Savepoint (codes "s") ∷ LoGet 9 (pos 0) None ∷ Savepoint (codes "t") ∷ Release (codes "s") ∷ LoCreate 6 ∷ LoPut 9 (pos 0) (1 ∷ []) ∷ Vacuum ∷ RollbackTo (codes "t") ∷ LoGet 9 (pos 0) None ∷ Rollback ∷ LoGet 6 (pos 0) None ∷ [])
    ∷ replicate 15 []

refused_while_failed : replies_of failed_requests (replicate 12 1)
    ≡ (1, Word words.Begin) ∷ (1, Word words.Savepoint) ∷ (1, refused NoObject 9) ∷ (1, refused Failed 0) ∷ (1, refused Failed 0) ∷ (1, refused Failed 0) ∷ (1, refused Failed 0) ∷ (1, refused Failed 0)
    ∷ (1, refused NoSavepoint 0) ∷ (1, refused Failed 0) ∷ (1, Word words.Rollback) ∷ (1, refused NoObject 6) ∷ []
refused_while_failed = refl

-- some of an object's bytes, from a place on
abbrev read_in_part : List (List Request)
read_in_part =
    (LoCreate 5 ∷ LoPut 5 (pos 0) (1 ∷ 2 ∷ 3 ∷ 4 ∷ []) ∷ LoGet 5 (pos 1) (Some (pos 2)) ∷ LoGet 5 (pos 3) (Some (pos 2)) ∷ LoGet 5 (pos 4) None ∷ [])
    ∷ replicate 15 []

some_bytes : replies_of read_in_part (replicate 5 1)
    ≡ (1, Number (pos 5)) ∷ (1, Word words.Ok) ∷ (1, Content (2 ∷ 3 ∷ [])) ∷ (1, Content (4 ∷ [])) ∷ (1, Content []) ∷ []
some_bytes = refl

-- the edits of a run, with the clocks of the requests that made them and of those that committed them
abbrev alone_and_in_a_block : List (List Request)
alone_and_in_a_block = (LoCreate 5 ∷ Begin ∷ LoPut 5 (pos 3) (65 ∷ []) ∷ Savepoint (codes "s") ∷ LoCreate 6 ∷ Commit ∷ []) ∷ replicate 15 []

abbrev edits_of : (schedule : List ℕ) → List (Edit Deed)
edits_of schedule = (end_of alone_and_in_a_block schedule).state.database.edits

open_edits : edits_of (replicate 5 1)
    ≡ record { clock = 1; owner = Committed 1; deed = Create 5 } ∷ record { clock = 3; owner = Running 1 1; deed = Write 5 3 (65 ∷ []) } ∷ record { clock = 5; owner = Running 1 2; deed = Create 6 } ∷ []
open_edits = refl

committed_edits : edits_of (replicate 6 1)
    ≡ record { clock = 1; owner = Committed 1; deed = Create 5 } ∷ record { clock = 3; owner = Committed 6; deed = Write 5 3 (65 ∷ []) } ∷ record { clock = 5; owner = Committed 6; deed = Create 6 } ∷ []
committed_edits = refl
