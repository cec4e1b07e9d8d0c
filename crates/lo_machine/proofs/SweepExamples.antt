-- Worked examples of clean-ups of orphans, each computed by the checker: a wrong one fails the crate.
use Rattle.std.proofs.Common.{◌≡◌, refl, ℕ, pos, true, false, List, [], ◌∷◌, None}
use Rattle.std.specs.Prelude.{codes}
use Rattle.lo_base.specs.declared.refusal.Cause.TheVariants.{Failed, InBlock, NoObject, Busy}
use Rattle.lo_base.specs.declared.reply.Reply.{Reply}
use Rattle.lo_base.specs.declared.reply.Reply.TheVariants.{Word, Content, Counted, Stopped}
use Rattle.lo_base.specs.declared.reply.Word.TheVariants as words
use Rattle.lo_base.specs.declared.request.Request.TheVariants.{Begin, Commit, Rollback, LoCreate, LoUnlink, LoGet, LoPut, CreateTable, Insert, Delete, Vacuumlo, Step, Finish}
use Rattle.lo_base.specs.declared.value.Literal.TheVariants.{Null, Number}
use Rattle.lo_machine.specs.Program.{has_sweeps}
use Rattle.lo_machine.proofs.WordsOfExamples.{refused, number, ok, begun, rolled_back, committed, made, inserted, id_column, number_column, oid_column, lo_column, Turn, by_a, by_a_still, by_b, by_c, Plays, IsScheduleOfScript}

abbrev listed : ℕ → Reply
listed n = Counted words.Listed n

abbrev scanned : ℕ → Reply
scanned n = Counted words.Scanned n

abbrev removed : ℕ → Reply
removed n = Counted words.Removed n

abbrev idle : Reply
idle = Word words.Idle

-- a refused unlink stops it; the groups before stay removed
abbrev stopped : List Turn
stopped =
    by_b (LoCreate 17004) (number 17004)
    ∷ by_b (LoCreate 17002) (number 17002)
    ∷ by_b (LoCreate 17001) (number 17001)
    ∷ by_b (LoCreate 17003) (number 17003)
    ∷ by_a (Vacuumlo false 2) (listed 4)
    ∷ by_b (LoCreate 17009) (number 17009)
    ∷ by_a Step begun
    ∷ by_a Step (number 1)
    ∷ by_a Step (number 1)
    ∷ by_a Step committed
    ∷ by_b (LoUnlink 17004) (number 1)
    ∷ by_a Finish begun
    ∷ by_a_still (number 1)
    ∷ by_a_still (refused NoObject 17004)
    ∷ by_a_still rolled_back
    ∷ by_a_still (Stopped 17004 2)
    ∷ by_a (LoGet 17003 (pos 0) None) (Content [])
    ∷ by_a (LoGet 17009 (pos 0) None) (Content [])
    ∷ by_a (LoGet 17001 (pos 0) None) (refused NoObject 17001)
    ∷ by_a (LoGet 17002 (pos 0) None) (refused NoObject 17002)
    ∷ []

stopped_at_a_refusal : Plays stopped
stopped_at_a_refusal = refl

finished_in_five : IsScheduleOfScript stopped
finished_in_five = refl

-- the columns by their tables' names and then their positions; what they name is kept, and so the groups are of the rest
abbrev scans : List Turn
scans =
    by_b (LoCreate 17000) (number 17000)
    ∷ by_b (LoCreate 17001) (number 17001)
    ∷ by_b (LoCreate 17002) (number 17002)
    ∷ by_b (LoCreate 17003) (number 17003)
    ∷ by_b (LoCreate 17004) (number 17004)
    ∷ by_b (LoCreate 17005) (number 17005)
    ∷ by_b (LoCreate 17006) (number 17006)
    ∷ by_b (CreateTable (codes "b") (id_column ∷ lo_column (codes "q") ∷ number_column (codes "n") ∷ oid_column (codes "p") ∷ [])) made
    ∷ by_b (CreateTable (codes "a") (id_column ∷ oid_column (codes "o") ∷ [])) made
    ∷ by_b (Insert (codes "b") (Number (pos 1) ∷ Number (pos 17003) ∷ Number (pos 17001) ∷ Null ∷ [])) inserted
    ∷ by_b (Insert (codes "b") (Number (pos 17002) ∷ Number (pos 17006) ∷ Null ∷ Number (pos 17003) ∷ [])) inserted
    ∷ by_b (Insert (codes "b") (Number (pos 3) ∷ Number (pos 99) ∷ Null ∷ Number (pos 17000) ∷ [])) inserted
    ∷ by_b (Insert (codes "a") (Number (pos 1) ∷ Number (pos 17000) ∷ [])) inserted
    ∷ by_a (Vacuumlo false 2) (listed 7)
    ∷ by_a Step (scanned 6)
    ∷ by_a Step (scanned 4)
    ∷ by_a Step (scanned 4)
    ∷ by_a Step begun
    ∷ by_a Step (number 1)
    ∷ by_b (LoGet 17001 (pos 0) None) (Content [])
    ∷ by_a Step (number 1)
    ∷ by_a Step committed
    ∷ by_b (LoGet 17001 (pos 0) None) (refused NoObject 17001)
    ∷ by_a Finish begun
    ∷ by_a_still (number 1)
    ∷ by_a_still (number 1)
    ∷ by_a_still committed
    ∷ by_a_still (removed 4)
    ∷ by_a (LoUnlink 17000) (number 1)
    ∷ by_a (LoUnlink 17003) (number 1)
    ∷ by_a (LoUnlink 17006) (number 1)
    ∷ by_a (LoUnlink 17005) (refused NoObject 17005)
    ∷ []

scanned_and_removed : Plays scans
scanned_and_removed = refl

scans_in_a_script : IsScheduleOfScript scans
scans_in_a_script = refl

-- a dry run removes nothing. After the report all acts are idle, and a finish is one advance then
abbrev dry : List Turn
dry =
    by_b (LoCreate 17001) (number 17001)
    ∷ by_b (LoCreate 17002) (number 17002)
    ∷ by_b (CreateTable (codes "a") (id_column ∷ oid_column (codes "o") ∷ [])) made
    ∷ by_b (Insert (codes "a") (Number (pos 1) ∷ Number (pos 17001) ∷ [])) inserted
    ∷ by_a (Vacuumlo true 1) (listed 2)
    ∷ by_a Step (scanned 1)
    ∷ by_a Step (Counted words.WouldRemove 1)
    ∷ by_a Step idle
    ∷ by_a Step idle
    ∷ by_a Finish idle
    ∷ by_a (LoGet 17002 (pos 0) None) (Content [])
    ∷ by_a (Vacuumlo false 0) (listed 2)
    ∷ by_a Finish (scanned 1)
    ∷ by_a_still begun
    ∷ by_a_still (number 1)
    ∷ by_a_still committed
    ∷ by_a_still (removed 1)
    ∷ by_a (Vacuumlo false 5) (listed 1)
    ∷ by_a Finish (scanned 0)
    ∷ by_a_still (removed 0)
    ∷ by_a (Vacuumlo true 5) (listed 1)
    ∷ by_a Finish (scanned 0)
    ∷ by_a_still (Counted words.WouldRemove 0)
    ∷ []

dry_and_wet : Plays dry
dry_and_wet = refl

dry_in_a_script : IsScheduleOfScript dry
dry_in_a_script = refl

-- a limit of 0 is one group, and one of 1 a group for each
limits : Plays (
    by_b (LoCreate 5) (number 5)
    ∷ by_b (LoCreate 6) (number 6)
    ∷ by_b (LoCreate 7) (number 7)
    ∷ by_a (Vacuumlo false 0) (listed 3)
    ∷ by_a Finish begun
    ∷ by_a_still (number 1)
    ∷ by_a_still (number 1)
    ∷ by_a_still (number 1)
    ∷ by_a_still committed
    ∷ by_a_still (removed 3)
    ∷ by_b (LoCreate 5) (number 5)
    ∷ by_b (LoCreate 6) (number 6)
    ∷ by_a (Vacuumlo false 1) (listed 2)
    ∷ by_a Finish begun
    ∷ by_a_still (number 1)
    ∷ by_a_still committed
    ∷ by_a_still begun
    ∷ by_a_still (number 1)
    ∷ by_a_still committed
    ∷ by_a_still (removed 2)
    ∷ by_a (Vacuumlo false 1) (listed 0)
    ∷ by_a Finish (removed 0)
    ∷ [])
limits = refl

-- inside a block it is refused, and steps and a finish of it too, though an earlier one has made its report
abbrev refused_in_a_block : List Turn
refused_in_a_block =
    by_a Begin begun
    ∷ by_a (Vacuumlo false 0) (refused InBlock 0)
    ∷ by_a Step (refused Failed 0)
    ∷ by_a Finish (refused Failed 0)
    ∷ by_a (LoGet 5 (pos 0) None) (refused Failed 0)
    ∷ by_a Rollback rolled_back
    ∷ by_a (LoCreate 5) (number 5)
    ∷ by_a (Vacuumlo false 0) (listed 1)
    ∷ by_a Finish begun
    ∷ by_a_still (number 1)
    ∷ by_a_still committed
    ∷ by_a_still (removed 1)
    ∷ by_a Begin begun
    ∷ by_a (Vacuumlo true 0) (refused InBlock 0)
    ∷ by_a Step (refused Failed 0)
    ∷ by_a Finish (refused Failed 0)
    ∷ by_a Commit rolled_back
    ∷ []

refused_inside : Plays refused_in_a_block
refused_inside = refl

refused_finish_is_one : IsScheduleOfScript refused_in_a_block
refused_finish_is_one = refl

-- an object that another transaction holds stops it in its first group, though a refusal has failed the block. So long as the
-- group's block is open no table can be made
held_by_another : Plays (
    by_b (LoCreate 5) (number 5)
    ∷ by_b (LoCreate 6) (number 6)
    ∷ by_b Begin begun
    ∷ by_b (LoPut 6 (pos 0) (1 ∷ [])) ok
    ∷ by_b (LoCreate 7) (number 7)
    ∷ by_a (Vacuumlo false 0) (listed 2)
    ∷ by_a Step begun
    ∷ by_a Step (number 1)
    ∷ by_c (LoPut 5 (pos 0) (1 ∷ [])) (refused Busy 1)
    ∷ by_a Step (refused Busy 2)
    ∷ by_b Rollback rolled_back
    ∷ by_c (CreateTable (codes "t") (id_column ∷ [])) (refused Busy 1)
    ∷ by_a Step rolled_back
    ∷ by_c (CreateTable (codes "t") (id_column ∷ [])) made
    ∷ by_a Step (Stopped 6 0)
    ∷ by_a Step idle
    ∷ by_a Finish idle
    ∷ by_a (LoGet 5 (pos 0) None) (Content [])
    ∷ by_a (LoGet 6 (pos 0) None) (Content [])
    ∷ [])
held_by_another = refl

-- Each scan looks in the view of its own advance, at the columns that were there at the beginning. Rows that are not committed
-- are not in it
seen_by_each_scan : Plays (
    by_b (LoCreate 5) (number 5)
    ∷ by_b (LoCreate 6) (number 6)
    ∷ by_b (LoCreate 7) (number 7)
    ∷ by_b (LoCreate 8) (number 8)
    ∷ by_b (CreateTable (codes "a") (id_column ∷ oid_column (codes "o") ∷ [])) made
    ∷ by_b (CreateTable (codes "c") (id_column ∷ oid_column (codes "o") ∷ [])) made
    ∷ by_b (Insert (codes "c") (Number (pos 1) ∷ Number (pos 8) ∷ [])) inserted
    ∷ by_a (Vacuumlo false 0) (listed 4)
    ∷ by_b (Insert (codes "a") (Number (pos 1) ∷ Number (pos 5) ∷ [])) inserted
    ∷ by_b (CreateTable (codes "b") (id_column ∷ oid_column (codes "o") ∷ [])) made
    ∷ by_b (Insert (codes "b") (Number (pos 1) ∷ Number (pos 6) ∷ [])) inserted
    ∷ by_c Begin begun
    ∷ by_c (Insert (codes "c") (Number (pos 2) ∷ Number (pos 7) ∷ [])) inserted
    ∷ by_a Step (scanned 3)
    ∷ by_b (Delete (codes "a") (pos 1)) (Word words.Delete)
    ∷ by_b (Delete (codes "c") (pos 1)) (Word words.Delete)
    ∷ by_a Step (scanned 3)
    ∷ by_c Commit committed
    ∷ by_a Step begun
    ∷ by_a Step (number 1)
    ∷ by_a Step (number 1)
    ∷ by_a Step (number 1)
    ∷ by_a Step committed
    ∷ by_a Finish (removed 3)
    ∷ by_b (LoGet 5 (pos 0) None) (Content [])
    ∷ [])
seen_by_each_scan = refl

-- Programs: a clean-up's line is followed by steps and one finish, which may be missing at the end; these stand nowhere else

steps_and_a_finish : has_sweeps false (Begin ∷ Commit ∷ Vacuumlo true 3 ∷ Step ∷ Step ∷ Finish ∷ Begin ∷ Vacuumlo false 0 ∷ Finish ∷ []) ≡ true
steps_and_a_finish = refl

finish_missing : has_sweeps false (Vacuumlo true 3 ∷ Step ∷ []) ≡ true
finish_missing = refl

no_lines : has_sweeps false [] ≡ true
no_lines = refl

step_before : has_sweeps false (Step ∷ Vacuumlo true 3 ∷ Finish ∷ []) ≡ false
step_before = refl

finish_alone : has_sweeps false (Begin ∷ Finish ∷ []) ≡ false
finish_alone = refl

step_behind : has_sweeps false (Vacuumlo true 3 ∷ Finish ∷ Step ∷ []) ≡ false
step_behind = refl

finish_twice : has_sweeps false (Vacuumlo true 3 ∷ Finish ∷ Finish ∷ []) ≡ false
finish_twice = refl

line_between : has_sweeps false (Vacuumlo true 3 ∷ Step ∷ Rollback ∷ Finish ∷ []) ≡ false
line_between = refl

one_in_another : has_sweeps false (Vacuumlo true 3 ∷ Vacuumlo true 3 ∷ Finish ∷ []) ≡ false
one_in_another = refl
