-- The law of clean-ups of orphans over every schedule: what one has done when its report comes, whatever other sessions did
-- meanwhile. `src/law.rt` promises it. (Manual, vacuumlo.)
use Rattle.std.specs.Prelude.{◌≡◌, ◌≢◌, ℕ, ◌+◌, Bool, true, false, not, ◌==◌, ◌&&◌, if◌then◌else◌, IsTrue, List, [], ◌∷◌, ◌++◌, length, take, map, filter, All, Contains, Option, Some, None, is_some}
use Rattle.std.specs.List.{list_any, flat_map, concat}
use Rattle.std.specs.List.Sorted.{IsStrictlyIncreasing}
use Rattle.lo_base.specs.declared.reply.Reply.{Reply}
use Rattle.lo_base.specs.declared.reply.Reply.TheVariants.{Counted, Stopped}
use Rattle.lo_base.specs.declared.reply.Word.TheVariants as words
use Rattle.lo_base.specs.declared.request.Request.{Request}
use Rattle.lo_base.specs.declared.request.Request.TheVariants.{Vacuumlo, Step, Finish}
use Rattle.lo_model.specs.declared.owner.Owner.{Owner}
use Rattle.lo_model.specs.declared.owner.Owner.TheVariants.{Committed}
use Rattle.lo_model.specs.Edit.{Deed, Create, Unlink, Edit}
use Rattle.lo_model.specs.declared.viewer.Viewer.TheVariants.{Nobody}
use Rattle.lo_model.specs.Listing.{has_object, oids_in}
use Rattle.lo_model.specs.Transaction.{is_open}
use Rattle.lo_model.specs.View.{sees_edit}
use Rattle.orphan_sweep.specs.declared.act.Scan.{Scan}
use Rattle.orphan_sweep.specs.declared.act.SweepAct.{SweepAct}
use Rattle.orphan_sweep.specs.declared.act.SweepAct.TheVariants as acts
use Rattle.orphan_sweep.specs.declared.act.Told.{Told}
use Rattle.orphan_sweep.specs.History.{History, is_commit, numbers_found}
use Rattle.orphan_sweep.specs.Law.{AreAnswers, asked}
use Rattle.orphan_sweep.specs.Plan.{scan_act, group_acts, removal, unlinks}
use Rattle.orphan_sweep.specs.Rest.{less, groups}
use Rattle.lo_machine.specs.Replay.{Play, moment_of}
use Rattle.lo_machine.specs.Run.{Moment, next_line, moment_after, end_from, start_from}
use Rattle.lo_machine.specs.State.{State, now, edits, session_of, view_of, committed_edits}
use Rattle.lo_machine.specs.Step.{refusal_of, reply_to}
use Rattle.lo_machine.specs.SweepRows.{scans_of, sweep_begun, act_of, answer_to, found_in, is_idle}

-- A session's steps and finishes do the acts of its clean-up. Where none is before its report the act is idle: nothing is done.

abbrev pub is_act_line : Request → Bool
is_act_line Step = true
is_act_line Finish = true
is_act_line _ = false

abbrev pub does_act : State → (session : ℕ) → Option Request → Bool
does_act st s None = false
does_act st s (Some line) = is_act_line line && not (is_idle (act_of st s))

-- an act that was done, the line that did it, and the state that it was done in
pub record Done : Type 0 where
  pub act : SweepAct
  pub line : Request
  pub state : State

abbrev pub done_at : State → (session : ℕ) → Option Request → List Done
done_at st s None = []
done_at st s (Some line) =
    if does_act st s (Some line) then record { act = act_of st s; line = line; state = st } ∷ [] else []

-- the acts that a session does over a schedule, in order
abbrev pub acts_by : (session : ℕ) → List (List Request) → Moment → (schedule : List ℕ) → List Done
acts_by s programs m [] = []
acts_by s programs m (t ∷ schedule) =
    (if t == s then done_at m.state t (next_line programs m t) else [])
    ++ acts_by s programs (moment_after m t (next_line programs m t)) schedule

abbrev pub acts_of : List Done → List SweepAct
acts_of done = map (λ (d : Done). d.act) done

-- whether it was refused
abbrev pub is_denied : (session : ℕ) → Done → Bool
is_denied s d = is_some (refusal_of d.state s d.line)

-- what a clean-up is told of it
abbrev pub told_by : (session : ℕ) → Done → Told
told_by s d = answer_to d.state s d.act (is_denied s d)

-- what its scan found, in the current view of its own advance
abbrev pub found_at : State → (session : ℕ) → SweepAct → List ℕ
found_at st s (acts.Scan table column) = found_in st s table column
found_at st s _ = []

abbrev pub found_by : (session : ℕ) → Done → List ℕ
found_by s d = found_at d.state s d.act

-- A test on each advance that a session makes over a schedule.

abbrev pub AdvanceTest : Type 0
AdvanceTest = State → (session : ℕ) → Option Request → Bool

abbrev pub EachOwn : AdvanceTest → (session : ℕ) → List (List Request) → Moment → (schedule : List ℕ) → Type 0
EachOwn test s programs m [] = Unit {0}
EachOwn test s programs m (t ∷ schedule) =
    (t ≡ s → IsTrue (test m.state t (next_line programs m t)))
    × EachOwn test s programs (moment_after m t (next_line programs m t)) schedule

-- no clean-up begins: the line is no vacuumlo, or it is refused
abbrev pub begins_none : State → (session : ℕ) → Option Request → Bool
begins_none st s (Some (Vacuumlo dry limit)) = is_some (refusal_of st s (Vacuumlo dry limit))
begins_none st s _ = true

-- A clean-up that a session has begun: the moment of its vacuumlo, what that asks for, and the schedule since.
pub record Sweeping : Type 0 where
  pub programs : List (List Request)
  pub moment : Moment
  pub session : ℕ
  pub dry : Bool
  pub limit : ℕ
  pub since : List ℕ

-- the moment after its vacuumlo, and the one that the schedule since then leads to
abbrev pub beginning : Sweeping → Moment
beginning w = moment_after w.moment w.session (Some (Vacuumlo w.dry w.limit))

abbrev pub end : Sweeping → Moment
end w = end_from w.programs (beginning w) w.since

-- the session's line is that vacuumlo and it is granted, and since then the session has begun no other
pub record IsSweeping (w : Sweeping) : Type 0 where
  pub line : next_line w.programs w.moment w.session ≡ Some (Vacuumlo w.dry w.limit)
  pub granted : refusal_of w.moment.state w.session (Vacuumlo w.dry w.limit) ≡ None
  pub last : EachOwn begins_none w.session w.programs (beginning w) w.since

-- what it has done; what it lists, the columns that it scans, what these scans found, and the rest
abbrev pub done : Sweeping → List Done
done w = acts_by w.session w.programs (beginning w) w.since

abbrev pub listed : Sweeping → List ℕ
listed w = oids_in (view_of w.moment.state w.session)

abbrev pub scans : Sweeping → List Scan
scans w = scans_of w.moment.state.database.tables

abbrev pub found : Sweeping → List ℕ
found w = flat_map (found_by w.session) (done w)

abbrev pub rest : Sweeping → List ℕ
rest w = less (listed w) (found w)

-- what its vacuumlo fixed, and an answer for each act that was done since
abbrev pub history : Sweeping → History
history w = record {
  dry = w.dry;
  limit = w.limit;
  list = listed w;
  scans = scans w;
  answers = map (told_by w.session) (done w);
}

-- The session keeps that history. Each answer is one to the act that was next when it came, and these are the acts that were
-- done. What the history says was found is what the scans found. The list is ascending.
pub record KeepsHistory (w : Sweeping) : Type 0 where
  pub kept : ((end w).state.players w.session).sweep ≡ Some (history w)
  pub answers : AreAnswers (sweep_begun w.moment.state w.session w.dry w.limit) (history w).answers
  pub acts : acts_of (done w) ≡ asked (sweep_begun w.moment.state w.session w.dry w.limit) (history w).answers
  pub scanned : flat_map numbers_found (history w).answers ≡ found w
  pub ascending : IsStrictlyIncreasing (listed w)

-- whether something that it did was refused
abbrev pub is_stopped : Sweeping → Bool
is_stopped w = list_any (is_denied w.session) (done w)

-- It removed the rest: the scans were done, then the groups. So each number of the rest was unlinked once, in its order, in
-- groups of at most the limit. That many are reported.
pub record RemovesTheRest (w : Sweeping) (count : ℕ) : Type 0 where
  pub wet : w.dry ≡ false
  pub granted : is_stopped w ≡ false
  pub by_groups : acts_of (done w) ≡ map scan_act (scans w) ++ flat_map group_acts (groups w.limit (rest w))
  pub each : unlinks (acts_of (done w)) ≡ rest w
  pub counted : count ≡ length (rest w)

-- a dry run does its scans alone, and reports how many the rest has
pub record OnlyScans (w : Sweeping) (count : ℕ) : Type 0 where
  pub dry : w.dry ≡ true
  pub acts : acts_of (done w) ≡ map scan_act (scans w)
  pub none : unlinks (acts_of (done w)) ≡ []
  pub counted : count ≡ length (rest w)

-- what removes the rest, where nothing is refused: the scans, the groups, the report
abbrev pub plan : Sweeping → List SweepAct
plan w = map scan_act (scans w) ++ removal false w.limit (rest w)

abbrev pub commits : List Done → ℕ
commits done = length (filter is_commit (acts_of done))

-- It stopped: up to the first unlink that was refused it did what removes the rest, and then its rollback alone. The object and
-- how many the groups have that were committed before are reported.
pub record StopsAt (w : Sweeping) (oid count : ℕ) : Type 0 where
  pub before : List Done
  pub refused : Done
  pub rollback : Done
  pub wet : w.dry ≡ false
  pub split : done w ≡ before ++ refused ∷ rollback ∷ []
  pub granted : list_any (is_denied w.session) before ≡ false
  pub denied : is_denied w.session refused ≡ true
  pub oid_of : refused.act ≡ acts.Unlink oid
  pub undoes : rollback.act ≡ acts.Rollback
  pub front : acts_of before ++ acts.Unlink oid ∷ [] ≡ take (length before + 1) (plan w)
  pub counted : count ≡ length (concat (take (commits before) (groups w.limit (rest w))))

-- The report tells which of these it is, and it is one of them.
pub record IsReported (w : Sweeping) (report : Reply) : Type 0 where
  pub removed : (count : ℕ) → report ≡ Counted words.Removed count → RemovesTheRest w count
  pub would : (count : ℕ) → report ≡ Counted words.WouldRemove count → OnlyScans w count
  pub stopped : (oid count : ℕ) → report ≡ Stopped oid count → StopsAt w oid count
  pub dry : w.dry ≡ true → report ≡ Counted words.WouldRemove (length (rest w))
  pub wet : w.dry ≡ false → is_stopped w ≡ false → report ≡ Counted words.Removed (length (rest w))
  pub refused : is_stopped w ≡ true → (oid : ℕ) × (count : ℕ) × (report ≡ Stopped oid count)

-- so it is where a line does the report
abbrev pub ReportsAtEnd : Sweeping → (line : Request) → Type 0
ReportsAtEnd w line =
    is_act_line line ≡ true → act_of (end w).state w.session ≡ acts.Report →
    IsReported w (reply_to (end w).state w.session line)

-- an edit with this deed and this owner is in the list
pub record HasEdit (es : List (Edit Deed)) (deed : Deed) (owner : Owner) : Type 0 where
  pub before : List (Edit Deed)
  pub edit : Edit Deed
  pub after : List (Edit Deed)
  pub is : es ≡ before ++ edit ∷ after
  pub does : edit.deed ≡ deed
  pub owned : edit.owner ≡ owner

-- each group has a clock at which the unlinks of all its numbers were committed
abbrev pub AreCommitted : List (Edit Deed) → (groups : List (List ℕ)) → (clocks : List ℕ) → Type 0
AreCommitted es [] clocks = clocks ≡ []
AreCommitted es (g ∷ gs) [] = ⊥
AreCommitted es (g ∷ gs) (c ∷ clocks) = All (λ o. HasEdit es (Unlink o) (Committed c)) g × AreCommitted es gs clocks

-- the clocks of the commits that were done
abbrev pub commit_clocks : List Done → List ℕ
commit_clocks done = map (λ (d : Done). now d.state) (filter (λ (d : Done). is_commit d.act) done)

-- The session did nothing else since its vacuumlo, and comes to the report of a clean-up in which nothing was refused.
pub record EndsAlone (w : Sweeping) : Type 0 where
  pub alone : EachOwn does_act w.session w.programs (beginning w) w.since
  pub next : act_of (end w).state w.session ≡ acts.Report
  pub wet : w.dry ≡ false
  pub granted : is_stopped w ≡ false

-- Then each group is committed whole, at the clock of its own commit.
abbrev pub CommitsWhole : Sweeping → Type 0
CommitsWhole w =
    EndsAlone w → AreCommitted (edits (end w).state) (groups w.limit (rest w)) (commit_clocks (done w))

-- Since its vacuumlo every advance was an act of the clean-up, and no other session has had a transaction block of its own:
-- none had one at the vacuumlo, and no other session has advanced since.
pub record IsAlone (w : Sweeping) : Type 0 where
  pub own : All (λ t. t ≡ w.session) w.since
  pub acts : EachOwn does_act w.session w.programs (beginning w) w.since
  pub closed : (t : ℕ) → t ≢ w.session → is_open (session_of w.moment.state t).transaction ≡ false

-- What became committed since the clean-up's vacuumlo: it is in the committed view at the end, and was not in the one then.
abbrev pub is_since : Sweeping → Edit Deed → Bool
is_since w e =
    sees_edit (now (end w).state) Nobody e && not (sees_edit (now w.moment.state) Nobody e)

-- an act that the clean-up did at a clock
pub record DidAt (w : Sweeping) (act : SweepAct) (clock : ℕ) : Type 0 where
  pub before : List Done
  pub it : Done
  pub after : List Done
  pub split : done w ≡ before ++ it ∷ after
  pub act_of : it.act ≡ act
  pub clock_of : now it.state ≡ clock

-- No other session's unlink of the object became committed since: each that did was made by an act of the clean-up.
abbrev pub IsLeftToIt : Sweeping → (oid : ℕ) → Type 0
IsLeftToIt w o =
    (before after : List (Edit Deed)) (e : Edit Deed) →
    edits (end w).state ≡ before ++ e ∷ after → is_since w e ≡ true → e.deed ≡ Unlink o →
    DidAt w (acts.Unlink o) e.clock

-- The object was made again: an unlink of it became committed since, and after that stands a creation of it that is committed.
pub record IsMadeAgain (w : Sweeping) (oid : ℕ) : Type 0 where
  pub before : List (Edit Deed)
  pub unlink : Edit Deed
  pub between : List (Edit Deed)
  pub creation : Edit Deed
  pub after : List (Edit Deed)
  pub split : edits (end w).state ≡ before ++ unlink ∷ (between ++ creation ∷ after)
  pub unlinks : unlink.deed ≡ Unlink oid
  pub since : is_since w unlink ≡ true
  pub creates : creation.deed ≡ Create oid
  pub committed : sees_edit (now (end w).state) Nobody creation ≡ true

-- the object is committed at the end
abbrev pub is_left : Sweeping → (oid : ℕ) → Bool
is_left w o = has_object (committed_edits (end w).state) o

-- Of the listed objects those that a scan found are still committed, where no other session unlinked them meanwhile. Those of
-- the rest are not, but for those that were made again.
pub record RemovesWhatItLists (w : Sweeping) : Type 0 where
  pub kept : (o : ℕ) → Contains (listed w) o → ¬ Contains (rest w) o → IsLeftToIt w o → is_left w o ≡ true
  pub gone : (o : ℕ) → Contains (rest w) o → ¬ IsMadeAgain w o → is_left w o ≡ false
  pub again : (o : ℕ) → Contains (rest w) o → IsLeftToIt w o → IsMadeAgain w o → is_left w o ≡ true

-- A clean-up of a run: the run's programs, a moment of it, and the schedule since then, which leads to where the run stands.
pub record IsSweepOf (play : Play) (w : Sweeping) : Type 0 where
  pub before : List ℕ
  pub programs : w.programs ≡ play.programs
  pub moment : w.moment ≡ end_from play.programs (start_from play.opening) before
  pub schedule : play.schedule ≡ before ++ w.session ∷ w.since
  pub sweeping : IsSweeping w

-- each history that a session has in a run is that of a clean-up of the run
pub record ComesFrom (play : Play) (session : ℕ) (h : History) : Type 0 where
  pub sweep : Sweeping
  pub own : sweep.session ≡ session
  pub is : IsSweepOf play sweep
  pub kept : h ≡ history sweep

-- and it ends where the run stands
abbrev pub EndsAtRun : Play → Sweeping → Type 0
EndsAtRun play w = end w ≡ moment_of play

-- So it is in every run.
abbrev pub RemovesInRun : Play → Sweeping → Type 0
RemovesInRun play w = IsSweepOf play w → EndsAlone w → RemovesWhatItLists w

-- All of it, of a clean-up of a run: it ends where the run stands; what its report says is so; and where it did nothing else,
-- each group is committed whole, and what it removed is gone.
pub record KeepsSweepLaw (play : Play) (w : Sweeping) : Type 0 where
  pub ends : EndsAtRun play w
  pub history : KeepsHistory w
  pub reported : (line : Request) → ReportsAtEnd w line
  pub whole : CommitsWhole w
  pub removes : RemovesInRun play w
