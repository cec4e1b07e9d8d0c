-- Runs of programs under a schedule, which names the session of each advance. An advance does the session's next request.
use Rattle.std.specs.Prelude.{◌≡◌, ℕ, zero, suc, ◌+◌, ◌==◌, ◌≤◌, max, Bool, true, false, ◌&&◌, List, [], ◌∷◌, ◌++◌, length, count_by, All, Option, Some, None, IsSome, slice_get, if◌then◌else◌}
use Rattle.lo_base.specs.declared.reply.Reply.{Reply}
use Rattle.lo_base.specs.declared.request.Request.{Request}
use Rattle.lo_base.specs.declared.request.Request.TheVariants.{Finish}
use Rattle.lo_model.specs.Database.{Database}
use Rattle.lo_model.specs.Held.{held_versions}
use Rattle.lo_model.specs.Opening.{Opening, opened}
use Rattle.lo_model.specs.Session.{idle_session}
use Rattle.orphan_sweep.specs.History.{History, acts_left}
use Rattle.lo_machine.specs.Program.{program_of}
use Rattle.lo_machine.specs.State.{State, Player}
use Rattle.lo_machine.specs.Step.{reply_to, state_after}
use Rattle.lo_machine.specs.SweepRows.{act_of, is_before_report}
use Rattle.lo_machine.specs.Values.{plan_of}

-- Between two advances a run stands at a state, and at a number of lines done for each session.
pub record Moment : Type 0 where
  pub state : State
  pub lines_done : (session : ℕ) → ℕ

-- a session at the beginning
abbrev pub new_player : Player
new_player = record { session = idle_session; variables = []; sweep = None }

abbrev pub started : (blocks : Option ℕ) → Database → Moment
started blocks database =
    record { state = record { advances = 0; database = database; blocks = blocks; players = λ s. new_player }; lines_done = λ s. 0 }

-- the empty database: no edits, no tables, and objects are numbered from 16384 where no number is named
abbrev pub empty_database : Database
empty_database = record { edits = []; tables = []; counter = 16384 }

-- a run on the empty database, in which blocks are not counted
abbrev pub start : Moment
start = started None empty_database

-- A run from an opening has as many blocks as the opening says, or as many as the opening itself holds where those are more.
abbrev pub database_of : Opening → Database
database_of opening = opened plan_of opening

-- Blocks are not counted yet: the program runs openings so.
abbrev pub start_from : Opening → Moment
start_from opening = started None (database_of opening)

abbrev pub blocks_of : Opening → ℕ
blocks_of opening = max opening.blocks (length (held_versions 1 (λ s. idle_session) (database_of opening).edits))

abbrev pub start_of : Opening → Moment
start_of opening = started (Some (blocks_of opening)) (database_of opening)

-- the request of a session's next line, or none where no line is left
abbrev pub next_line : List (List Request) → Moment → (session : ℕ) → Option Request
next_line programs m s = slice_get (program_of programs s) (m.lines_done s)

-- A line is over after one advance, but for a finish whose act stands before its clean-up's report.
abbrev pub is_finish : Request → Bool
is_finish Finish = true
is_finish _ = false

abbrev pub stays_at_line : State → (session : ℕ) → Request → Bool
stays_at_line st s request = is_finish request && is_before_report (act_of st s)

abbrev pub one_more : (session : ℕ) → ((session : ℕ) → ℕ) → (session : ℕ) → ℕ
one_more s count t = if t == s then count t + 1 else count t

abbrev pub lines_after : State → (session : ℕ) → Request → ((session : ℕ) → ℕ) → (session : ℕ) → ℕ
lines_after st s request count = if stays_at_line st s request then count else one_more s count

-- the moment after a session's advance. Where no line is left, which is no advance, it stays
abbrev pub moment_after : Moment → (session : ℕ) → Option Request → Moment
moment_after m s None = m
moment_after m s (Some request) =
    record { state = state_after m.state s request; lines_done = lines_after m.state s request m.lines_done }

abbrev pub replies_at : Moment → (session : ℕ) → Option Request → List (ℕ × Reply)
replies_at m s None = []
replies_at m s (Some request) = (s, reply_to m.state s request) ∷ []

-- the replies of a run from a moment on, each with its session
abbrev pub replies_from : List (List Request) → Moment → (schedule : List ℕ) → List (ℕ × Reply)
replies_from programs m [] = []
replies_from programs m (s ∷ schedule) =
    replies_at m s (next_line programs m s) ++ replies_from programs (moment_after m s (next_line programs m s)) schedule

-- and where it ends
abbrev pub end_from : List (List Request) → Moment → (schedule : List ℕ) → Moment
end_from programs m [] = m
end_from programs m (s ∷ schedule) = end_from programs (moment_after m s (next_line programs m s)) schedule

abbrev pub replies_of : List (List Request) → (schedule : List ℕ) → List (ℕ × Reply)
replies_of programs schedule = replies_from programs start schedule

abbrev pub end_of : List (List Request) → (schedule : List ℕ) → Moment
end_of programs schedule = end_from programs start schedule

-- each advance of a schedule is defined
abbrev pub IsPlayable : List (List Request) → Moment → (schedule : List ℕ) → Type 0
IsPlayable programs m [] = Unit {0}
IsPlayable programs m (s ∷ schedule) =
    IsSome (next_line programs m s) × IsPlayable programs (moment_after m s (next_line programs m s)) schedule

-- a schedule is whole where each of its advances is defined, and at its end no session has a line left. Sessions are
-- numbered from 1
pub record IsWholeFrom (programs : List (List Request)) (m : Moment) (schedule : List ℕ) : Type 0 where
  pub sessions : All (λ session. 1 ≤ session) schedule
  pub playable : IsPlayable programs m schedule
  pub complete : (session : ℕ) → 1 ≤ session → next_line programs (end_from programs m schedule) session ≡ None

abbrev pub IsWhole : List (List Request) → (schedule : List ℕ) → Type 0
IsWhole programs schedule = IsWholeFrom programs start schedule

-- an order of programs names each session once for each line of its program
pub record IsOrderOf (programs : List (List Request)) (order : List ℕ) : Type 0 where
  pub sessions : All (λ session. 1 ≤ session) order
  pub lines : (session : ℕ) → 1 ≤ session → length (program_of programs session) ≡ count_by (λ entry. entry == session) order

-- The schedule of a script advances, for each entry of its order, that session until its line is over. A finish takes at most
-- as many advances as its clean-up has acts left; each other line takes one.

abbrev pub acts_before : Option History → ℕ
acts_before None = 0
acts_before (Some h) = length (acts_left h)

-- the advances of one line, at most one more than a number of them
abbrev pub line_schedule : (more : ℕ) → List (List Request) → Moment → (session : ℕ) → Option Request → List ℕ
line_schedule more programs m s None = s ∷ []
line_schedule zero programs m s (Some request) = s ∷ []
line_schedule (suc more) programs m s (Some request) =
    if stays_at_line m.state s request
    then s ∷ line_schedule more programs (moment_after m s (Some request)) s (next_line programs (moment_after m s (Some request)) s)
    else s ∷ []

abbrev pub schedule_of_line : List (List Request) → Moment → (session : ℕ) → List ℕ
schedule_of_line programs m s =
    line_schedule (acts_before (m.state.players s).sweep) programs m s (next_line programs m s)

abbrev pub schedule_from : List (List Request) → Moment → (order : List ℕ) → List ℕ
schedule_from programs m [] = []
schedule_from programs m (s ∷ order) =
    schedule_of_line programs m s ++ schedule_from programs (end_from programs m (schedule_of_line programs m s)) order

abbrev pub schedule_of : List (List Request) → (order : List ℕ) → List ℕ
schedule_of programs order = schedule_from programs start order
