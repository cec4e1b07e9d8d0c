-- What threads keep between them: a word that counts who has the turn, a slot where the run lies between turns, and the sessions
-- that each seat answers for.
use Rattle.std.specs.Prelude.{◌≡◌, ℕ, zero, suc, ◌+◌, ◌-◌, ◌<◌, ◌≤◌, ◌==◌, Bool, true, false, List, [], ◌∷◌, ◌++◌, length, All, Option, Some, None, if◌then◌else◌}
use mathlib.Core.Option.{some}
use mathlib.Core.Option as maybe
use lib.ListN.{get_elem?}
use Rattle.atomic_table.specs.Table.{State, Me, rest}
use Rattle.atomic_table.specs.Seated.{TableId}
use Rattle.lo_machine.specs.Replay.{Play, HasLine}
use Rattle.lo_machine.specs.Run.{IsWholeFrom, start_from}
use Rattle.lo_turn.specs.declared.hand.Hand.{Hand}
use Rattle.lo_turn.specs.declared.worker.Worker.{Worker}

-- a run began as another did: the same programs from the same opening
pub record BeganAs (given now : Play) : Type 0 where
  pub opening : now.opening ≡ given.opening
  pub programs : now.programs ≡ given.programs

-- no session has a line left
abbrev pub IsDone : Play → (session : ℕ) → Type 0
IsDone play session = ¬ HasLine play session

abbrev pub AllDone : Play → Type 0
AllDone play = (session : ℕ) → 1 ≤ session → session ≤ 16 → IsDone play session

-- a run's schedule is whole: it does each line of each session
abbrev pub IsWholeRun : Play → Type 0
IsWholeRun play = IsWholeFrom play.programs (start_from play.opening) play.schedule

-- what one advance, or none, leaves of a run
pub record Proceeds (old new : Play) : Type 0 where
  pub opening : new.opening ≡ old.opening
  pub programs : new.programs ≡ old.programs
  pub done : (session : ℕ) → IsDone old session → IsDone new session

-- sums over a list
abbrev pub total : {A : Type 0} → (A → ℕ) → List A → ℕ
total f [] = 0
total f (x ∷ xs) = f x + total f xs

-- how often a list has a number
abbrev pub times : ℕ → List ℕ → ℕ
times n [] = 0
times n (x ∷ xs) = (if x == n then 1 else 0) + times n xs

-- numbers in order, the first and so many in all
abbrev pub numbers : (first count : ℕ) → List ℕ
numbers first zero = []
numbers first (suc count) = first ∷ numbers (suc first) count

abbrev pub hand : List ℕ → (has_turn is_spent : Bool) → Play → Hand
hand sessions has_turn is_spent given = record { sessions = sessions; has_turn = has_turn; is_spent = is_spent; given = given }

abbrev pub turn_of : Hand → ℕ
turn_of v = if v.has_turn then 1 else 0

abbrev pub owned_by : Hand → ℕ
owned_by v = length v.sessions

abbrev pub owns : (session : ℕ) → Hand → ℕ
owns session v = times session v.sessions

abbrev pub nothing : Play
nothing = record { opening = record { blocks = 0; counter = 0; tables = []; objects = [] }; programs = []; schedule = []; replies = [] }

abbrev pub spent : Hand
spent = hand [] false true nothing

abbrev pub owner_of_all : Play → Hand
owner_of_all given = hand (numbers 1 16) false false given

abbrev pub after_first : List ℕ → List ℕ
after_first [] = []
after_first (x ∷ xs) = xs

abbrev pub only_first : List ℕ → List ℕ
only_first [] = []
only_first (x ∷ xs) = x ∷ []

abbrev pub after_cut : Hand → Hand
after_cut v = hand (after_first v.sessions) v.has_turn v.is_spent v.given

abbrev pub cut_off : Hand → Hand
cut_off v = hand (only_first v.sessions) false v.is_spent v.given

abbrev pub joined : Hand → Hand → Hand
joined v w = hand (v.sessions ++ w.sessions) v.has_turn v.is_spent v.given

-- who has the turn answers for a session, a spent view for none, and a view that is not spent knows the run that was given
pub record IsSound (given : Play) (v : Hand) : Type 0 where
  pub turn : v.has_turn ≡ true → (v.is_spent ≡ false) × (0 < length v.sessions)
  pub spent : v.is_spent ≡ true → v.sessions ≡ []
  pub names : v.is_spent ≡ false → v.given ≡ given

-- the slot has a run of what was given
pub record IsHome (given : Play) (homes : List (maybe.Option (Option Play))) : Type 0 where
  pub value : Play
  pub there : get_elem? homes 0 ≡ some (some (Some value))
  pub began : BeganAs given value

-- the rule, which holds before and after each step of any thread
pub record Turns (given : Play) (s : State (Option Play) Hand) : Type 0 where
  -- one view answers for each session, and all together for sixteen
  pub owned : (session : ℕ) → 1 ≤ session → session ≤ 16 → total (owns session) s.views ≡ 1
  pub count : total owned_by s.views ≡ 16
  pub sound : (place : ℕ) (v : Hand) → get_elem? s.views place ≡ some v → IsSound given v
  -- the word is the number of views with the turn, which is one at most
  pub word : s.words ≡ total turn_of s.views ∷ []
  pub one : total turn_of s.views ≤ 1
  -- while no view has it the run is in the slot
  pub home : total turn_of s.views ≡ 0 → IsHome given s.homes

abbrev pub Sat : Type 0
Sat = Me (Option Play) Hand

abbrev pub with_turn : Hand → Hand
with_turn v = hand v.sessions true v.is_spent v.given

abbrev pub without_turn : Hand → Hand
without_turn v = hand v.sessions false v.is_spent v.given

-- a seat that answers for these sessions, and has nothing in hand
abbrev pub owner : (given : Play) (sessions : List ℕ) → Sat
owner given sessions = (hand sessions false false given, [])

-- a worker's seat between two turns, and in a turn, where it has the slot, with the run or empty
abbrev pub waiting : (given : Play) (session : ℕ) → Sat
waiting given session = owner given (session ∷ [])

abbrev pub holding : (given : Play) (session : ℕ) → Option Play → Sat
holding given session slot = (hand (session ∷ []) true false given, (0, slot) ∷ [])

-- A try that finds the turn free has it, and the slot with the run. One that finds it taken changes nothing.
pub record Taken (before after : Sat) : Type 0 where
  pub value : Play
  pub is : after ≡ (with_turn before.0, (0, Some value) ∷ before.1)
  pub began : BeganAs before.0.given value

pub record Tried (before : Sat) (found : ℕ) (after : Sat) : Type 0 where
  pub free : found ≡ 0 → Taken before after
  pub missed : ¬ (found ≡ 0) → after ≡ before

-- the end of a turn, with which the slot is given back
abbrev pub Gave : (before after : Sat) → Type 0
Gave before after = after ≡ (without_turn before.0, rest before.1)

-- the table has one word and one slot
abbrev pub IsBoard : TableId → Type 0
IsBoard id = (id.words ≡ 1) × (id.slots ≡ 1)

-- what the table leaves has a run of what was given
pub record HasRun (given : Play) (slots : List (Option Play)) : Type 0 where
  pub value : Play
  pub there : get_elem? slots 0 ≡ some (Some value)
  pub began : BeganAs given value

-- between turns
abbrev pub IsIdle : Play → TableId → Worker → Type 0
IsIdle given id worker = (worker.seat.table_id ≡ id) × (worker.seat.me ≡ waiting given worker.session)

abbrev pub AreIdle : Play → TableId → List Worker → Type 0
AreIdle given id workers = All (λ worker. IsIdle given id worker) workers

-- in a turn, with the run out of the slot
abbrev pub Holds : Play → TableId → Worker → Type 0
Holds given id worker = (worker.seat.table_id ≡ id) × (worker.seat.me ≡ holding given worker.session None)

-- the caller's seat, less so many sessions that workers have
pub record Owns (given : Play) (count : ℕ) (me : Sat) : Type 0 where
  pub sessions : List ℕ
  pub is : me ≡ owner given sessions
  pub all : length sessions + count ≡ 16

-- the caller's seat while sessions are dealt, of which next is the first that is not
pub record Deals (given : Play) (next count : ℕ) (me : Sat) : Type 0 where
  pub kept : List ℕ
  pub is : me ≡ owner given (numbers next (17 - next) ++ kept)
  pub all : length kept + count + 1 ≡ next
