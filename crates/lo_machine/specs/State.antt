-- The state between two advances, and what one request makes of it.
use Rattle.std.specs.Prelude.{ℕ, ◌+◌, ◌==◌, Bool, true, false, List, [], ◌∷◌, ◌++◌, length, Option, Some, None, bytes_eq, if◌then◌else◌}
use Rattle.expanded_array.specs.Array.{Array}
use Rattle.lo_base.specs.declared.reply.Reply.{Reply}
use Rattle.lo_base.specs.declared.reply.Reply.TheVariants.{Refused}
use Rattle.lo_base.specs.declared.refusal.Refusal.{Refusal}
use Rattle.lo_model.specs.declared.owner.Owner.{Owner}
use Rattle.lo_model.specs.declared.owner.Owner.TheVariants.{Running, Committed}
use Rattle.lo_model.specs.declared.viewer.Viewer.TheVariants.{Nobody}
use Rattle.lo_model.specs.Clock.{clock_after}
use Rattle.lo_model.specs.Database.{Database, Table}
use Rattle.lo_model.specs.Edit.{Deed, Edit, edits_by}
use Rattle.lo_model.specs.Levels.{undone}
use Rattle.lo_model.specs.Session.{Session, session_undone}
use Rattle.lo_model.specs.Transaction.{top_level, is_open}
use Rattle.lo_model.specs.View.{view, current_view}
use Rattle.orphan_sweep.specs.History.{History}

-- An array variable has a name among those of its session, which a rollback does not change back.
pub record Variable : Type 0 where
  pub name : List ℕ
  pub array : Array

-- What a session has: its transaction block, descriptors and cursors, its array variables, and its clean-up, if it has begun
-- one.
pub record Player : Type 0 where
  pub session : Session
  pub variables : List Variable
  pub sweep : Option History

-- The state between two advances: the number of advances made, the database, the number of the pool's blocks, or none where
-- blocks are not counted, and each session.
pub record State : Type 0 where
  pub advances : ℕ
  pub database : Database
  pub blocks : Option ℕ
  pub players : (session : ℕ) → Player

-- What a request makes: its reply, the database, and the session.
pub record Outcome : Type 0 where
  pub reply : Reply
  pub database : Database
  pub player : Player

-- the clock of the next advance
abbrev pub now : State → ℕ
now st = clock_after st.advances

abbrev pub edits : State → List (Edit Deed)
edits st = st.database.edits

-- a session in a state
abbrev pub session_of : State → (session : ℕ) → Session
session_of st s = (st.players s).session

abbrev pub variables_of : State → (session : ℕ) → List Variable
variables_of st s = (st.players s).variables

-- the current view of a session, and what is committed
abbrev pub view_of : State → (session : ℕ) → List (Edit Deed)
view_of st s = current_view (now st) s (edits st)

abbrev pub committed_edits : State → List (Edit Deed)
committed_edits st = view (now st) Nobody (edits st)

-- one session's entry is another one
abbrev pub with_player : (session : ℕ) → Player → (ℕ → Player) → ℕ → Player
with_player s player players t = if t == s then player else players t

-- the state after an outcome
abbrev pub state_with : State → (session : ℕ) → Outcome → State
state_with st s done = record {
  advances = st.advances + 1;
  database = done.database;
  blocks = st.blocks;
  players = with_player s done.player st.players;
}

-- parts of a database and of a session, exchanged
abbrev pub with_edits : List (Edit Deed) → Database → Database
with_edits new database = record { edits = new; tables = database.tables; counter = database.counter }

abbrev pub with_tables : List Table → Database → Database
with_tables tables database = record { edits = database.edits; tables = tables; counter = database.counter }

abbrev pub with_counter : ℕ → Database → Database
with_counter counter database = record { edits = database.edits; tables = database.tables; counter = counter }

abbrev pub with_session : Session → Player → Player
with_session session player = record { session = session; variables = player.variables; sweep = player.sweep }

abbrev pub with_variables : List Variable → Player → Player
with_variables variables player = record { session = player.session; variables = variables; sweep = player.sweep }

abbrev pub with_sweep : History → Player → Player
with_sweep history player = record { session = player.session; variables = player.variables; sweep = Some history }

-- a reply that changes nothing
abbrev pub answered : State → (session : ℕ) → Reply → Outcome
answered st s reply = record { reply = reply; database = st.database; player = st.players s }

-- a reply that leaves these edits, and the session as it is then
abbrev pub left_with : State → (session : ℕ) → Reply → List (Edit Deed) → Session → Outcome
left_with st s reply new session =
    record { reply = reply; database = with_edits new st.database; player = with_session session (st.players s) }

-- A refusal changes nothing outside a transaction block. Inside one it undoes the top level, and the block is failed.
abbrev pub refused_in : State → (session : ℕ) → (in_block : Bool) → Refusal → Outcome
refused_in st s false refusal = answered st s (Refused refusal)
refused_in st s true refusal =
    left_with st s (Refused refusal) (undone s (top_level (session_of st s).transaction) (edits st)) (session_undone (top_level (session_of st s).transaction) true (session_of st s))

abbrev pub refused : State → (session : ℕ) → Refusal → Outcome
refused st s refusal = refused_in st s (is_open (session_of st s).transaction) refusal

-- Outside a transaction block a request is a transaction of its own, so its edits are committed at once. Inside one they
-- belong to the top level.
abbrev pub owner_in : (clock session : ℕ) → (levels : List (Option (List ℕ))) → Owner
owner_in clock s [] = Committed clock
owner_in clock s (level ∷ levels) = Running s (length (level ∷ levels))

-- the edits once these were made
abbrev pub and_made : State → (session : ℕ) → List Deed → List (Edit Deed)
and_made st s deeds = edits st ++ edits_by (now st) (owner_in (now st) s (session_of st s).transaction.levels) deeds

-- a reply to a request that makes these edits
abbrev pub edited : State → (session : ℕ) → Reply → List Deed → Outcome
edited st s reply deeds =
    record { reply = reply; database = with_edits (and_made st s deeds) st.database; player = st.players s }

-- a variable's array
abbrev pub variable_in : (name : List ℕ) → List Variable → Option Array
variable_in name [] = None
variable_in name (v ∷ variables) = if bytes_eq v.name name then Some v.array else variable_in name variables
