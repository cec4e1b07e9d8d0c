-- What a row reads in a state, where a request may stand, the term of the pool, which comes last, and what a grant makes of the
-- state.
use Rattle.std.specs.Prelude.{ℕ, pos, Bool, true, false, List, [], ◌∷◌, ◌++◌, Option, Some, None, option_map}
use Rattle.lo_base.specs.declared.refusal.Cause.{Cause}
use Rattle.lo_base.specs.declared.refusal.Cause.TheVariants.{InBlock, NoBlock}
use Rattle.lo_base.specs.declared.refusal.Refusal.{Refusal}
use Rattle.lo_base.specs.declared.request.Request.{Request}
use Rattle.lo_base.specs.declared.request.Request.TheVariants.{CreateTable, Declare, Rewrite}
use Rattle.lo_model.specs.Database.{Database, Table}
use Rattle.lo_model.specs.Edit.{Deed, Edit}
use Rattle.lo_model.specs.Session.{Session, lowest_open}
use Rattle.lo_model.specs.Transaction.{top_level, is_open}
use Rattle.lo_machine.specs.Row.{Here, Granted, Row}
use Rattle.lo_machine.specs.State.{State, Outcome, Variable, now, edits, session_of, variables_of, and_made}
use Rattle.lo_machine.specs.Terms.{pool_short, refusal}

-- what sessions share beside the edits
pub record Shared : Type 0 where
  pub counter : ℕ
  pub tables : List Table

abbrev pub shared_of : Database → Shared
shared_of database = record { counter = database.counter; tables = database.tables }

-- what a row reads of a session at a level, where another one may have a transaction
abbrev pub here_at : (now session level : ℕ) → (other : Option ℕ) → List (Edit Deed) → Shared → Session → List Variable → Here
here_at now s level other ys shared session variables = record {
  now = now;
  session = s;
  level = level;
  descriptors = session.descriptors;
  cursors = session.cursors;
  variables = variables;
  edits = ys;
  counter = shared.counter;
  tables = shared.tables;
  other = other;
}

-- what a row reads in a state
abbrev pub here : State → (session : ℕ) → Here
here st s =
    here_at (now st) s (top_level (session_of st s).transaction) (lowest_open s (session_of st)) (edits st) (shared_of st.database) (session_of st s) (variables_of st s)

abbrev pub row_at : State → (session : ℕ) → (Here → Row) → Row
row_at st s row = row (here st s)

-- A request that makes or stores a table anew stands outside transaction blocks, and one that declares a cursor in one.
abbrev pub misplaced_by : Request → (in_block : Bool) → Option Cause
misplaced_by (CreateTable name columns) true = Some InBlock
misplaced_by (CreateTable name columns) false = None
misplaced_by (Rewrite t storages) true = Some InBlock
misplaced_by (Rewrite t storages) false = None
misplaced_by (Declare cursor t i) true = None
misplaced_by (Declare cursor t i) false = Some NoBlock
misplaced_by _ _ = None

abbrev pub misplaced : State → (session : ℕ) → Request → Option Refusal
misplaced st s r = option_map (λ cause. refusal cause (pos 0)) (misplaced_by r (is_open (session_of st s).transaction))

abbrev pub call_refusals : State → (session : ℕ) → (Here → Row) → List (Option Refusal)
call_refusals st s row = (row_at st s row).refusals ++ pool_short st (row_at st s row).granted.deeds ∷ []

-- Descriptors and cursors that are opened outside a transaction block are closed again at the end of the request.
abbrev pub kept_open : {A : Type 0} → (in_block : Bool) → (old new : List A) → List A
kept_open false old new = old
kept_open true old new = new

-- a session with what a grant leaves it, and what all sessions share then
abbrev pub session_by : (in_block : Bool) → Granted → Session → Session
session_by in_block granted session = record {
  transaction = session.transaction;
  descriptors = kept_open in_block session.descriptors granted.descriptors;
  cursors = kept_open in_block session.cursors granted.cursors;
}

abbrev pub shared_by : Granted → Shared
shared_by granted = record { counter = granted.counter; tables = granted.tables }

abbrev pub called : State → (session : ℕ) → Granted → Outcome
called st s granted = record {
  reply = granted.reply;
  database = record { edits = and_made st s granted.deeds; tables = granted.tables; counter = granted.counter };
  player = record {
    session = session_by (is_open (session_of st s).transaction) granted (session_of st s);
    variables = granted.variables;
    sweep = (st.players s).sweep;
  };
}

abbrev pub call_granted : State → (session : ℕ) → (Here → Row) → Outcome
call_granted st s row = called st s (row_at st s row).granted
