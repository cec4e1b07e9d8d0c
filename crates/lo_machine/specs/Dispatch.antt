-- What a call of a session on data leaves of the server, in the words of its row, whatever the server had.
use Rattle.std.specs.Prelude.{◌≡◌, ◌≤◌, ◌<◌, ℕ, ◌+◌, ◌-◌, ◌^◌, true, List, ◌++◌, length, All, Some, None, Result, IfOk, IfErr, OnErr}
use Rattle.lo_base.specs.declared.refusal.Denied.{Denied}
use Rattle.lo_base.specs.declared.refusal.Denied.TheVariants.{By, NoMemory}
use Rattle.lo_base.specs.declared.refusal.Refusal.{Refusal}
use Rattle.lo_base.specs.declared.reply.Reply.{Reply}
use Rattle.lo_base.specs.declared.request.Request.{Request}
use Rattle.lo_model.specs.declared.owner.Owner.TheVariants.{Running}
use Rattle.lo_model.specs.Descriptor.{Cursor, Descriptor}
use Rattle.lo_model.specs.Edit.{Deed, Edit, edits_by}
use Rattle.lo_model.specs.Session.{Session, lowest_open}
use Rattle.lo_pages.specs.Outcome.{first_of, LeavesOwn}
use Rattle.row_tables.specs.Standing.{Go}
use Rattle.row_tables.specs.World as calls
use Rattle.xact_core.specs.Kept.{kept_views, HoldsOthers}
use Rattle.lo_machine.specs.declared.server.Server.{Server}
use Rattle.lo_machine.specs.Alike.{SeesNone, ReadsNone}
use Rattle.lo_machine.specs.CallRows.{Shared, here_at, session_by, shared_by}
use Rattle.lo_machine.specs.Server.{xacts_of, clock_of, names_in, IsServer, HasRows, HasSessions, Has, HasVariables, with_variables_at, StandsFor, Does, Undone}
use Rattle.lo_machine.specs.FlatRows.{AreFlatRows}
use Rattle.lo_machine.specs.Later.{with_session_at}
use Rattle.lo_machine.specs.Row.{Here, Row}
use Rattle.lo_machine.specs.State.{State, Variable}
use Rattle.lo_machine.specs.Step.{refusals, tried}

-- what a call needs: its session has a transaction, and one view more can be kept
pub record CanCall (session : ℕ) (e : Server) : Type 0 where
  pub sound : IsServer e
  pub rows : HasRows e
  pub begun : 0 < length (names_in e session)
  pub views : length (kept_views (xacts_of e)) < 2 ^ 64 - 4

-- What a server has where a session calls. No edit was made at the present clock, nor at those of the views that the session's
-- descriptors and cursors keep. Every row that was put has flat bytes in its array columns.
pub record Finds (session : ℕ) (e : Server) (ys : List (Edit Deed)) (shared : Shared) (sessions : ℕ → Session) (variables : ℕ → List Variable) : Type 0 where
  pub has : Has e ys shared sessions
  pub arrays : HasVariables e variables
  pub views : SeesNone ys (clock_of e)
  pub kept : All (λ (d : Descriptor). ReadsNone ys d.reading) (sessions session).descriptors
  pub cursors : All (λ (c : Cursor). SeesNone ys c.clock) (sessions session).cursors
  pub flat : AreFlatRows shared.tables ys

-- what the call's row reads of it
abbrev pub here_in : (session : ℕ) → Server → List (Edit Deed) → Shared → (ℕ → Session) → (ℕ → List Variable) → Here
here_in s e ys shared sessions variables =
    here_at (clock_of e) s (length (names_in e s)) (lowest_open s sessions) ys shared (sessions s) (variables s)

-- A row's grant: no term of a refusal holds, the reply is the row's, and the server has what the row says. The edits are the
-- session's, at its top level and the present clock.
pub record IsGranted (session : ℕ) (row : Row) (old new : Server) (reply : Reply) (ys : List (Edit Deed)) (sessions : ℕ → Session) (variables : ℕ → List Variable) : Type 0 where
  pub unrefused : first_of row.refusals ≡ None
  pub answer : reply ≡ row.granted.reply
  pub has : Has new (ys ++ edits_by (clock_of old) (Running session (length (names_in old session))) row.granted.deeds) (shared_by row.granted) (with_session_at session (session_by true row.granted (sessions session)) sessions)
  pub arrays : HasVariables new (with_variables_at session row.granted.variables variables)

pub record Grants (session : ℕ) (row : Here → Row) (old new : Server) (reply : Reply) : Type 0 where
  pub granted : (ys : List (Edit Deed)) (shared : Shared) (sessions : ℕ → Session) (variables : ℕ → List Variable) → Finds session old ys shared sessions variables →
      IsGranted session (row (here_in session old ys shared sessions variables)) old new reply ys sessions variables
  pub rows : HasRows new

-- whatever the server had, it has it still
pub record Stays (old new : Server) : Type 0 where
  pub has : (ys : List (Edit Deed)) (shared : Shared) (sessions : ℕ → Session) → Has old ys shared sessions → Has new ys shared sessions
  pub variables : (variables : ℕ → List Variable) → HasVariables old variables → HasVariables new variables
  pub rows : HasRows new

-- A call was refused by the first term that holds.
pub record Refuses (session : ℕ) (row : Here → Row) (old new : Server) (r : Refusal) : Type 0 where
  pub first : (ys : List (Edit Deed)) (shared : Shared) (sessions : ℕ → Session) (variables : ℕ → List Variable) → Finds session old ys shared sessions variables →
      first_of (row (here_in session old ys shared sessions variables)).refusals ≡ Some r
  pub stays : Stays old new

-- A call found no memory. Pages, rows and chunks got versions of the session's top level and the present clock at most.
pub record FindsNoMemory (session : ℕ) (old new : Server) : Type 0 where
  pub pages : LeavesOwn (xacts_of old) session old.store.pages new.store.pages
  pub tables : calls.LeavesOwn (xacts_of old) session old.tables new.tables
  pub go : Go (xacts_of new) new.tables
  pub counter : new.store.counter ≡ old.store.counter
  pub sessions : (sessions : ℕ → Session) → HasSessions old sessions → HasSessions new sessions
  pub variables : (variables : ℕ → List Variable) → HasVariables old variables → HasVariables new variables
  pub xacts : xacts_of new ≡ xacts_of old

abbrev pub Denies : (session : ℕ) → (Here → Row) → (old new : Server) → Denied → Type 0
Denies s row old new (By r) = Refuses s row old new r
Denies s row old new NoMemory = FindsNoMemory s old new

-- A call answers by its row. Of the transactions nothing changes but the views that are held.
pub record AnswersCall (session : ℕ) (row : Here → Row) (old new : Server) (result : Result Reply Denied) : Type 0 where
  pub sound : IsServer new
  pub xacts : HoldsOthers (xacts_of old) (xacts_of new)
  pub views : length (kept_views (xacts_of new)) ≤ length (kept_views (xacts_of old)) + 1
  pub ok : IfOk result (Grants session row old new)
  pub err : IfErr result (Denies session row old new)

-- one that makes no edits leaves what it found, also where it finds no memory
pub record ReadsCall (session : ℕ) (row : Here → Row) (old new : Server) (result : Result Reply Denied) : Type 0 where
  pub answers : AnswersCall session row old new result
  pub stays : OnErr result (Stays old new)

-- A call in a block was refused, or found no memory: the server stands for what it stood for.
abbrev pub IsDenied : (session : ℕ) → Request → (st : State) → Denied → Type 0
IsDenied s request st (By r) = first_of (refusals st s request) ≡ Some r
IsDenied s request st NoMemory = Unit {0}

pub record DeniesInBlock (session : ℕ) (request : Request) (old new : Server) (denied : Denied) : Type 0 where
  pub first : (st : State) → StandsFor old st → IsDenied session request st denied
  pub undone : Undone old new

pub record AnswersInBlock (session : ℕ) (request : Request) (old new : Server) (result : Result Reply Denied) : Type 0 where
  pub sound : IsServer new
  pub undos : (xacts_of new).undos ≤ (xacts_of old).undos + 3
  pub ok : IfOk result (Does old new session (λ st. tried st session request))
  pub err : IfErr result (DeniesInBlock session request old new)
