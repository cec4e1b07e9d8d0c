-- What a server keeps of a state, and what its calls make of it.
use Rattle.std.specs.Prelude.{◌≡◌, ◌≢◌, ◌≤◌, ◌<◌, ℕ, ◌+◌, ◌-◌, ◌^◌, ◌==◌, if◌then◌else◌, true, false, List, [], ◌++◌, length, map, flat_map, slice_get, slice_index_or, is_some, All, Option, Some, Result, IfOk, OnOk, OnErr, IsPermutation}
use Rattle.lo_base.specs.declared.memory.NoMemory.{NoMemory}
use Rattle.lo_base.specs.declared.reply.Reply.{Reply}
use Rattle.lo_base.specs.declared.request.Request.{Request}
use Rattle.lo_calls.specs.declared.descs.Descriptor.{Descriptor}
use Rattle.lo_calls.specs.declared.session.LoSession.{LoSession}
use Rattle.lo_calls.specs.Descriptors.{descriptors_of, holds_of, last_position, IsOwnHold}
use Rattle.lo_calls.specs.World.{counter_end}
use Rattle.lo_model.specs.Database.{Table}
use Rattle.lo_model.specs.Descriptor.{Cursor}
use Rattle.lo_model.specs.Edit.{Deed, Edit}
use Rattle.lo_model.specs.Held.{KeptView, views_kept}
use Rattle.lo_model.specs.Levels.{undone}
use Rattle.lo_model.specs.Session.{Session}
use Rattle.lo_pages.specs.declared.pages.Pages.{Pages}
use Rattle.lo_pages.specs.Outcome.{LeavesOwn}
use Rattle.lo_pages.specs.Standing.{GoWith, StandFor}
use Rattle.xact_core.specs.declared.snapshot.Snapshot.{Snapshot}
use Rattle.xact_core.specs.Kept.{view_at, kept_views, HoldsWholeViews}
use Rattle.xact_core.specs.Transactions.{Transactions, levels_of}
use Rattle.row_tables.specs.declared.tables.Tables.{Tables}
use Rattle.row_tables.specs.Cursors.{HoldsOwn, cursors_of, holds_of as cursor_holds}
use Rattle.row_tables.specs.Standing as tables
use Rattle.row_tables.specs.Catalog.{table_in}
use Rattle.row_tables.specs.World as calls
use Rattle.lo_machine.specs.declared.server.Server.{Server}
use Rattle.lo_machine.specs.declared.variables.Variables.{Variables}
use Rattle.lo_machine.specs.CallRows.{Shared, shared_of}
use Rattle.lo_machine.specs.Fitting.{IsFit}
use Rattle.lo_machine.specs.Later.{all_later, all_later_cursors, with_session_at}
use Rattle.lo_machine.specs.State.{State, Outcome, Variable, now, edits, session_of, variables_of}
use Rattle.lo_machine.specs.Step.{reply_to, state_after}
use Rattle.lo_machine.specs.Variables.{IsAs}
use Rattle.lo_machine.specs.Well.{IsFirst, IsWell}

-- the transactions, and their clock
abbrev pub xacts_of : Server → Transactions
xacts_of e = e.core.xacts

abbrev pub clock_of : Server → ℕ
clock_of e = (xacts_of e).clock

-- a session's levels in the server
abbrev pub names_in : Server → (session : ℕ) → List (Option (List ℕ))
names_in e s = levels_of (xacts_of e) s

-- the views that all descriptors hold, and those of one session's
abbrev pub holds_at : LoSession → List Snapshot
holds_at session = holds_of session.descs

abbrev pub all_holds : List LoSession → List Snapshot
all_holds sessions = flat_map holds_at sessions

-- one of the sixteen sessions, at its place
pub record IsPlaced (place : ℕ) (session : LoSession) : Type 0 where
  pub number : session.s ≡ place + 1
  pub most : length session.descs.entries.items ≤ 256
  pub positions : All (λ (d : Descriptor). d.position ≤ last_position) session.descs.entries.items
  pub holds : All (λ (d : Descriptor). IsOwnHold (place + 1) d.hold) session.descs.entries.items

-- all views that are held: those of descriptors, and those of cursors
abbrev pub views_held : Server → List Snapshot
views_held e = all_holds e.sessions.items ++ cursor_holds (tables.cursors_in e.tables)

-- the table of a cursor is there
abbrev pub IsNamed : List Table → Cursor → Type 0
IsNamed tables c = is_some (table_in c.table tables) ≡ true

-- What a server keeps through all requests. Of the transactions' views exactly those are held that its descriptors and its
-- cursors hold. No cursor is of a session beyond the sixteen.
pub record IsServer (e : Server) : Type 0 where
  pub goes : GoWith (xacts_of e) e.store.pages
  pub whole : HoldsWholeViews (xacts_of e)
  pub counter : e.store.counter ≤ counter_end
  pub undos : e.undos ≡ (xacts_of e).undos
  pub flags : length e.failed.items ≡ 16
  pub sixteen : length e.sessions.items ≡ 16
  pub sixteen_lists : length e.variables.items ≡ 16
  pub sixteen_levels : length (xacts_of e).levels ≡ 16
  pub placed : (place : ℕ) (session : LoSession) → slice_get e.sessions.items place ≡ Some session → IsPlaced place session
  pub held : IsPermutation (xacts_of e).held (views_held e)
  pub own : All HoldsOwn (tables.cursors_in e.tables).entries.items
  pub numbered : (s : ℕ) → (1 ≤ s → 16 < s) → cursors_of s (tables.cursors_in e.tables) ≡ []
  pub named : (s : ℕ) → All (IsNamed (tables.tables_in e.tables)) (cursors_of s (tables.cursors_in e.tables))
  pub first : (s : ℕ) → IsFirst (names_in e s)

-- rows stand for some edits, as the calls on tables need it and keep it
abbrev pub HasRows : Server → Type 0
HasRows e = tables.GoWith (xacts_of e) e.tables

-- a cursor belongs to a level
abbrev pub IsLeveled : Cursor → Type 0
IsLeveled c = 1 ≤ c.level

-- what a server keeps of a session: levels, failure, descriptors, cursors
pub record HasSession (e : Server) (s : ℕ) (session : Session) : Type 0 where
  pub levels : names_in e s ≡ session.transaction.levels
  pub failed : slice_index_or e.failed.items (s - 1) false ≡ session.transaction.failed
  pub descriptors : (own : LoSession) → slice_get e.sessions.items (s - 1) ≡ Some own → descriptors_of own.descs ≡ all_later session.descriptors
  pub cursors : cursors_of s (tables.cursors_in e.tables) ≡ all_later_cursors session.cursors
  pub leveled : All IsLeveled session.cursors

abbrev pub HasSessions : Server → (ℕ → Session) → Type 0
HasSessions e sessions = (s : ℕ) → 1 ≤ s → s ≤ 16 → HasSession e s (sessions s)

-- what it keeps of a state: edits on objects and rows, counter and tables, and of each session its block with the levels, its
-- descriptors and its cursors
pub record Has (e : Server) (ys : List (Edit Deed)) (shared : Shared) (players : ℕ → Session) : Type 0 where
  pub edits : StandFor (xacts_of e) e.store.pages ys
  pub rows : tables.StandFor (xacts_of e) e.tables ys
  pub counter : e.store.counter ≡ shared.counter
  pub tables : tables.tables_in e.tables ≡ shared.tables
  pub sessions : HasSessions e players

-- and of each session its array variables
pub record HasVariables (e : Server) (variables : ℕ → List Variable) : Type 0 where
  pub each : (s : ℕ) (own : Variables) → 1 ≤ s → s ≤ 16 → slice_get e.variables.items (s - 1) ≡ Some own → IsAs own (variables s)

-- one session's variables are others
abbrev pub with_variables_at : (session : ℕ) → List Variable → (ℕ → List Variable) → ℕ → List Variable
with_variables_at s own variables t = if t == s then own else variables t

-- Which states a server stands for.
pub record StandsFor (e : Server) (st : State) : Type 0 where
  pub time : clock_of e ≡ now st
  pub has : Has e (edits st) (shared_of st.database) (session_of st)
  pub variables : HasVariables e (variables_of st)
  pub well : IsWell st
  pub fit : IsFit st

pub record HasState (e : Server) : Type 0 where
  pub state : State
  pub stands : StandsFor e state

-- What a request does to a server, from every state that it stood for: the reply is that of the step, and the server then
-- stands for the next state. Where it finds no memory it stands for what it stood for.
pub record Serves (old new : Server) (session : ℕ) (request : Request) (result : Result Reply NoMemory) : Type 0 where
  pub ok : IfOk result (λ reply. (st : State) → StandsFor old st → (reply ≡ reply_to st session request) × StandsFor new (state_after st session request))
  pub time : OnOk result (clock_of new ≡ clock_of old + 1)
  pub err : OnErr result ((st : State) → StandsFor old st → StandsFor new st)
  pub stays : OnErr result (clock_of new ≡ clock_of old)

-- What is within a step.

-- what an outcome leaves, before the clock moves on
pub record Leaves (e : Server) (st : State) (session : ℕ) (done : Outcome) : Type 0 where
  pub time : clock_of e ≡ now st
  pub has : Has e done.database.edits (shared_of done.database) (with_session_at session done.player.session (session_of st))
  pub variables : HasVariables e (with_variables_at session done.player.variables (variables_of st))

-- a reply and what was done are those of an outcome, from every state that the server stood for
pub record Does (old new : Server) (session : ℕ) (outcome : State → Outcome) (answer : Reply) : Type 0 where
  pub reply : (st : State) → StandsFor old st → answer ≡ (outcome st).reply
  pub leaves : (st : State) → StandsFor old st → Leaves new st session (outcome st)
  pub rows : HasRows old → HasRows new
  pub time : clock_of new ≡ clock_of old

-- nothing was done: the server stands for the states that it stood for
pub record Undone (old new : Server) : Type 0 where
  pub stands : (st : State) → StandsFor old st → StandsFor new st
  pub rows : HasRows old → HasRows new
  pub time : clock_of new ≡ clock_of old

-- A session's levels, or its transaction, began or ended. It now has levels of these names. What that makes of the edits
-- and of the session is so whatever these were, and no other session changed, nor what sessions share, nor any variable.
pub record Becomes (session : ℕ) (left : List (Option (List ℕ))) (turned : List (Edit Deed) → List (Edit Deed)) (after : Session → Session) (old new : Server) : Type 0 where
  pub has : (ys : List (Edit Deed)) (shared : Shared) (sessions : ℕ → Session) → Has old ys shared sessions →
      Has new (turned ys) shared (with_session_at session (after (sessions session)) sessions)
  pub sessions : (sessions : ℕ → Session) → HasSessions old sessions →
      HasSessions new (with_session_at session (after (sessions session)) sessions)
  pub rows : HasRows old → HasRows new
  pub names : names_in new session ≡ left
  pub time : clock_of new ≡ clock_of old
  pub undos : (xacts_of new).undos ≤ (xacts_of old).undos + 1
  pub views : length (kept_views (xacts_of new)) ≤ length (kept_views (xacts_of old)) + 2
  pub others : (t : ℕ) → 1 ≤ t → t ≤ 16 → t ≢ session → names_in new t ≡ names_in old t
  pub store : new.store ≡ old.store
  pub tables : tables.tables_in new.tables ≡ tables.tables_in old.tables
  pub variables : new.variables ≡ old.variables

-- What was written at the session's top level since pages and tables stood for some edits is lost with that level.
pub record Loses (session level : ℕ) (old new : Server) : Type 0 where
  pub pages : (before : Pages) (ys : List (Edit Deed)) → level ≡ length (names_in old session) →
      LeavesOwn (xacts_of old) session before old.store.pages → StandFor (xacts_of old) before ys →
      StandFor (xacts_of new) new.store.pages (undone session level ys)
  pub rows : (before : Tables) (ys : List (Edit Deed)) → level ≡ length (names_in old session) →
      calls.LeavesOwn (xacts_of old) session before old.tables → tables.Go (xacts_of old) old.tables →
      tables.StandFor (xacts_of old) before ys → tables.StandFor (xacts_of new) new.tables (undone session level ys)
  pub goes : (before : Tables) → level ≡ length (names_in old session) →
      calls.LeavesOwn (xacts_of old) session before old.tables → tables.Go (xacts_of old) old.tables →
      tables.GoWith (xacts_of old) before → HasRows new

-- room for a request: few undoings and few kept views so far
pub record HasRoom (e : Server) : Type 0 where
  pub undos : (xacts_of e).undos < 2 ^ 62
  pub views : length (kept_views (xacts_of e)) < 2 ^ 62

-- A view that a state keeps, as a server keeps it: with the edits of the present clock.
abbrev pub later_view : KeptView → Snapshot
later_view v = view_at (v.clock + 1) v.viewer

-- The views that the transactions keep are those that the state keeps, each as often.
pub record KeepsViews (e : Server) (st : State) : Type 0 where
  pub views : IsPermutation (kept_views (xacts_of e)) (map later_view (views_kept (now st) (session_of st)))
