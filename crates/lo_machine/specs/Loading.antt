-- A server that is made of an opening: its tables and its objects stand for edits of one session, whose transaction is open.
use Rattle.std.specs.Prelude.{◌≡◌, ◌<◌, ℕ, Bool, true, false, List, ◌++◌, length, flat_map}
use Rattle.lo_model.specs.declared.owner.Owner.TheVariants.{Running}
use Rattle.lo_model.specs.Edit.{Deed, Create, Write, Cut, Unlink, Put, Delete, Edit, edits_by}
use Rattle.lo_model.specs.Opening.{Opening, object_deeds, table_deeds}
use Rattle.lo_model.specs.Session.{Session, idle_session, session_begun}
use Rattle.lo_pages.specs.declared.pages.Pages.{Pages}
use Rattle.lo_pages.specs.Standing.{StandFor}
use Rattle.lo_restore.specs.Objects.{now_by}
use Rattle.row_versions.specs.Stack.{Each}
use Rattle.xact_core.specs.Transactions.{Transactions}
use Rattle.lo_machine.specs.declared.server.Server.{Server}
use Rattle.lo_machine.specs.CallRows.{shared_of}
use Rattle.lo_machine.specs.Server.{Has, HasRows, IsServer, clock_of, names_in}
use Rattle.lo_machine.specs.Fitting.{IsFitOpening}
use Rattle.lo_machine.specs.Later.{with_session_at}
use Rattle.lo_machine.specs.NewServer.{AreNone}
use Rattle.lo_machine.specs.Run.{database_of}
use Rattle.lo_machine.specs.Values.{plan_of}

-- the session in whose transaction an opening is loaded
abbrev pub loading_session : ℕ
loading_session = 1

-- all deeds of an opening: first those of rows, then those of objects
abbrev pub deeds_of : Opening → List Deed
deeds_of opening = flat_map (table_deeds plan_of) opening.tables ++ flat_map object_deeds opening.objects

-- the edits before their commit, and the sessions
abbrev pub open_edits : List Deed → List (Edit Deed)
open_edits deeds = edits_by 0 (Running loading_session 1) deeds

abbrev pub loading_sessions : ℕ → Session
loading_sessions = with_session_at loading_session session_begun (λ s. idle_session)

abbrev pub is_put : Deed → Bool
is_put (Create o) = false
is_put (Write o at bytes) = false
is_put (Cut o size) = false
is_put (Unlink o) = false
is_put (Put t i values stored) = true
is_put (Delete t i) = false

abbrev pub ArePuts : List Deed → Type 0
ArePuts deeds = Each (λ (d : Deed). is_put d ≡ true) deeds

-- Pages stand for deeds of a session's transaction, whatever rows it put before.
pub record StandBehindRows (x : Transactions) (s : ℕ) (deeds : List Deed) (pages : Pages) : Type 0 where
  pub stand : (puts : List Deed) → ArePuts puts → StandFor x pages (now_by x s (puts ++ deeds))

-- The server of an opening whose rows and objects fit, before the commit.
pub record IsLoaded (opening : Opening) (e : Server) : Type 0 where
  pub fit : IsFitOpening opening
  pub sound : IsServer e
  pub rows : HasRows e
  pub time : clock_of e ≡ 0
  pub begun : 0 < length (names_in e loading_session)
  pub has : Has e (open_edits (deeds_of opening)) (shared_of (database_of opening)) loading_sessions
  pub variables : AreNone e.variables.items
