-- What a call of a session stands in and what it leaves, whatever edits the tables stood for.
use Rattle.std.specs.Prelude.{◌≡◌, ◌≢◌, ◌≤◌, ℕ, ◌+◌, true, not, ◌&&◌, ◌==◌, List, ◌++◌, length, All, Option, Some, None, is_some}
use Rattle.std.specs.List.{find}
use Rattle.lo_base.specs.declared.refusal.Denied.{Denied}
use Rattle.lo_base.specs.declared.refusal.Denied.TheVariants.{By, NoMemory}
use Rattle.lo_base.specs.declared.refusal.Refusal.{Refusal}
use Rattle.lo_base.specs.declared.reply.Reply.{Reply}
use Rattle.lo_model.specs.declared.owner.Owner.TheVariants.{Running}
use Rattle.lo_model.specs.Edit.{Deed, Edit, edits_by}
use Rattle.lo_model.specs.Session.{session_numbers}
use Rattle.lo_model.specs.Transaction.{has_levels}
use Rattle.lo_model.specs.View.{view}
use Rattle.xact_core.specs.declared.snapshot.Snapshot.{Snapshot}
use Rattle.xact_core.specs.Kept.{current, kept_views, HoldsOthers, HoldsWholeViews}
use Rattle.xact_core.specs.Transactions.{Transactions, levels_of}
use Rattle.row_versions.specs.Stands.{AddsOwn}
use Rattle.toast_chunks.specs.Calls as chunks
use Rattle.row_tables.specs.declared.cursors.Cursor.{Cursor}
use Rattle.row_tables.specs.declared.row_key.RowKey.{RowKey}
use Rattle.row_tables.specs.declared.tables.Tables.{Tables}
use Rattle.row_tables.specs.Catalog.{table_in}
use Rattle.row_tables.specs.Cursors.{AreOpen, HoldsRest, cursors_of}
use Rattle.row_tables.specs.Row.{Here, Row}
use Rattle.row_tables.specs.Standing.{Go, GoWith, StandFor, versions_of}
use Rattle.row_tables.specs.Terms.{first_of}

-- the transactions, the tables, and the session that calls
pub record World : Type 0 where
  pub xacts : Transactions
  pub tables : Tables
  pub session : ℕ

abbrev pub world : Transactions → Tables → (session : ℕ) → World
world x tables s = record { xacts = x; tables = tables; session = s }

-- the lowest other session that has a transaction
abbrev pub other_open : Transactions → (session : ℕ) → Option ℕ
other_open x s = find (λ t. not (t == s) && has_levels (levels_of x t)) session_numbers

-- what a call reads in a view, where the tables stand for some edits
abbrev pub here_in : World → Snapshot → List (Edit Deed) → Here
here_in w v ys = record {
  clock = w.xacts.clock;
  session = w.session;
  level = length (levels_of w.xacts w.session);
  cursors = cursors_of w.session w.tables.cursors;
  view = view v.clock v.viewer ys;
  edits = ys;
  tables = w.tables.catalog;
  other = other_open w.xacts w.session;
}

-- the same in the session's current view
abbrev pub here_of : World → List (Edit Deed) → Here
here_of w ys = here_in w (current w.xacts w.session) ys

-- the table of a cursor is there
abbrev pub HasTable : Tables → Cursor → Type 0
HasTable tables c = is_some (table_in c.table tables.catalog) ≡ true

-- What a call needs of its world, and keeps: all held views are whole, tables go with the transactions, and the cursors are
-- open, each on a table that is there.
pub record IsReady (w : World) : Type 0 where
  pub whole : HoldsWholeViews w.xacts
  pub goes : GoWith w.xacts w.tables
  pub cursors : AreOpen w.xacts w.tables.cursors
  pub named : All (HasTable w.tables) w.tables.cursors.entries.items

-- A row's grant, where the tables stood for some edits: no term of a refusal holds, the reply is the row's, and tables, edits
-- and cursors are as it says. The edits are the session's, at its top level and the present clock.
pub record IsGranted (row : Row) (old new : World) (reply : Reply) (ys : List (Edit Deed)) : Type 0 where
  pub unrefused : first_of row.refusals ≡ None
  pub answer : reply ≡ row.granted.reply
  pub edits : StandFor new.xacts new.tables (ys ++ edits_by old.xacts.clock (Running old.session (length (levels_of old.xacts old.session))) row.granted.deeds)
  pub tables : new.tables.catalog ≡ row.granted.tables
  pub cursors : cursors_of new.session new.tables.cursors ≡ row.granted.cursors

pub record Grants (row : Here → Row) (old new : World) (reply : Reply) : Type 0 where
  pub granted : (ys : List (Edit Deed)) → StandFor old.xacts old.tables ys → IsGranted (row (here_of old ys)) old new reply ys

-- A call was refused by the first term that holds, and changed nothing.
pub record Refuses (row : Here → Row) (old new : World) (r : Refusal) : Type 0 where
  pub first : (ys : List (Edit Deed)) → StandFor old.xacts old.tables ys → first_of (row (here_of old ys)).refusals ≡ Some r
  pub same : new ≡ old

-- What a writing call leaves, whatever it answers: beside what was there, versions of the session's top level and the present
-- clock. Tables and cursors are as they were.
pub record LeavesOwn (x : Transactions) (s : ℕ) (old new : Tables) : Type 0 where
  pub rows : (key : RowKey) → AddsOwn x s (versions_of old key) (versions_of new key)
  pub chunks : chunks.LeavesOwn x s old.chunks new.chunks
  pub catalog : new.catalog ≡ old.catalog
  pub cursors : new.cursors.entries.items ≡ old.cursors.entries.items

-- A call found no memory. Tables and cursors are as they were, and beside the versions that were there stand some of the
-- session's top level and the present clock at most.
pub record FindsNoMemory (old new : World) : Type 0 where
  pub left : LeavesOwn old.xacts old.session old.tables new.tables
  pub stores : Go new.xacts new.tables
  pub xacts : new.xacts ≡ old.xacts

abbrev pub Denies : (Here → Row) → (old new : World) → Denied → Type 0
Denies row old new (By r) = Refuses row old new r
Denies row old new NoMemory = FindsNoMemory old new

-- A call that only reads, in a view: what it answers, and what refuses it.

pub record Tells (row : Here → Row) (w : World) (v : Snapshot) (reply : Reply) : Type 0 where
  pub unrefused : (ys : List (Edit Deed)) → StandFor w.xacts w.tables ys → first_of (row (here_in w v ys)).refusals ≡ None
  pub answer : (ys : List (Edit Deed)) → StandFor w.xacts w.tables ys → reply ≡ (row (here_in w v ys)).granted.reply

abbrev pub RefusesIn : (Here → Row) → World → Snapshot → Denied → Type 0
RefusesIn row w v (By r) = (ys : List (Edit Deed)) → StandFor w.xacts w.tables ys → first_of (row (here_in w v ys)).refusals ≡ Some r
RefusesIn row w v NoMemory = Unit {0}

-- What a call that was granted or refused leaves: it is ready for the next one, other sessions have their cursors, and of the
-- transactions only the views that cursors hold can be others than before, at most one more.
pub record Keeps (old new : World) : Type 0 where
  pub ready : IsReady new
  pub session : new.session ≡ old.session
  pub cursors : (t : ℕ) → t ≢ old.session → cursors_of t new.tables.cursors ≡ cursors_of t old.tables.cursors
  pub others : HoldsOthers old.xacts new.xacts
  pub holds : HoldsRest old.xacts.held new.xacts.held old.tables.cursors new.tables.cursors
  pub views : length (kept_views new.xacts) ≤ length (kept_views old.xacts) + 1

-- rows, chunks and tables are as they were
pub record SameRows (old new : Tables) : Type 0 where
  pub rows : new.rows ≡ old.rows
  pub chunks : new.chunks ≡ old.chunks
  pub catalog : new.catalog ≡ old.catalog
