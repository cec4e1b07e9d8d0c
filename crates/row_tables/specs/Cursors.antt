-- The open cursors of all sessions: what they stand for, which views they hold, and what closes some of them.
use Rattle.std.specs.Prelude.{◌≡◌, ◌≤◌, ℕ, Bool, not, ◌&&◌, ◌==◌, nat_le, List, ◌++◌, length, map, filter, All, Option, Some, None, IsPermutation, Contains, option_map, bytes_eq}
use Rattle.lo_model.specs.declared.viewer.Viewer.TheVariants.{Whole}
use Rattle.lo_model.specs.Descriptor as model
use Rattle.xact_core.specs.declared.snapshot.Snapshot.{Snapshot}
use Rattle.xact_core.specs.Kept.{kept_views, HoldsOthers, HoldsWholeViews}
use Rattle.xact_core.specs.Transactions.{Transactions}
use Rattle.row_tables.specs.declared.cursors.Closing.{Closing}
use Rattle.row_tables.specs.declared.cursors.Closing.TheVariants.{FromLevel, OfName}
use Rattle.row_tables.specs.declared.cursors.Cursor.{Cursor}
use Rattle.row_tables.specs.declared.cursors.Cursors.{Cursors}

-- a cursor as the model has it: it reads in the view that it holds
abbrev pub cursor_by : Cursor → model.Cursor
cursor_by c = record { name = c.name; table = c.table; id = c.id; level = c.level; clock = c.hold.clock }

abbrev pub is_own : (session : ℕ) → Cursor → Bool
is_own s c = c.session == s

-- a session's cursors, in the order declared
abbrev pub own_cursors : (session : ℕ) → List Cursor → List model.Cursor
own_cursors s entries = map cursor_by (filter (is_own s) entries)

abbrev pub cursors_of : (session : ℕ) → Cursors → List model.Cursor
cursors_of s cursors = own_cursors s cursors.entries.items

-- the views that cursors hold

abbrev pub hold_of : Cursor → Snapshot
hold_of c = c.hold

abbrev pub holds_in : List Cursor → List Snapshot
holds_in entries = map hold_of entries

abbrev pub holds_of : Cursors → List Snapshot
holds_of cursors = holds_in cursors.entries.items

-- Of the views that are held, some are the holds of these cursors, each hold a view for itself.
pub record AreHeld (x : Transactions) (cursors : Cursors) : Type 0 where
  pub rest : List Snapshot
  pub all : IsPermutation x.held (holds_of cursors ++ rest)

-- a cursor's hold is of the whole view of its session
abbrev pub HoldsOwn : Cursor → Type 0
HoldsOwn c = c.hold.viewer ≡ Whole c.session

-- what each call keeps of the cursors
pub record AreOpen (x : Transactions) (cursors : Cursors) : Type 0 where
  pub own : All HoldsOwn cursors.entries.items
  pub held : AreHeld x cursors

-- which cursors of a session are closed: those of a level and of all above it, or the one of a name
abbrev pub closed_by : Closing → Cursor → Bool
closed_by (FromLevel level) c = nat_le level c.level
closed_by (OfName name) c = bytes_eq c.name name.now

abbrev pub closes : (session : ℕ) → Closing → Cursor → Bool
closes s closing c = is_own s c && closed_by closing c

abbrev pub left_open : (session : ℕ) → Closing → List Cursor → List Cursor
left_open s closing entries = filter (λ (c : Cursor). not (closes s closing c)) entries

-- Views that are held beside those of the cursors stay held.
pub record HoldsRest (before after : List Snapshot) (old new : Cursors) : Type 0 where
  pub rest : (others : List Snapshot) → IsPermutation before (holds_of old ++ others) → IsPermutation after (holds_of new ++ others)

-- Some cursors ended, and each gave back what it held: of the transactions nothing else changes, and no view more is kept.
pub record Ends (x x' : Transactions) (old new : Cursors) : Type 0 where
  pub others : HoldsOthers x x'
  pub holds : HoldsRest x.held x'.held old new
  pub whole : HoldsWholeViews x → HoldsWholeViews x'
  pub views : length (kept_views x') ≤ length (kept_views x)
  pub remain : AreOpen x old → AreOpen x' new

-- a found cursor is a session's own
abbrev pub StandsAmong : (session : ℕ) → Cursors → Option Cursor → Type 0
StandsAmong s cursors None = Unit {0}
StandsAmong s cursors (Some c) = Contains cursors.entries.items c × (c.session ≡ s)

-- the session's first cursor of a name, where there is one
pub record FindsCursor (s : ℕ) (name : List ℕ) (cursors : Cursors) (found : Option Cursor) : Type 0 where
  pub is : option_map cursor_by found ≡ model.cursor_in name (cursors_of s cursors)
  pub stands : StandsAmong s cursors found
