-- What holds of every state that requests which are served lead to.
use Rattle.std.specs.Prelude.{◌≡◌, ◌≢◌, ◌<◌, ◌≤◌, ℕ, false, List, [], ◌∷◌, All, Option, None}
use Rattle.std.specs.List.{AllByRecursion}
use Rattle.expanded_array.specs.Array.{IsHeld}
use Rattle.lo_model.specs.declared.owner.Owner.{Owner}
use Rattle.lo_model.specs.declared.owner.Owner.TheVariants.{Running, Committed}
use Rattle.lo_model.specs.Database.{Table}
use Rattle.lo_model.specs.Descriptor.{Reading, Kept, Current, Descriptor, Cursor}
use Rattle.lo_model.specs.Edit.{Deed, Edit}
use Rattle.lo_model.specs.Session.{Session}
use Rattle.lo_model.specs.Transaction.{top_level}
use Rattle.toast_plan.specs.Columns.{AreDistinct}
use Rattle.lo_machine.specs.FlatRows.{AreFlatRows}
use Rattle.lo_machine.specs.Spelled.{names_of}
use Rattle.lo_machine.specs.State.{State, Variable, now, edits, session_of, variables_of}

-- an owner's level is one of its session's, and its commit is past
abbrev pub IsOwner : (now : ℕ) → (ℕ → Session) → Owner → Type 0
IsOwner now sessions (Running s level) = (1 ≤ level) × (level ≤ top_level (sessions s).transaction)
IsOwner now sessions (Committed c) = c < now

-- an edit was made before the next advance
pub record IsPast (now : ℕ) (sessions : ℕ → Session) (e : Edit Deed) : Type 0 where
  pub made : e.clock < now
  pub owner : IsOwner now sessions e.owner

-- no edit was made at a clock, and none committed at it
pub record IsQuietAt (clock : ℕ) (e : Edit Deed) : Type 0 where
  pub made : e.clock ≢ clock
  pub owner : e.owner ≢ Committed clock

-- A view that a descriptor or a cursor keeps is past. The advance at whose clock it was taken made no edit.
abbrev pub IsQuiet : (now : ℕ) → List (Edit Deed) → Reading → Type 0
IsQuiet now edits (Kept clock) = (clock < now) × All (IsQuietAt clock) edits
IsQuiet now edits Current = Unit {0}

-- a session's level 1 has no name
abbrev pub IsFirst : List (Option (List ℕ)) → Type 0
IsFirst [] = Unit {0}
IsFirst (level ∷ levels) = level ≡ None

-- a descriptor of a session, which has so many levels
pub record IsDescriptor (now : ℕ) (edits : List (Edit Deed)) (levels : ℕ) (d : Descriptor) : Type 0 where
  pub level : d.level ≤ levels
  pub quiet : IsQuiet now edits d.reading

-- a cursor of a session, which has so many levels
pub record IsCursor (now : ℕ) (edits : List (Edit Deed)) (levels : ℕ) (c : Cursor) : Type 0 where
  pub level : c.level ≤ levels
  pub quiet : IsQuiet now edits (Kept c.clock)

-- a session, which has descriptors, cursors and a failure in a block alone
pub record IsSession (now : ℕ) (edits : List (Edit Deed)) (session : Session) : Type 0 where
  pub first : IsFirst session.transaction.levels
  pub descriptors : All (IsDescriptor now edits (top_level session.transaction)) session.descriptors
  pub none : session.transaction.levels ≡ [] → session.descriptors ≡ []
  pub unfailed : session.transaction.levels ≡ [] → session.transaction.failed ≡ false
  pub cursors : All (IsCursor now edits (top_level session.transaction)) session.cursors
  pub no_cursors : session.transaction.levels ≡ [] → session.cursors ≡ []

-- edits and sessions before the advance at a clock
pub record AreWell (now : ℕ) (edits : List (Edit Deed)) (sessions : ℕ → Session) : Type 0 where
  pub past : All (IsPast now sessions) edits
  pub each : (s : ℕ) → IsSession now edits (sessions s)

-- a table, each of whose columns has a name of its own
abbrev pub HasNames : Table → Type 0
HasNames t = AreDistinct (names_of t.columns)

abbrev pub AreNamed : List Table → Type 0
AreNamed tables = AllByRecursion HasNames tables

-- variables, each with an array that a variable may hold
abbrev pub HoldsArray : Variable → Type 0
HoldsArray v = IsHeld v.array

abbrev pub AreHeld : List Variable → Type 0
AreHeld variables = All HoldsArray variables

-- Blocks are not counted yet.
pub record IsWell (st : State) : Type 0 where
  pub well : AreWell (now st) (edits st) (session_of st)
  pub uncounted : st.blocks ≡ None
  pub flat : AreFlatRows st.database.tables (edits st)
  pub named : AreNamed st.database.tables
  pub held : (s : ℕ) → AreHeld (variables_of st s)
