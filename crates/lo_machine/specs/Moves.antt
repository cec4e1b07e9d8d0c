-- What the beginning of a level makes of edits and of a session.
use Rattle.std.specs.Prelude.{ℕ, List, ◌++◌, ◌∷◌, [], Option}
use Rattle.lo_model.specs.Edit.{Deed, Edit}
use Rattle.lo_model.specs.Session.{Session}

-- edits as they were
abbrev pub unturned : List (Edit Deed) → List (Edit Deed)
unturned edits = edits

-- one level more, with a name or none
abbrev pub session_opened : Option (List ℕ) → Session → Session
session_opened name session = record {
  transaction = record { levels = session.transaction.levels ++ name ∷ []; failed = session.transaction.failed };
  descriptors = session.descriptors;
  cursors = session.cursors;
}
