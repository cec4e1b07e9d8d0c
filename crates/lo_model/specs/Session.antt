-- A session: its transaction block, its descriptors and its cursors, and what the end of a level or of the block makes of all
-- three. What an end makes of the edits stands in Levels.
use Rattle.std.specs.Prelude.{ℕ, ◌==◌, not, Bool, ◌&&◌, List, [], map, Option}
use Rattle.std.specs.List.{find, range_with_len}
use Rattle.lo_model.specs.Transaction.{Transaction, no_transaction, new_transaction, is_open, with_savepoint, transaction_released, transaction_undone}
use Rattle.lo_model.specs.Descriptor.{Descriptor, Cursor, descriptor_released, cursor_released, descriptors_below, cursors_below}

pub record Session : Type 0 where
  pub transaction : Transaction
  pub descriptors : List Descriptor
  pub cursors : List Cursor

-- a session outside a transaction block. It has no descriptors and no cursors there
abbrev pub idle_session : Session
idle_session = record { transaction = no_transaction; descriptors = []; cursors = [] }

-- the beginning of a block
abbrev pub session_begun : Session
session_begun = record { transaction = new_transaction; descriptors = []; cursors = [] }

abbrev pub session_saved : (name : List ℕ) → Session → Session
session_saved name session =
    record { transaction = with_savepoint name session.transaction; descriptors = session.descriptors; cursors = session.cursors }

abbrev pub session_released : (level : ℕ) → Session → Session
session_released k session = record {
  transaction = transaction_released k session.transaction;
  descriptors = map (descriptor_released k) session.descriptors;
  cursors = map (cursor_released k) session.cursors;
}

abbrev pub session_undone : (level : ℕ) → (failed : Bool) → Session → Session
session_undone k failed session = record {
  transaction = transaction_undone k failed session.transaction;
  descriptors = descriptors_below k session.descriptors;
  cursors = cursors_below k session.cursors;
}

-- with other descriptors, and with other cursors
abbrev pub with_descriptors : List Descriptor → Session → Session
with_descriptors descriptors session =
    record { transaction = session.transaction; descriptors = descriptors; cursors = session.cursors }

abbrev pub with_cursors : List Cursor → Session → Session
with_cursors cursors session =
    record { transaction = session.transaction; descriptors = session.descriptors; cursors = cursors }

-- the numbers of all sessions
abbrev pub session_numbers : List ℕ
session_numbers = range_with_len 1 16

-- the lowest session but one that has a transaction block open, a failed one too
abbrev pub lowest_open : (session : ℕ) → (sessions : ℕ → Session) → Option ℕ
lowest_open s sessions = find (λ t. not (t == s) && is_open (sessions t).transaction) session_numbers
