-- A server makes the edits of a request at the present clock and sees them at once, so its views are those of the clock
-- above. What a state keeps of a view at a clock, a server keeps at the clock above.
use Rattle.std.specs.Prelude.{ℕ, ◌+◌, ◌==◌, List, map, if◌then◌else◌}
use Rattle.lo_model.specs.Descriptor.{Reading, Kept, Current, Descriptor, Cursor}
use Rattle.lo_model.specs.Session.{Session}

abbrev pub later_reading : Reading → Reading
later_reading (Kept clock) = Kept (clock + 1)
later_reading Current = Current

abbrev pub later : Descriptor → Descriptor
later d = record { number = d.number; oid = d.oid; position = d.position; level = d.level; reading = later_reading d.reading }

abbrev pub all_later : List Descriptor → List Descriptor
all_later descriptors = map later descriptors

abbrev pub later_cursor : Cursor → Cursor
later_cursor c = record { name = c.name; table = c.table; id = c.id; level = c.level; clock = c.clock + 1 }

abbrev pub all_later_cursors : List Cursor → List Cursor
all_later_cursors cursors = map later_cursor cursors

-- one session is another one
abbrev pub with_session_at : (session : ℕ) → Session → (ℕ → Session) → ℕ → Session
with_session_at s session sessions t = if t == s then session else sessions t
