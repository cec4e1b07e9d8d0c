-- Descriptors of large objects and cursors. (Manual, Large Objects, Client Interfaces, lo_open; DECLARE.)
use Rattle.std.specs.Prelude.{ℕ, ℤ, zero, suc, ◌+◌, ◌-◌, min, Bool, true, false, not, ◌==◌, List, [], length, filter, map, Option, Some, None, bytes_eq, nat_lt, if◌then◌else◌}
use Rattle.std.specs.List.{list_any, find}
use Rattle.lo_model.specs.Edit.{Deed, Edit}
use Rattle.lo_model.specs.Object.{object_in}
use Rattle.lo_model.specs.Row.{Row, row_in}
use Rattle.lo_model.specs.View.{current_view}

-- A descriptor reads in the view that its session had at the clock of its opening, where it was opened with INV_READ
-- alone, or in the current view, where it may write.
pub data Reading : Type 0 where
  Kept : (clock : ℕ) → Reading
  Current : Reading

-- A descriptor has a number among those of its session, stands at a position in its object, and belongs to a level.
pub record Descriptor : Type 0 where
  pub number : ℕ
  pub oid : ℕ
  pub position : ℕ
  pub level : ℕ
  pub reading : Reading

-- A cursor is one row, in the view that its session had at the clock of its declaration. It belongs to a level.
pub record Cursor : Type 0 where
  pub name : List ℕ
  pub table : List ℕ
  pub id : ℤ
  pub level : ℕ
  pub clock : ℕ

abbrev pub is_current : Reading → Bool
is_current (Kept clock) = false
is_current Current = true

-- the clock of the view that is read in
abbrev pub reading_clock : (now : ℕ) → Reading → ℕ
reading_clock now (Kept clock) = clock
reading_clock now Current = now

-- no bytes where the object is not there
abbrev pub bytes_or_none : Option (List ℕ) → List ℕ
bytes_or_none None = []
bytes_or_none (Some bytes) = bytes

-- the bytes that a session's descriptor reads at a clock
abbrev pub descriptor_bytes : (now session : ℕ) → List (Edit Deed) → Descriptor → List ℕ
descriptor_bytes now s edits d = bytes_or_none (object_in d.oid (current_view (reading_clock now d.reading) s edits))

-- the row that a session's cursor reads
abbrev pub cursor_row : (session : ℕ) → List (Edit Deed) → Cursor → Option Row
cursor_row s edits c = row_in c.table c.id (current_view c.clock s edits)

-- the descriptor of a number, and the cursor of a name
abbrev pub descriptor_in : (number : ℕ) → List Descriptor → Option Descriptor
descriptor_in n descriptors = find (λ (d : Descriptor). d.number == n) descriptors

abbrev pub cursor_in : (name : List ℕ) → List Cursor → Option Cursor
cursor_in name cursors = find (λ (c : Cursor). bytes_eq c.name name) cursors

abbrev pub is_number_taken : List Descriptor → ℕ → Bool
is_number_taken descriptors n = list_any (λ (d : Descriptor). d.number == n) descriptors

-- the least number from one on, of so many, that no descriptor has
abbrev pub free_number_from : (count from : ℕ) → List Descriptor → ℕ
free_number_from zero from descriptors = from
free_number_from (suc more) from descriptors =
    if is_number_taken descriptors from then free_number_from more (from + 1) descriptors else from

-- the lowest number that no descriptor has
abbrev pub free_number : List Descriptor → ℕ
free_number descriptors = free_number_from (length descriptors) 0 descriptors

-- the descriptors with one of them standing elsewhere
abbrev pub moved_to : (number position : ℕ) → Descriptor → Descriptor
moved_to n position d =
    if d.number == n then record { number = d.number; oid = d.oid; position = position; level = d.level; reading = d.reading } else d

abbrev pub with_position : (number position : ℕ) → List Descriptor → List Descriptor
with_position n position descriptors = map (moved_to n position) descriptors

-- the descriptors but the one of a number, and but those on an object; the cursors but the one of a name
abbrev pub without_number : ℕ → List Descriptor → List Descriptor
without_number n descriptors = filter (λ (d : Descriptor). not (d.number == n)) descriptors

abbrev pub without_object : (oid : ℕ) → List Descriptor → List Descriptor
without_object o descriptors = filter (λ (d : Descriptor). not (d.oid == o)) descriptors

abbrev pub without_name : (name : List ℕ) → List Cursor → List Cursor
without_name name cursors = filter (λ (c : Cursor). not (bytes_eq c.name name)) cursors

-- A release of a level gives what belongs to it and to those above it to the level below it.
abbrev pub level_released : (level : ℕ) → (old : ℕ) → ℕ
level_released k level = min level (k - 1)

abbrev pub descriptor_released : (level : ℕ) → Descriptor → Descriptor
descriptor_released k d =
    record { number = d.number; oid = d.oid; position = d.position; level = level_released k d.level; reading = d.reading }

abbrev pub cursor_released : (level : ℕ) → Cursor → Cursor
cursor_released k c = record { name = c.name; table = c.table; id = c.id; level = level_released k c.level; clock = c.clock }

-- An undoing of a level ends what belongs to it and to those above it.
abbrev pub descriptors_below : (level : ℕ) → List Descriptor → List Descriptor
descriptors_below k descriptors = filter (λ (d : Descriptor). nat_lt d.level k) descriptors

abbrev pub cursors_below : (level : ℕ) → List Cursor → List Cursor
cursors_below k cursors = filter (λ (c : Cursor). nat_lt c.level k) cursors
