-- What lies in the blocks of the pool: the pages and the chunks that some kept view reads, each version of them once.
use Rattle.std.specs.Prelude.{ℕ, ℤ, zero, suc, ◌+◌, ◌-◌, ◌/◌, Bool, true, false, not, ◌==◌, ◌&&◌, List, [], ◌∷◌, ◌++◌, length, map, filter, Option, Some, None, bytes_eq, if◌then◌else◌}
use Rattle.std.specs.List.{list_any, flat_map, range_with_len}
use Rattle.std.specs.Ordering.{int_eq}
use Rattle.lo_base.specs.declared.value.Value.{Value}
use Rattle.lo_base.specs.declared.value.Value.TheVariants.{Null, Int, Oid, Bytes}
use Rattle.lo_model.specs.declared.viewer.Viewer.{Viewer}
use Rattle.lo_model.specs.declared.viewer.Viewer.TheVariants.{Nobody, Whole, Below}
use Rattle.lo_model.specs.Descriptor.{Reading, Kept, Current, Descriptor, Cursor}
use Rattle.lo_model.specs.Edit.{Deed, Create, Write, Cut, Unlink, Put, Delete, Edit}
use Rattle.lo_model.specs.Listing.{has_object}
use Rattle.lo_model.specs.Session.{Session, session_numbers}
use Rattle.lo_model.specs.Touch.{page_bytes, Part, Page, Object, RowAt, covers, touched}
use Rattle.lo_model.specs.Transaction.{top_level}
use Rattle.lo_model.specs.View.{view}

-- A version of a page is of an object, under the clock of the edit that made its bytes. A version of a chunk is of a column
-- of a row, under the clock at which the value was moved out.
pub data BlockVersion : Type 0 where
  PageVersion : (oid page clock : ℕ) → BlockVersion
  ChunkVersion : (table : List ℕ) (id : ℤ) (column chunk clock : ℕ) → BlockVersion

-- the bytes of a chunk, which is a piece of a value that was moved out of its row (manual, TOAST)
abbrev pub chunk_bytes : ℕ
chunk_bytes = 1996

-- how many pieces of so many bytes there are, the last one perhaps shorter
abbrev pub pieces : (piece : ℕ) → (bytes : ℕ) → ℕ
pieces piece bytes = (bytes + (piece - 1)) / piece

abbrev pub chunks_in : Value → ℕ
chunks_in Null = 0
chunks_in (Int n) = 0
chunks_in (Oid n) = 0
chunks_in (Bytes bytes) = pieces chunk_bytes (length bytes)

-- how many pages so many bytes from an offset on lie in
abbrev pub pages_spanned : (at count : ℕ) → ℕ
pages_spanned at zero = 0
pages_spanned at (suc more) = (at + more) / page_bytes - at / page_bytes + 1

-- a version, with the page or the row that it is of
pub record Made : Type 0 where
  pub part : Part
  pub version : BlockVersion

abbrev pub made_page : (oid clock page : ℕ) → Made
made_page o clock p = record { part = Page o p; version = PageVersion o p clock }

abbrev pub made_chunk : (table : List ℕ) → (id : ℤ) → (column clock chunk : ℕ) → Made
made_chunk t i column clock k = record { part = RowAt t i; version = ChunkVersion t i column k clock }

-- the chunks of a row's values outside, from a column on, with the clocks at which they were moved out
abbrev pub made_chunks : (table : List ℕ) → (id : ℤ) → (column : ℕ) → List Value → List (Option ℕ) → List Made
made_chunks t i column (value ∷ values) (None ∷ stored) = made_chunks t i (column + 1) values stored
made_chunks t i column (value ∷ values) (Some clock ∷ stored) =
    map (made_chunk t i column clock) (range_with_len 0 (chunks_in value)) ++ made_chunks t i (column + 1) values stored
made_chunks t i column _ _ = []

-- The versions that an edit at a clock puts in place: a page for each that it writes bytes to, and for a cut the one that
-- the new end falls into; for a row's put the chunks of all its values outside, of which those that it keeps are older.
abbrev pub made_by : (clock : ℕ) → Deed → List Made
made_by clock (Create o) = []
made_by clock (Write o at bytes) =
    map (made_page o clock) (range_with_len (at / page_bytes) (pages_spanned at (length bytes)))
made_by clock (Cut o size) = made_page o clock (size / page_bytes) ∷ []
made_by clock (Unlink o) = []
made_by clock (Put t i values stored) = made_chunks t i 0 values stored
made_by clock (Delete t i) = []

-- whether an edit touches a page or a row
abbrev pub touches : Part → Edit Deed → Bool
touches part e = covers (touched e.deed) part

-- what an edit put in place and no later edit touched
abbrev pub left_by : Edit Deed → (later : List (Edit Deed)) → List Made
left_by e later = filter (λ (m : Made). not (list_any (touches m.part) later)) (made_by e.clock e.deed)

-- the same of all edits of a list
abbrev pub left_in : List (Edit Deed) → List Made
left_in [] = []
left_in (e ∷ later) = left_by e later ++ left_in later

-- a page's object is there; a row that was put and not touched later is
abbrev pub is_there_in : List (Edit Deed) → Part → Bool
is_there_in edits (Page o p) = has_object edits o
is_there_in edits (Object o) = has_object edits o
is_there_in edits (RowAt t i) = true

-- the versions that a view reads
abbrev pub versions_in : List (Edit Deed) → List BlockVersion
versions_in edits = map (λ (m : Made). m.version) (filter (λ (m : Made). is_there_in edits m.part) (left_in edits))

-- Which views are kept: those that descriptors and cursors read in, that of what is committed, and for each session in a
-- transaction block its current view and the one below each of its levels.
pub record KeptView : Type 0 where
  pub clock : ℕ
  pub viewer : Viewer

abbrev pub kept_view : ℕ → Viewer → KeptView
kept_view clock viewer = record { clock = clock; viewer = viewer }

abbrev pub reading_views : (session : ℕ) → Reading → List KeptView
reading_views s (Kept clock) = kept_view clock (Whole s) ∷ []
reading_views s Current = []

abbrev pub held_by_readers : (session : ℕ) → Session → List KeptView
held_by_readers s session =
    flat_map (λ (d : Descriptor). reading_views s d.reading) session.descriptors
    ++ map (λ (c : Cursor). kept_view c.clock (Whole s)) session.cursors

abbrev pub views_below : (now session levels : ℕ) → List KeptView
views_below now s levels = map (λ l. kept_view now (Below s l)) (range_with_len 1 levels)

abbrev pub held_by_levels : (now session levels : ℕ) → List KeptView
held_by_levels now s zero = []
held_by_levels now s (suc more) = kept_view now (Whole s) ∷ views_below now s (suc more)

abbrev pub held_by : (now : ℕ) → (sessions : ℕ → Session) → (session : ℕ) → List KeptView
held_by now sessions s =
    held_by_readers s (sessions s) ++ held_by_levels now s (top_level (sessions s).transaction)

-- the kept views at the clock of the next advance
abbrev pub views_kept : (now : ℕ) → (sessions : ℕ → Session) → List KeptView
views_kept now sessions = kept_view now Nobody ∷ flat_map (held_by now sessions) session_numbers

abbrev pub edits_in : List (Edit Deed) → KeptView → List (Edit Deed)
edits_in edits v = view v.clock v.viewer edits

abbrev pub is_same_version : BlockVersion → BlockVersion → Bool
is_same_version (PageVersion o p c) (PageVersion o' p' c') = (o == o') && ((p == p') && (c == c'))
is_same_version (ChunkVersion t i j k c) (ChunkVersion t' i' j' k' c') =
    (bytes_eq t t' && int_eq i i') && ((j == j') && ((k == k') && (c == c')))
is_same_version _ _ = false

-- each version once
abbrev pub distinct : List BlockVersion → List BlockVersion
distinct [] = []
distinct (v ∷ vs) = if list_any (is_same_version v) vs then distinct vs else v ∷ distinct vs

-- Held: the versions of all kept views. A version that several views have is one.
abbrev pub held_versions : (now : ℕ) → (sessions : ℕ → Session) → List (Edit Deed) → List BlockVersion
held_versions now sessions edits =
    distinct (flat_map (λ v. versions_in (edits_in edits v)) (views_kept now sessions))

-- whether some kept view reads a version
abbrev pub is_read_in_a_view : (now : ℕ) → (sessions : ℕ → Session) → List (Edit Deed) → BlockVersion → Bool
is_read_in_a_view now sessions edits version =
    list_any (λ v. list_any (is_same_version version) (versions_in (edits_in edits v))) (views_kept now sessions)

-- How many blocks a request writes: one for each page that its bytes lie in, one for a cut, and one for each chunk of a
-- value that it moves out. A value that keeps its chunks was moved out earlier.
abbrev pub is_at : (clock : ℕ) → Option ℕ → Bool
is_at clock None = false
is_at clock (Some c) = c == clock

abbrev pub new_chunks : (now : ℕ) → List Value → List (Option ℕ) → ℕ
new_chunks now (value ∷ values) (entry ∷ stored) =
    (if is_at now entry then chunks_in value else 0) + new_chunks now values stored
new_chunks now _ _ = 0

abbrev pub need_of_deed : (now : ℕ) → Deed → ℕ
need_of_deed now (Create o) = 0
need_of_deed now (Write o at bytes) = pages_spanned at (length bytes)
need_of_deed now (Cut o size) = 1
need_of_deed now (Unlink o) = 0
need_of_deed now (Put t i values stored) = new_chunks now values stored
need_of_deed now (Delete t i) = 0

abbrev pub need_of : (now : ℕ) → List Deed → ℕ
need_of now [] = 0
need_of now (d ∷ ds) = need_of_deed now d + need_of now ds
