-- What holds, beside what Well says, of the database of every state that served requests lead to: the counter and the tables are
-- such as an opening can have, objects have numbers and sizes that objects can have, and the rows that a view can still have are
-- rows of their tables as these now stand.
use Rattle.std.specs.Prelude.{◌≡◌, ◌<◌, ◌≤◌, ◌^◌, ◌+◌, ℕ, ℤ, Bool, false, not, ◌&&◌, All, List, [], ◌∷◌, length, map, FitsSigned}
use Rattle.std.specs.Int.{w64}
use Rattle.std.specs.List.{AllByRecursion, list_any}
use Rattle.lo_base.specs.Name.{IsName}
use Rattle.lo_base.specs.declared.column.Column.{Column}
use Rattle.lo_base.specs.declared.request.Assign.{Assign}
use Rattle.lo_base.specs.declared.request.Request.{Request}
use Rattle.lo_base.specs.declared.request.Request.TheVariants.{LoCreate, LoFromBytea, Insert, Update}
use Rattle.lo_base.specs.declared.value.Literal.{Literal}
use Rattle.lo_base.specs.declared.value.Literal.TheVariants.{Number, Bytes}
use Rattle.lo_base.specs.declared.value.Value.{Value}
use Rattle.lo_model.specs.Database.{Database, Table}
use Rattle.lo_model.specs.Edit.{Deed, Create, Write, Cut, Put, Edit}
use Rattle.lo_model.specs.Numbering.{is_running, oid_end}
use Rattle.lo_model.specs.Opening.{ObjectBytes, Opening, TableRows}
use Rattle.lo_model.specs.Touch.{Touched, meets, touched}
use Rattle.lo_pages.specs.Outcome.{largest_size}
use Rattle.row_tables.specs.Catalog.{AreTables, columns_in, most_tables, table_in}
use Rattle.row_tables.specs.Terms.{rounded_length, row_limit}
use Rattle.row_tables.specs.Values.{HasId, id_of}
use Rattle.toast_plan.specs.Columns.{AreDistinct, IsTableColumns}
use Rattle.toast_plan.specs.Row.{AreRowValues, value_lengths}
use Rattle.toast_plan.specs.Writing.{HasRange}
use Rattle.lo_machine.specs.FlatRows.{AreFlatValues}
use Rattle.lo_machine.specs.Served.{IsRanged}
use Rattle.lo_machine.specs.State.{State}

-- ---- the counter: from the number that it begins with to the end of all numbers

abbrev pub first_counter : ℕ
first_counter = 16384

pub record IsCounter (counter : ℕ) : Type 0 where
  pub least : first_counter ≤ counter
  pub most : counter ≤ oid_end

-- ---- tables: not too many, no two of one name, each under a name, with columns that a table can have

pub record AreCreated (ts : List Table) : Type 0 where
  pub tables : AreTables ts
  pub named : AllByRecursion (λ (t : Table). IsName t.name) ts

-- ---- an edit of an object: the object has a number, and does not get too large

abbrev pub FitsObject : Deed → Type 0
FitsObject (Create o) = (1 ≤ o) × (o < oid_end)
FitsObject (Write o at bytes) = at + length bytes ≤ largest_size
FitsObject (Cut o size) = size ≤ largest_size
FitsObject _ = Unit {0}

-- ---- a put: its values are a row's values of the table, of the ranges of their types, and its id stands in front of them

pub record IsRow (columns : List Column) (i : ℤ) (row : List Value) : Type 0 where
  pub values : AreRowValues columns row
  pub range : All HasRange row
  pub id : HasId i row

-- the columns of a table, none where it is not there
abbrev pub columns_among : List Table → (table : List ℕ) → List Column
columns_among tables t = columns_in (table_in t tables)

abbrev pub FitsTable : List Table → Deed → Type 0
FitsTable tables (Put t i row stored) = IsRow (columns_among tables t) i row
FitsTable tables _ = Unit {0}

-- ---- The plan of a row under the present storages of its table. A rewrite, which gives a table other storages, commits a put of
-- each of its rows. The puts that these replace are in no view any more, and no undoing brings them back, so they may be too big
-- now. All others fit.

-- whether a committed edit touches something of it
abbrev pub replaces : Touched → Edit Deed → Bool
replaces old e = not (is_running e.owner) && meets old (touched e.deed)

abbrev pub is_replaced : Touched → (later : List (Edit Deed)) → Bool
is_replaced old later = list_any (replaces old) later

abbrev pub HasPlan : List Table → Deed → Type 0
HasPlan tables (Put t i row stored) = rounded_length (columns_among tables t) (value_lengths row) ≤ row_limit
HasPlan tables _ = Unit {0}

-- each put that no later edit of the list replaces
abbrev pub HavePlans : List Table → List (Edit Deed) → Type 0
HavePlans tables [] = Unit {0}
HavePlans tables (e ∷ later) = (is_replaced (touched e.deed) later ≡ false → HasPlan tables e.deed) × HavePlans tables later

-- ---- all of it

pub record IsFitDatabase (database : Database) : Type 0 where
  pub counter : IsCounter database.counter
  pub tables : AreCreated database.tables
  pub objects : All (λ (e : Edit Deed). FitsObject e.deed) database.edits
  pub rows : All (λ (e : Edit Deed). FitsTable database.tables e.deed) database.edits
  pub plans : HavePlans database.tables database.edits

abbrev pub IsFit : State → Type 0
IsFit st = IsFitDatabase st.database

-- ---- what a view finds then

-- a row: its table has columns that a table can have, and its values fit them, are flat where they are arrays, and have a plan
pub record IsTableRow (columns : List Column) (i : ℤ) (values : List Value) : Type 0 where
  pub can : IsTableColumns columns
  pub row : IsRow columns i values
  pub flat : AreFlatValues columns values
  pub plan : rounded_length columns (value_lengths values) ≤ row_limit

pub record IsSized (oid : ℕ) (bytes : List ℕ) : Type 0 where
  pub least : 1 ≤ oid
  pub most : oid < oid_end
  pub size : length bytes ≤ largest_size

-- ---- and what an opening of it has

pub record HasFitRows (t : TableRows) : Type 0 where
  pub name : IsName t.name
  pub can : IsTableColumns t.columns
  pub rows : AllByRecursion (λ (row : List Value). IsTableRow t.columns (id_of row) row) t.rows

abbrev pub IsSizedObject : ObjectBytes → Type 0
IsSizedObject o = IsSized o.oid o.bytes

abbrev pub table_names : Opening → List (List ℕ)
table_names opening = map (λ (t : TableRows). t.name) opening.tables

pub record IsFitOpening (opening : Opening) : Type 0 where
  pub counter : IsCounter opening.counter
  pub few : length opening.tables ≤ most_tables
  pub distinct : AreDistinct (table_names opening)
  pub tables : AllByRecursion HasFitRows opening.tables
  pub objects : AllByRecursion IsSizedObject opening.objects

-- ---- requests whose numbers and bytes have the ranges of their types, where the database keeps them as they are

abbrev pub HasLiteralRange : Literal → Type 0
HasLiteralRange (Number n) = FitsSigned w64 n
HasLiteralRange (Bytes bytes) = All (λ b. b < 256) bytes
HasLiteralRange _ = Unit {0}

abbrev pub HasAssignRange : Assign → Type 0
HasAssignRange a = HasLiteralRange a.value

abbrev pub HasKeptRanges : Request → Type 0
HasKeptRanges (LoCreate o) = o < 2 ^ 32
HasKeptRanges (LoFromBytea o bytes) = o < 2 ^ 32
HasKeptRanges (Insert t literals) = AllByRecursion HasLiteralRange literals
HasKeptRanges (Update t i changes) = AllByRecursion HasAssignRange changes
HasKeptRanges _ = Unit {0}

-- programs of such requests alone
abbrev pub AreRanged : List (List Request) → Type 0
AreRanged programs = All (λ lines. All (λ r. IsRanged r × HasKeptRanges r) lines) programs
