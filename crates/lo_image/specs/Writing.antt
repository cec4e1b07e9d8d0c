-- Writing bytes to a file through a buffer: what stands in the file, and what waits in the buffer.
use Rattle.std.specs.Prelude.{◌≡◌, ◌≤◌, ◌<◌, ◌^◌, ◌+◌, ℕ, Bool, List, [], ◌∷◌, ◌++◌, length, Option, Some, Result, Ok, Err, IsTrue, IfSome, All, if◌then◌else◌}
use Rattle.lo_base.specs.declared.column.Column.{Column}
use Rattle.lo_base.specs.declared.value.Value.{Value}
use Rattle.lo_outside.specs.declared.files.Failed.{Failed}
use Rattle.lo_outside.specs.declared.files.Files.{Ghosts as FilesGhosts}
use Rattle.lo_outside.specs.Faults.{Rose}
use Rattle.lo_outside.specs.Files.{File, SetsFile, unsynced}
use Rattle.toast_plan.specs.Columns.{IsTableColumns}
use Rattle.toast_plan.specs.Layout.{up_to_8}
use Rattle.toast_plan.specs.Choice.{planned_length}
use Rattle.toast_plan.specs.Row.{AreRowValues, value_length, value_lengths}
use Rattle.lo_opening.specs.declared.opening.ObjectData.{ObjectData}
use Rattle.lo_opening.specs.declared.opening.TableData.{TableData}
use Rattle.lo_opening.specs.Opening.{OpeningData, row_outside, rows_outside}

-- ---- bytes that are written

-- what the files tell, as far as they do, and the bytes that wait
pub record Written : Type 0 where
  pub tells : Bool
  pub folder : List ℕ → Option File
  pub faults : ℕ
  pub waits : List ℕ

abbrev pub written : {F : Type 0} → FilesGhosts F → F → List ℕ → Written
written given files waits =
    record { tells = given.tells files; folder = given.folder files; faults = given.faults files; waits = waits }

-- The file of the name was given some bytes, and every other file is as it was in the folder `start`: a front of the bytes stands
-- in the file, and those behind wait.
pub record WasGiven (start : List ℕ → Option File) (now : Written) (name given : List ℕ) : Type 0 where
  pub front : List ℕ
  pub is : SetsFile start now.folder name (Some (unsynced front))
  pub all : front ++ now.waits ≡ given

-- a front of the bytes stands in the file of the name. Every other file is as it was
pub record HoldsFront (start now : List ℕ → Option File) (name bytes : List ℕ) : Type 0 where
  pub front : List ℕ
  pub behind : List ℕ
  pub is : SetsFile start now name (Some (unsynced front))
  pub all : front ++ behind ≡ bytes

-- the file was given more bytes, and no call failed
pub record GivesMore (old new : Written) (name more : List ℕ) : Type 0 where
  pub tells : new.tells ≡ old.tells
  pub count : new.faults ≡ old.faults
  pub gives : IsTrue old.tells → (start : List ℕ → Option File) (before : List ℕ) → WasGiven start old name before → WasGiven start new name (before ++ more)

-- a call failed while more bytes were given
pub record FailsWithin (old new : Written) (name more : List ℕ) : Type 0 where
  pub tells : new.tells ≡ old.tells
  pub later : old.faults ≤ new.faults
  pub rose : Rose old.faults new.faults
  pub leaves : IsTrue old.tells → (start : List ℕ → Option File) (before : List ℕ) → WasGiven start old name before → HoldsFront start new.folder name (before ++ more)

-- what a function does that gives more bytes
abbrev pub Puts : {T : Type 0} → (old new : Written) (name more : List ℕ) → Result T Failed → Type 0
Puts old new name more (Ok x) = GivesMore old new name more
Puts old new name more (Err e) = FailsWithin old new name more

-- Of some bytes that are to be given, those that are left behind the ones that were given, with no call failed.
pub record HasLeft (old now : Written) (name total left : List ℕ) : Type 0 where
  pub done : List ℕ
  pub given : GivesMore old now name done
  pub all : done ++ left ≡ total

-- What a failed writing leaves: what stood under the name, or a front of the bytes. Every other file is as before.
pub record LeavesFront (old new : List ℕ → Option File) (name bytes : List ℕ) : Type 0 where
  pub created : Bool
  pub front : List ℕ
  pub behind : List ℕ
  pub is : SetsFile old new name (if created then Some (unsynced front) else old name)
  pub all : front ++ behind ≡ bytes

-- ---- tables and objects that are written

-- a row whose first value outside has the number `value`
pub record IsNumberedRow (columns : List Column) (value : ℕ) (vs : List Value) : Type 0 where
  pub values_are : AreRowValues columns vs
  pub fits : up_to_8 (planned_length columns (value_lengths vs)) ≤ 8160
  pub numbers : value + row_outside columns vs ≤ 2 ^ 32

-- rows whose values outside are numbered one after another from `value`
abbrev pub AreNumberedRows : List Column → (value : ℕ) → List (List Value) → Type 0
AreNumberedRows columns value [] = Unit {0}
AreNumberedRows columns value (vs ∷ rows) = IsNumberedRow columns value vs × AreNumberedRows columns (value + row_outside columns vs) rows

abbrev pub HasShortName : Column → Type 0
HasShortName c = length c.name ≤ 63

pub record IsNumberedTable (value : ℕ) (t : TableData) : Type 0 where
  pub name : length t.name ≤ 63
  pub columns : IsTableColumns t.columns
  pub rows : AreNumberedRows t.columns value t.rows
  pub few_rows : length t.rows < 2 ^ 64

abbrev pub AreNumberedTables : (value : ℕ) → List TableData → Type 0
AreNumberedTables value [] = Unit {0}
AreNumberedTables value (t ∷ ts) = IsNumberedTable value t × AreNumberedTables (value + rows_outside t.columns t.rows) ts

abbrev pub IsShortBlock : ℕ × List ℕ → Type 0
IsShortBlock b = length b.1 ≤ 2048

pub record IsShortObject (o : ObjectData) : Type 0 where
  pub few : length o.stored < 2 ^ 32
  pub blocks : All IsShortBlock o.stored

-- no value is longer than a value can be
abbrev pub IsShortValue : Value → Type 0
IsShortValue v = IfSome (value_length v) (λ n. n ≤ 16777216)

abbrev pub opening_of : (blocks counter : ℕ) → List TableData → List ObjectData → OpeningData
opening_of blocks counter tables objects = record { blocks = blocks; counter = counter; tables = tables; objects = objects }
