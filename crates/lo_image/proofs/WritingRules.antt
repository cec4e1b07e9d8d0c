-- What the rules of an opening say to the writer.
use Rattle.std.proofs.Common.{◌≡◌, ℕ, ℤ, ◌+◌, ◌≤◌, List, [], ◌∷◌, ◌++◌, length, All, Option, Some, None, Result, Ok, Err, true, sym, ap, ◌∙◌, arith}
use Rattle.std.specs.Prelude.{IsTrue, OnOk, OnErr}
use Rattle.std.specs.List.{AllByRecursion}
use Rattle.std.proofs.lemmas.List.{append-nil}
use Rattle.std.proofs.lemmas.List.Elements.{All-from_recursion}
use Rattle.lo_base.specs.Name.{IsName}
use Rattle.lo_base.specs.declared.column.Column.{Column}
use Rattle.lo_base.specs.declared.value.Value.{Value}
use Rattle.lo_outside.specs.declared.files.Failed.{Failed}
use Rattle.lo_outside.specs.Files.{File, SetsFile, unsynced}
use Rattle.lo_opening.specs.declared.opening.ObjectData.{ObjectData}
use Rattle.lo_opening.specs.declared.opening.TableData.{TableData}
use Rattle.lo_opening.specs.Opening.{AreBlocks, AreObjects, blocks_held, row_outside, rows_outside, id_of, AreRows, AreTables}
use Rattle.lo_image.specs.Writing.{Written, WasGiven, HoldsFront, LeavesFront, Puts, AreNumberedRows, AreNumberedTables, IsShortBlock, IsShortObject}

numbered_rows : (columns : List Column) (table : ℕ) (last : Option ℤ) (value : ℕ) (rows : List (List Value)) → AreRows columns table last value rows → AreNumberedRows columns value rows
numbered_rows columns table last value [] h = tt
numbered_rows columns table last value (vs ∷ rows) h =
    (record { values_are = h.0.row.values_are; fits = h.0.row.fits; numbers = h.0.row.numbers }, numbered_rows columns table (Some (id_of vs)) (value + row_outside columns vs) rows h.2)

name_short : (name : List ℕ) → IsName name → length name ≤ 63
name_short [] h = absurd h
name_short (first ∷ others) h = omega (arith, h.2)

pub numbered_tables : (last : Option (List ℕ)) (table value : ℕ) (ts : List TableData) → AreTables last table value ts → AreNumberedTables value ts
numbered_tables last table value [] h = tt
numbered_tables last table value (t ∷ ts) h = (
  record {
    name = name_short t.name h.0.name;
    columns = h.0.columns;
    rows = numbered_rows t.columns table None value t.rows h.0.rows;
    few_rows = h.0.few_rows;
  },
  numbered_tables (Some t.name) (table + 1) (value + rows_outside t.columns t.rows) ts h.2,
)

short_blocks : (size least : ℕ) (bs : List (ℕ × List ℕ)) → AreBlocks size least bs → AllByRecursion IsShortBlock bs
short_blocks size least [] h = tt
short_blocks size least (b ∷ bs) h = (omega (arith, h.0.bytes), short_blocks size (b.0 + 1) bs h.2)

objects_short : (least held : ℕ) (os : List ObjectData) → AreObjects least held os → AllByRecursion IsShortObject os
objects_short least held [] h = tt
objects_short least held (o ∷ os) h = (
  record {
    few = omega (arith, h.0.fits);
    blocks = All-from_recursion IsShortBlock o.stored (short_blocks o.size 0 o.stored h.0.stored);
  },
  objects_short (o.oid + 1) (held + blocks_held o) os h.2,
)

pub short_objects : (least held : ℕ) (os : List ObjectData) → AreObjects least held os → All IsShortObject os
short_objects least held os h = All-from_recursion IsShortObject os (objects_short least held os h)

-- ---- the whole file

pub on_err : {T : Type 0} {P : Type 0} (r : Result T Failed) → P → OnErr r P
on_err (Ok x) p = tt
on_err (Err e) p = p

-- an empty file
pub is_created : (start : List ℕ → Option File) (now : Written) (name : List ℕ) → SetsFile start now.folder name (Some (unsynced [])) → now.waits ≡ [] → WasGiven start now name []
is_created start now name made none = record { front = []; is = made; all = none }

-- all was given, and what waited was appended
pub all_stand : {T : Type 0} (start : List ℕ → Option File) (mid new : Written) (name bytes : List ℕ) (r : Result T Failed) → IsTrue mid.tells → WasGiven start mid name bytes → Puts mid new name [] r → OnOk r (new.waits ≡ []) → OnOk r (SetsFile start new.folder name (Some (unsynced bytes)))
all_stand start mid new name bytes (Ok x) t was puts none =
    let h = puts.gives t start bytes was in
    let whole : h.front ≡ bytes = sym (append-nil h.front) ∙ ap (λ (w : List ℕ). h.front ++ w) (sym none) ∙ h.all ∙ append-nil bytes in
    record { there = h.is.there ∙ ap (λ (b : List ℕ). Some (unsynced b)) whole; others = h.is.others }
all_stand start mid new name bytes (Err e) t was puts none = tt

front_stands : (start now : List ℕ → Option File) (name bytes : List ℕ) → HoldsFront start now name (bytes ++ []) → LeavesFront start now name bytes
front_stands start now name bytes h = record { created = true; front = h.front; behind = h.behind; is = h.is; all = h.all ∙ append-nil bytes }

pub front_left : (start now : List ℕ → Option File) (name bytes : List ℕ) → HoldsFront start now name bytes → LeavesFront start now name bytes
front_left start now name bytes h = record { created = true; front = h.front; behind = h.behind; is = h.is; all = h.all }

pub a_front_stands : {T : Type 0} (start : List ℕ → Option File) (mid new : Written) (name bytes : List ℕ) (r : Result T Failed) → IsTrue mid.tells → WasGiven start mid name bytes → Puts mid new name [] r → OnErr r (LeavesFront start new.folder name bytes)
a_front_stands start mid new name bytes (Ok x) t was puts = tt
a_front_stands start mid new name bytes (Err e) t was puts = front_stands start new.folder name bytes (puts.leaves t start bytes was)
