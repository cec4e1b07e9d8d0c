-- Rows as replies have them: cells of flat bytes are told by their arrays' texts.
use Rattle.std.proofs.Common.{◌≡◌, ◌<◌, ℕ, List, [], ◌∷◌, ◌++◌, length, drop, Some, refl, ap, ap₂, sym, subst, ◌∙◌, arith, append_assoc, append-nil}
use Rattle.std.specs.Prelude.{slice_get}
use Rattle.std.specs.Option.{unwrap_or}
use Rattle.expanded_array.proofs.FlatLaws.{flat_holds}
use Rattle.expanded_array.specs.Array.{Array, IsHeld}
use Rattle.expanded_array.specs.Flat.{IsFlat, flat_bytes}
use Rattle.expanded_array.specs.Layout.{array_in}
use Rattle.lo_base.specs.declared.column.Column.{Column}
use Rattle.lo_base.specs.declared.column.ColType.{ColType}
use Rattle.lo_base.specs.declared.value.Cell.{Cell}
use Rattle.lo_base.specs.declared.value.Value.{Value}
use Rattle.lo_base.specs.declared.value.Value.TheVariants.{Null, Int, Oid, Bytes}
use Rattle.row_tables.specs.Values as rows
use Rattle.lo_machine.specs.FlatRows.{AreFlatCells, AreFlatValues, IsFlatCell, IsFlatValue, told_cell, told_cells}
use Rattle.lo_machine.specs.Values.{cell_of, cells_of}

pub flat_read : (flat : List ℕ) (a : Array) → IsFlat flat → ((b : Array) → IsHeld b → flat ≡ flat_bytes b → a ≡ b) → a ≡ array_in flat
flat_read flat a is holds = holds is.array is.held is.bytes_are ∙ sym (ap array_in is.bytes_are ∙ flat_holds is.array is.held)

told_so : (c : Column) (v : Value) → told_cell c.kind (rows.cell_of v) ≡ cell_of c v
told_so c Null = refl
told_so c (Int n) = refl
told_so c (Oid o) = refl
told_so c (Bytes bytes) = refl

pub all_told : (columns : List Column) (values : List Value) → told_cells columns (rows.cells_of values) ≡ cells_of columns values
all_told [] values = refl
all_told (c ∷ columns) [] = refl
all_told (c ∷ columns) (v ∷ values) = ap₂ (λ x xs. x ∷ xs) (told_so c v) (all_told columns values)

flat_cell : (kind : ColType) (v : Value) → IsFlatValue kind v → IsFlatCell kind (rows.cell_of v)
flat_cell kind Null h = tt
flat_cell kind (Int n) h = h
flat_cell kind (Oid o) h = h
flat_cell kind (Bytes bytes) h = h

-- cells of flat values are flat
pub flat_cells : (columns : List Column) (values : List Value) → AreFlatValues columns values → AreFlatCells columns (rows.cells_of values)
flat_cells [] [] h = tt
flat_cells [] (v ∷ values) h = absurd h
flat_cells (c ∷ columns) [] h = absurd h
flat_cells (c ∷ columns) (v ∷ values) h = (flat_cell c.kind v h.0, flat_cells columns values h.1)

-- ---- the cells so far

pub nothing_left : (xs : List Cell) → length xs ≡ 0 → xs ≡ []
nothing_left [] none = refl
nothing_left (x ∷ xs) none = absurd (omega arith)

pub record Telling (columns : List Column) (row : List Cell) (left : List Column) (items : List Cell) (told : List Cell) : Type 0 where
  pub flat : AreFlatCells left items
  pub is : told ++ told_cells left items ≡ told_cells columns row

pub column_left : (left : List Column) (cell : Cell) (items : List Cell) → AreFlatCells left (cell ∷ items) → 0 < length left
column_left [] cell items flat = absurd flat
column_left (c ∷ left) cell items flat = omega arith

pub first_flat : (left : List Column) (cell : Cell) (items : List Cell) (c : Column) → slice_get left 0 ≡ Some c → AreFlatCells left (cell ∷ items) → IsFlatCell c.kind cell
first_flat [] cell items c there flat = absurd flat
first_flat (x ∷ left) cell items c there flat = subst (λ (k : Column). IsFlatCell k.kind cell) (ap (λ o. unwrap_or o x) there) flat.0

pub told_more : (columns : List Column) (row : List Cell) (left : List Column) (cell : Cell) (items told : List Cell) (c : Column) → slice_get left 0 ≡ Some c → Telling columns row left (cell ∷ items) told → (answer : Cell) → answer ≡ told_cell c.kind cell → Telling columns row (drop 1 left) items (told ++ answer ∷ [])
told_more columns row [] cell items told c there h answer is = absurd h.flat
told_more columns row (x ∷ left) cell items told c there h answer is =
    let one : x ≡ c = ap (λ o. unwrap_or o x) there in
    record {
      flat = h.flat.1;
      is =
          append_assoc told (answer ∷ []) (told_cells left items)
          ∙ ap (λ y. told ++ (y ∷ told_cells left items)) (is ∙ ap (λ (k : Column). told_cell k.kind cell) (sym one))
          ∙ h.is;
    }

pub told_end : (columns : List Column) (row : List Cell) (left : List Column) (told : List Cell) → Telling columns row left [] told → told ≡ told_cells columns row
told_end columns row [] told h = sym (append-nil told) ∙ h.is
told_end columns row (c ∷ left) told h = absurd h.flat

-- flat cells are as many as columns
pub flat_counted : (columns : List Column) (row : List Cell) → AreFlatCells columns row → length columns ≡ length row
flat_counted [] [] flat = refl
flat_counted [] (cell ∷ row) flat = absurd flat
flat_counted (c ∷ columns) [] flat = absurd flat
flat_counted (c ∷ columns) (cell ∷ row) flat =
    let rest = flat_counted columns row flat.1 in
    omega (arith, rest)
