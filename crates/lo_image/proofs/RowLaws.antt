-- The laws for a row of cells, and for the rows of a table.
use Rattle.std.proofs.Common.{◌≡◌, ℕ, ℤ, suc, ◌+◌, ◌≤◌, Bool, true, false, cond, leb, List, [], ◌∷◌, ◌++◌, length, map, drop, Option, Some, None, Ok, Err, refl, ap}
use Rattle.std.specs.Prelude.{pos}
use Rattle.std.specs.Int.{w64, to_le_bytes, cast_unsigned}
use Rattle.std.specs.Int.RustNames.{FitsSigned}
use Rattle.std.specs.List.{AllByRecursion}
use Rattle.std.proofs.lemmas.Bool.{and_parts, and_from, leb-true, le-leb}
use Rattle.lo_base.specs.declared.column.Column.{Column}
use Rattle.lo_base.specs.declared.column.ColType.{ColType}
use Rattle.lo_base.specs.declared.column.ColType.TheVariants as types
use Rattle.lo_base.specs.declared.column.Storage.{Storage}
use Rattle.lo_base.specs.declared.column.Storage.TheVariants as storages
use Rattle.lo_base.specs.declared.value.Cell.{Cell}
use Rattle.lo_base.specs.declared.value.Cell.TheVariants as cells
use Rattle.toast_plan.specs.Columns.{IsTableColumns, IsPlainIfFixed, HasLength, HasLengthIfThere, AreLengths}
use Rattle.toast_plan.specs.Layout.{up_to_8}
use Rattle.toast_plan.specs.Choice.{outside_of, planned_length}
use Rattle.toast_plan.specs.Reading.{cell_length, cell_lengths, is_cell_outside, ArePlanned}
use Rattle.lo_image.specs.declared.fault.Defect.{Defect}
use Rattle.lo_image.specs.declared.fault.Defect.TheVariants.{Range, Order, Plan}
use Rattle.lo_image.specs.declared.place.RowPlace.{RowPlace}
use Rattle.lo_opening.specs.Opening.{id_follows}
use Rattle.lo_image.specs.Readers.{tested, fixed_piece, both, made, each}
use Rattle.lo_image.specs.Reading.{int_at, id_defect, id_at, cell_at, after_cell, after_column_cell, is_plain, same_mark, same_marks, are_planned, plan_defect, row_of, cells_at, row_at, after_row, rows_at}
use Rattle.lo_image.proofs.ReaderLaws.{Reads, Judges, fixed_piece_is, tested_reads, behind_reads, both_reads, made_reads, same_reads, joined, AllFrom, AreRead, many_reads}
use Rattle.lo_image.proofs.ListLaws.{each_form, EachIs, each_reads, all_free}
use Rattle.lo_image.proofs.CellLaws.{IsPayload, IsCellAt, cell_form, int_reads, cell_reads}

-- ---- the id

-- the id of a row behind the last one
abbrev pub IsIdAt : Option ℤ → Cell → Type 0
IsIdAt last cells.Null = ⊥
IsIdAt last (cells.Int z) = FitsSigned w64 z × (id_follows last z ≡ true)
IsIdAt last (cells.Oid n) = ⊥
IsIdAt last (cells.Inline bytes) = ⊥
IsIdAt last (cells.Text bytes) = ⊥
IsIdAt last (cells.Outside n number) = ⊥

none_or_order : (b : Bool) → cond {A = Option Defect} b None (Some Order) ≡ None → b ≡ true
none_or_order true e = refl
none_or_order false e = absurd cc

id_judged : (last : Option ℤ) → Judges ℤ (FitsSigned w64) (id_defect last) (λ z. id_follows last z ≡ true)
id_judged last = record { sound = λ z is e. none_or_order (id_follows last z) e; again = λ z is rule. rw rule refl }

-- the id of a cell, or one of no use
abbrev id_here : Cell → ℤ
id_here cells.Null = pos 0
id_here (cells.Int z) = z
id_here (cells.Oid n) = pos 0
id_here (cells.Inline bytes) = pos 0
id_here (cells.Text bytes) = pos 0
id_here (cells.Outside n number) = pos 0

id_back : (table : ℕ) (last : Option ℤ) (c : Cell) → IsIdAt last c → (cells.Int (id_here c) ≡ c) × (1 ∷ to_le_bytes w64 (cast_unsigned w64 (id_here c)) ≡ cell_form table c) × FitsSigned w64 (id_here c) × (id_follows last (id_here c) ≡ true)
id_back table last cells.Null is = absurd is
id_back table last (cells.Int z) is = (refl, refl, is.0, is.1)
id_back table last (cells.Oid n) is = absurd is
id_back table last (cells.Inline bytes) is = absurd is
id_back table last (cells.Text bytes) is = absurd is
id_back table last (cells.Outside n number) is = absurd is

id_reads : (table : ℕ) (last : Option ℤ) → Reads Cell (id_at last) (cell_form table) (IsIdAt last)
id_reads table last =
    let form : ℤ → List ℕ = λ z. to_le_bytes w64 (cast_unsigned w64 z) in
    let ids = tested_reads ℤ int_at form (FitsSigned w64) (id_defect last) (λ z. id_follows last z ≡ true) int_reads (id_judged last) in
    let cell = made_reads ℤ Cell cells.Int (tested (id_defect last) int_at) form (λ z. FitsSigned w64 z × (id_follows last z ≡ true)) (λ c. form (id_here c)) (IsIdAt last) ids
    (record { back = id_here; there = λ c is. (id_back table last c is).0; here = λ z is. (refl, is); again = λ c is. let g = id_back table last c is in (refl, (g.2, g.3)) }) in
    same_reads Cell (id_at last) (λ c. 1 ∷ [] ++ form (id_here c)) (IsIdAt last) (cell_form table) (IsIdAt last)
    (behind_reads Cell (fixed_piece (1 ∷ []) Range) (1 ∷ []) (made cells.Int (tested (id_defect last) int_at)) (λ c. form (id_here c)) (IsIdAt last) (fixed_piece_is (1 ∷ []) Range) cell)
    (λ c is. ((id_back table last c is).1, is)) (λ c is. is)

-- ---- a row

abbrev pub cells_form : (table : ℕ) → List Cell → List ℕ
cells_form table [] = []
cells_form table (c ∷ cs) = cell_form table c ++ cells_form table cs

abbrev pub IsNextCell : (table value : ℕ) → Column → Cell → Type 0
IsNextCell table value column c = IsCellAt table value column c

abbrev pub AreCells : (table value : ℕ) → List Column → List Cell → Type 0
AreCells table = EachIs (IsNextCell table) after_column_cell

-- the cells of a row behind the place
abbrev pub AreRowCellsAt : List Column → (table : ℕ) → RowPlace → List Cell → Type 0
AreRowCellsAt columns table p [] = ⊥
AreRowCellsAt columns table p (c ∷ cs) = IsIdAt p.last c × AreCells table p.value (drop 1 columns) cs

others_shown : (table value : ℕ) (columns : List Column) (cs : List Cell) → AreCells table value columns cs → each_form (λ v c. cell_form table) after_column_cell value columns cs ≡ cells_form table cs
others_shown table value [] [] all = refl
others_shown table value [] (f ∷ fs) all = absurd all
others_shown table value (c ∷ cs) [] all = absurd all
others_shown table value (c ∷ cs) (f ∷ fs) all = ap (λ (t : List ℕ). cell_form table f ++ t) (others_shown table (after_cell value f) cs fs all.1)

abbrev head_of : List Cell → Cell
head_of [] = cells.Null
head_of (c ∷ cs) = c

row_there : (columns : List Column) (table : ℕ) (p : RowPlace) (cs : List Cell) → AreRowCellsAt columns table p cs → head_of cs ∷ drop 1 cs ≡ cs
row_there columns table p [] is = absurd is
row_there columns table p (c ∷ cs) is = refl

row_back : (columns : List Column) (table : ℕ) (p : RowPlace) (cs : List Cell) → AreRowCellsAt columns table p cs
    → (cell_form table (head_of cs) ++ cells_form table (drop 1 cs) ≡ cells_form table cs) × (IsIdAt p.last (head_of cs) × AreCells table p.value (drop 1 columns) (drop 1 cs))
row_back columns table p [] is = absurd is
row_back columns table p (c ∷ cs) is = (refl, (is.0, is.1))

pub cells_reads : (columns : List Column) (table : ℕ) (p : RowPlace) → Reads (List Cell) (cells_at columns table p) (cells_form table) (AreRowCellsAt columns table p)
cells_reads columns table p =
    let columns_behind = drop 1 columns in
    let Others : List Cell → Type 0 = AreCells table p.value columns_behind in
    let others = each_reads Column Cell ℕ (λ c. Unit {0}) (cell_at table) after_column_cell (λ v c. cell_form table) (IsNextCell table) (λ v c known. cell_reads table v c) p.value columns_behind (all_free columns_behind) in
    let shown = same_reads (List Cell) (each (cell_at table) after_column_cell p.value columns_behind) (each_form (λ v c. cell_form table) after_column_cell p.value columns_behind) Others (cells_form table) Others others (λ cs is. (others_shown table p.value columns_behind cs is, is)) (λ cs is. is) in
    made_reads (Cell × List Cell) (List Cell) row_of (both (id_at p.last) (λ id. each (cell_at table) after_column_cell p.value columns_behind)) (λ x. cell_form table x.0 ++ cells_form table x.1) (λ x. IsIdAt p.last x.0 × Others x.1) (cells_form table) (AreRowCellsAt columns table p)
    (both_reads Cell (List Cell) (id_at p.last) (λ id. each (cell_at table) after_column_cell p.value columns_behind) (cell_form table) (λ id. cells_form table) (IsIdAt p.last) (λ id. Others) (id_reads table p.last) (λ id is. shown))
    (record {
      back = λ cs. (head_of cs, drop 1 cs);
      there = λ cs is. row_there columns table p cs is;
      here = λ x is. (refl, (is.0, is.1));
      again = λ cs is. row_back columns table p cs is;
    })

mark_is : (a b : Bool) → same_mark a b ≡ true → a ≡ b
mark_is true true e = refl
mark_is true false e = absurd cc
mark_is false true e = absurd cc
mark_is false false e = refl

mark_same : (a : Bool) → same_mark a a ≡ true
mark_same true = refl
mark_same false = refl

marks_are : (xs ys : List Bool) → same_marks xs ys ≡ true → xs ≡ ys
marks_are [] [] e = refl
marks_are [] (y ∷ ys) e = absurd cc
marks_are (x ∷ xs) [] e = absurd cc
marks_are (x ∷ xs) (y ∷ ys) e =
    let p = and_parts (same_mark x y) (same_marks xs ys) e in
    rw (mark_is x y p.0, marks_are xs ys p.1) refl

marks_same : (xs : List Bool) → same_marks xs xs ≡ true
marks_same [] = refl
marks_same (x ∷ xs) = and_from (same_mark x x) (same_marks xs xs) (mark_same x) (marks_same xs)

pub planned_sound : (columns : List Column) (cs : List Cell) → are_planned columns cs ≡ true → ArePlanned columns cs
planned_sound columns cs e =
    let marks = same_marks (map is_cell_outside cs) (outside_of columns (cell_lengths cs)) in
    let size = up_to_8 (planned_length columns (cell_lengths cs)) in
    let p = and_parts marks (leb size 8160) e in
    record { outside = marks_are (map is_cell_outside cs) (outside_of columns (cell_lengths cs)) p.0; fits = leb-true size 8160 p.1 }

pub planned_again : (columns : List Column) (cs : List Cell) → ArePlanned columns cs → are_planned columns cs ≡ true
planned_again columns cs rule =
    let size = up_to_8 (planned_length columns (cell_lengths cs)) in
    rw (rule.outside, marks_same (outside_of columns (cell_lengths cs)), le-leb size 8160 rule.fits) refl

none_or_plan : (b : Bool) → cond {A = Option Defect} b None (Some Plan) ≡ None → b ≡ true
none_or_plan true e = refl
none_or_plan false e = absurd cc

plan_judged : (columns : List Column) (Is : List Cell → Type 0) → Judges (List Cell) Is (plan_defect columns) (ArePlanned columns)
plan_judged columns Is = record {
  sound = λ cs is e. planned_sound columns cs (none_or_plan (are_planned columns cs) e);
  again = λ cs is rule. let planned = planned_again columns cs rule in rw planned refl;
}

pub record IsRowCells (columns : List Column) (table : ℕ) (p : RowPlace) (cs : List Cell) : Type 0 where
  pub are : AreRowCellsAt columns table p cs
  pub planned : ArePlanned columns cs

pub row_reads : (columns : List Column) (table : ℕ) (p : RowPlace) → Reads (List Cell) (row_at columns table p) (cells_form table) (IsRowCells columns table p)
row_reads columns table p =
    same_reads (List Cell) (row_at columns table p) (cells_form table) (λ cs. AreRowCellsAt columns table p cs × ArePlanned columns cs) (cells_form table) (IsRowCells columns table p)
    (tested_reads (List Cell) (cells_at columns table p) (cells_form table) (AreRowCellsAt columns table p) (plan_defect columns) (ArePlanned columns) (cells_reads columns table p) (plan_judged columns (AreRowCellsAt columns table p)))
    (λ cs is. (refl, record { are = is.0; planned = is.1 })) (λ cs is. (is.are, is.planned))

-- ---- rows

abbrev pub all_cells_form : (table : ℕ) → List (List Cell) → List ℕ
all_cells_form table [] = []
all_cells_form table (row ∷ rows) = cells_form table row ++ all_cells_form table rows

abbrev pub AreRowsAt : List Column → (table : ℕ) → RowPlace → List (List Cell) → Type 0
AreRowsAt columns table = AllFrom (IsRowCells columns table) after_row

abbrev pub first_row : ℕ → RowPlace
first_row value = record { last = None; value = value }

pub record AreTableRows (columns : List Column) (table value n : ℕ) (rows : List (List Cell)) : Type 0 where
  pub count : length rows ≡ n
  pub are : AreRowsAt columns table (first_row value) rows

rows_shown : (table : ℕ) (p : RowPlace) (rows : List (List Cell)) → joined (λ q. cells_form table) after_row p rows ≡ all_cells_form table rows
rows_shown table p [] = refl
rows_shown table p (row ∷ rows) = ap (λ (t : List ℕ). cells_form table row ++ t) (rows_shown table (after_row p row) rows)

pub rows_reads : (columns : List Column) (table value n : ℕ) → Reads (List (List Cell)) (rows_at columns table value n) (all_cells_form table) (AreTableRows columns table value n)
rows_reads columns table value n =
    let p = first_row value in
    same_reads (List (List Cell)) (rows_at columns table value n) (joined (λ q. cells_form table) after_row p) (AreRead (List Cell) RowPlace (IsRowCells columns table) after_row p n) (all_cells_form table) (AreTableRows columns table value n)
    (many_reads (List Cell) RowPlace (row_at columns table) after_row (λ q. cells_form table) (IsRowCells columns table) (row_reads columns table) p n)
    (λ rows is. (rows_shown table p rows, record { count = is.count; are = is.all })) (λ rows is. record { count = is.count; all = is.are })

-- ---- the lengths of cells

plain_only : (kind : ColType) (s : Storage) → IsPlainIfFixed kind s → is_plain s ≡ false → (n : ℕ) → n ≤ 16777216 → HasLength kind n
plain_only types.Int8 s fixed other n few = absurd (let bad : is_plain storages.Plain ≡ false = rw fixed at other in cc)
plain_only types.Oid s fixed other n few = absurd (let bad : is_plain storages.Plain ≡ false = rw fixed at other in cc)
plain_only types.Lo s fixed other n few = absurd (let bad : is_plain storages.Plain ≡ false = rw fixed at other in cc)
plain_only types.Bytea s fixed other n few = few
plain_only types.Int4Array s fixed other n few = few

int_length : (kind : ColType) → kind ≡ types.Int8 → HasLength kind 8
int_length kind e = rw e refl

oid_length : (kind : ColType) (table value n : ℕ) → IsPayload kind table value 1 (cells.Oid n) → HasLength kind 4
oid_length types.Int8 table value n is = absurd (let bad = is.1 in cc)
oid_length types.Oid table value n is = refl
oid_length types.Lo table value n is = refl
oid_length types.Bytea table value n is = absurd (let bad = is.1 in cc)
oid_length types.Int4Array table value n is = absurd (let bad = is.1 in cc)

bytes_length : (kind : ColType) (table value : ℕ) (bytes : List ℕ) → IsPayload kind table value 1 (cells.Inline bytes) → HasLength kind (length bytes)
bytes_length types.Int8 table value bytes is = absurd (let bad = is.1 in cc)
bytes_length types.Oid table value bytes is = absurd (let bad = is.1 in cc)
bytes_length types.Lo table value bytes is = absurd (let bad = is.1 in cc)
bytes_length types.Bytea table value bytes is = is.2
bytes_length types.Int4Array table value bytes is = is.2

cell_has_length : (table value : ℕ) (column : Column) (c : Cell) → IsPlainIfFixed column.kind column.storage → IsCellAt table value column c → HasLengthIfThere column.kind (cell_length c)
cell_has_length table value column cells.Null fixed is = tt
cell_has_length table value column (cells.Int z) fixed is = int_length column.kind is.tagged.payload.1
cell_has_length table value column (cells.Oid n) fixed is = oid_length column.kind table value n is.tagged.payload
cell_has_length table value column (cells.Inline bytes) fixed is = bytes_length column.kind table value bytes is.tagged.payload
cell_has_length table value column (cells.Text bytes) fixed is = absurd is.tagged.payload
cell_has_length table value column (cells.Outside n number) fixed is = plain_only column.kind column.storage fixed (is.tagged.tag.movable refl) n is.tagged.payload.1

cells_have_lengths : (table value : ℕ) (columns : List Column) (cs : List Cell) → AllByRecursion (λ (c : Column). IsPlainIfFixed c.kind c.storage) columns → AreCells table value columns cs → AreLengths columns (cell_lengths cs) × (length cs ≡ length columns)
cells_have_lengths table value [] [] fixed all = (tt, refl)
cells_have_lengths table value [] (c ∷ cs) fixed all = absurd all
cells_have_lengths table value (column ∷ columns) [] fixed all = absurd all
cells_have_lengths table value (column ∷ columns) (c ∷ cs) fixed all =
    let more = cells_have_lengths table (after_cell value c) columns cs fixed.1 all.1 in
    ((cell_has_length table value column c fixed.0 all.0, more.0), ap suc more.1)

id_length : (kind : ColType) (last : Option ℤ) (c : Cell) → kind ≡ types.Int8 → IsIdAt last c → HasLengthIfThere kind (cell_length c)
id_length kind last cells.Null e is = absurd is
id_length kind last (cells.Int z) e is = int_length kind e
id_length kind last (cells.Oid n) e is = absurd is
id_length kind last (cells.Inline bytes) e is = absurd is
id_length kind last (cells.Text bytes) e is = absurd is
id_length kind last (cells.Outside n number) e is = absurd is

pub row_has_lengths : (columns : List Column) (table : ℕ) (p : RowPlace) (cs : List Cell) → IsTableColumns columns → AreRowCellsAt columns table p cs → AreLengths columns (cell_lengths cs) × (length cs ≡ length columns)
row_has_lengths [] table p cs is are = absurd is.id_first
row_has_lengths (column ∷ columns) table p [] is are = absurd are
row_has_lengths (column ∷ columns) table p (c ∷ cs) is are =
    let more = cells_have_lengths table p.value columns cs is.fixed.1 are.1 in
    ((id_length column.kind p.last c is.id_first.1 are.0, more.0), ap suc more.1)

pub row_unplanned : (columns : List Column) (table : ℕ) (p : RowPlace) (bytes : List ℕ) (x : List Cell × List ℕ) → cells_at columns table p bytes ≡ Ok x → are_planned columns x.0 ≡ false → row_at columns table p bytes ≡ Err (record { left = length bytes; kind = Plan })
row_unplanned columns table p bytes x e t = rw (e, t) refl

pub row_planned : (columns : List Column) (table : ℕ) (p : RowPlace) (bytes : List ℕ) (x : List Cell × List ℕ) → cells_at columns table p bytes ≡ Ok x → are_planned columns x.0 ≡ true → row_at columns table p bytes ≡ Ok x
row_planned columns table p bytes x e t = rw (e, t) refl
