-- The values of a row and their fields: what is read of one is the other.
use Rattle.std.proofs.Common.{◌≡◌, ℕ, ℤ, suc, ◌+◌, ◌≤◌, ◌<◌, ◌^◌, Bool, true, false, cond, List, [], ◌∷◌, ◌++◌, length, map, All, Option, Some, refl, sym, ap, subst, ◌∙◌, arith}
use Rattle.std.specs.Prelude.{slice_get}
use Rattle.std.specs.List.{AllByRecursion}
use Rattle.std.specs.Int.{w64}
use Rattle.std.specs.Int.RustNames.{FitsSigned}
use Rattle.std.proofs.lemmas.Option.{same_Some}
use Rattle.std.proofs.lemmas.List.Elements.{All-from_recursion, recursion_from_All}
use Rattle.lo_base.specs.declared.column.Column.{Column}
use Rattle.lo_base.specs.declared.column.ColType.{ColType}
use Rattle.lo_base.specs.declared.column.ColType.TheVariants as types
use Rattle.lo_base.specs.declared.column.Storage.{Storage}
use Rattle.lo_base.specs.declared.column.Storage.TheVariants as storages
use Rattle.lo_base.specs.declared.value.Value.{Value}
use Rattle.lo_base.specs.declared.value.Value.TheVariants as values
use Rattle.lo_base.specs.declared.value.Cell.{Cell}
use Rattle.lo_base.specs.declared.value.Cell.TheVariants as cells
use Rattle.toast_plan.specs.Columns.{IsTableColumns, IsPlainIfFixed}
use Rattle.toast_plan.specs.Layout.{up_to_8}
use Rattle.toast_plan.specs.Choice.{outside_of, planned_length}
use Rattle.toast_plan.specs.Row.{Int, Oid, Inline, field_form, row_form, IsFieldOf, AreFields, is_outside, field_length, field_lengths, value_length, value_lengths, FitsType, FitColumns, count_outside, field_of, fields_of, planned_fields, cell_of, StartsWithId}
use Rattle.toast_plan.specs.Writing.{HasRange}
use Rattle.toast_plan.specs.Reading.{cell_length, cell_lengths, is_cell_outside}
use Rattle.toast_plan.proofs.PlanLaws.{plain_stay_holds, length_outside}
use Rattle.toast_plan.proofs.RowLaws.{is_row, values_same}
use Rattle.lo_image.specs.declared.place.RowPlace.{RowPlace}
use Rattle.lo_opening.specs.Opening.{marks_of, row_outside, value_chunks, marked_chunks, IsArrayIfThere, HoldArrays, id_of, id_follows, IsRowAt}
use Rattle.lo_image.specs.Image.{marked_form, next_number, row_chunks_form}
use Rattle.lo_image.specs.Reading.{is_plain, after_cell, after_cells, id_in, cell_chunks, chunks_in_row}
use Rattle.lo_image.proofs.CellLaws.{TagRule, IsCellAt, is_oid_kind, is_bytes_kind, cell_form}
use Rattle.lo_image.proofs.RowLaws.{IsIdAt, cells_form, AreCells, AreRowCellsAt, IsRowCells}
use Rattle.lo_image.proofs.ValueLaws.{IsKnown, IsLongOf, IsValueOf, behind_form, AreRowValuesOf, row_behind, AreKnown}

-- ---- from values to cells

-- what is read of a value's field, and the value
pub record HasCell (table value : ℕ) (c : Column) (v : Value) (o : Bool) (cell : Cell) : Type 0 where
  pub is : IsCellAt table value c cell
  pub shown : IsValueOf c.kind cell v
  pub known : IsKnown cell
  pub next : after_cell value cell ≡ value + cond o 1 0
  pub form : cell_form table cell ≡ field_form (field_of table value v o)
  pub chunks : cell_chunks cell ≡ cond o (value_chunks v) 0
  pub behind : behind_form cell v ≡ marked_form value v o
  pub outside : is_cell_outside cell ≡ o
  pub len : cell_length cell ≡ value_length v

inside : (a b : Bool) → a ≡ b → a ≡ false → b ≡ false
inside a b same e = sym same ∙ e

no_tag : (storage : Storage) (tag : ℕ) → tag ≤ 1 → TagRule storage tag
no_tag storage tag le = record { few = omega (arith, le); movable = λ two. absurd (omega (arith, le, two)) }

plus_none : (n : ℕ) → n ≡ n + 0
plus_none n = omega arith

null_cell : (table value : ℕ) (c : Column) → HasCell table value c values.Null false cells.Null
null_cell table value c = record {
  is = record { tagged = record { tag = no_tag c.storage 0 (omega arith); payload = refl }; array = tt };
  shown = refl;
  known = tt;
  next = plus_none value;
  form = refl;
  chunks = refl;
  behind = refl;
  outside = refl;
  len = refl;
}

int_field : (kind : ColType) (z : ℤ) → IsFieldOf kind (Int z) → (kind ≡ types.Int8) × FitsSigned w64 z
int_field types.Int8 z h = (refl, h)
int_field types.Oid z h = absurd h
int_field types.Lo z h = absurd h
int_field types.Bytea z h = absurd h
int_field types.Int4Array z h = absurd h

int_cell : (table value : ℕ) (c : Column) (z : ℤ) → IsFieldOf c.kind (Int z) → HasCell table value c (values.Int z) false (cells.Int z)
int_cell table value c z h = record {
  is = record { tagged = record { tag = no_tag c.storage 1 (omega arith); payload = (refl, (int_field c.kind z h).0, (int_field c.kind z h).1) }; array = tt };
  shown = refl;
  known = tt;
  next = plus_none value;
  form = refl;
  chunks = refl;
  behind = refl;
  outside = refl;
  len = refl;
}

oid_field : (kind : ColType) (n : ℕ) → IsFieldOf kind (Oid n) → (is_oid_kind kind ≡ true) × (n < 2 ^ 32)
oid_field types.Int8 n h = absurd h
oid_field types.Oid n h = (refl, h)
oid_field types.Lo n h = (refl, h)
oid_field types.Bytea n h = absurd h
oid_field types.Int4Array n h = absurd h

oid_cell : (table value : ℕ) (c : Column) (n : ℕ) → IsFieldOf c.kind (Oid n) → HasCell table value c (values.Oid n) false (cells.Oid n)
oid_cell table value c n h = record {
  is = record { tagged = record { tag = no_tag c.storage 1 (omega arith); payload = (refl, (oid_field c.kind n h).0, (oid_field c.kind n h).1) }; array = tt };
  shown = refl;
  known = tt;
  next = plus_none value;
  form = refl;
  chunks = refl;
  behind = refl;
  outside = refl;
  len = refl;
}

inline_field : (kind : ColType) (bytes : List ℕ) → IsFieldOf kind (Inline bytes) → (is_bytes_kind kind ≡ true) × (length bytes ≤ 16777216) × All (λ b. b < 256) bytes
inline_field types.Int8 bytes h = absurd h
inline_field types.Oid bytes h = absurd h
inline_field types.Lo bytes h = absurd h
inline_field types.Bytea bytes h = (refl, h.few, h.small)
inline_field types.Int4Array bytes h = (refl, h.few, h.small)

inline_cell : (table value : ℕ) (c : Column) (bytes : List ℕ) → IsFieldOf c.kind (Inline bytes) → IsArrayIfThere c.kind (values.Bytes bytes) → HasCell table value c (values.Bytes bytes) false (cells.Inline bytes)
inline_cell table value c bytes h array =
    let f = inline_field c.kind bytes h in
    record {
      is = record { tagged = record { tag = no_tag c.storage 1 (omega arith); payload = (refl, f.0, f.1, f.2) }; array = array };
      shown = refl;
      known = tt;
      next = plus_none value;
      form = refl;
      chunks = refl;
      behind = refl;
      outside = refl;
      len = refl;
    }

outside_field : (table value : ℕ) (kind : ColType) (bytes : List ℕ) → IsFieldOf kind (field_of table value (values.Bytes bytes) true) → (length bytes ≤ 16777216) × (value < 2 ^ 32) × (table < 2 ^ 32)
outside_field table value types.Int8 bytes h = absurd h
outside_field table value types.Oid bytes h = absurd h
outside_field table value types.Lo bytes h = absurd h
outside_field table value types.Bytea bytes h = (h.length, h.value, h.table)
outside_field table value types.Int4Array bytes h = (h.length, h.value, h.table)

outside_cell : (table value : ℕ) (c : Column) (bytes : List ℕ) → IsFieldOf c.kind (field_of table value (values.Bytes bytes) true) → is_plain c.storage ≡ false → All (λ b. b < 256) bytes → IsArrayIfThere c.kind (values.Bytes bytes)
    → HasCell table value c (values.Bytes bytes) true (cells.Outside (length bytes) value)
outside_cell table value c bytes h plain small array =
    let f = outside_field table value c.kind bytes h in
    record {
      is = record { tagged = record { tag = record { few = omega arith; movable = λ two. plain }; payload = (refl, f.0, refl, f.1, f.2) }; array = tt };
      shown = (record { len = refl; small = small }, array);
      known = (f.0, f.1);
      next = refl;
      form = refl;
      chunks = refl;
      behind = refl;
      outside = refl;
      len = refl;
    }

cell_from : (table value : ℕ) (c : Column) (v : Value) (o : Bool) → IsFieldOf c.kind (field_of table value v o) → is_outside (field_of table value v o) ≡ o → (o ≡ true → is_plain c.storage ≡ false) → HasRange v → IsArrayIfThere c.kind v
    → HasCell table value c v o (cell_of (field_of table value v o))
cell_from table value c values.Null true field mark plain range array = absurd cc
cell_from table value c values.Null false field mark plain range array = null_cell table value c
cell_from table value c (values.Int z) true field mark plain range array = absurd cc
cell_from table value c (values.Int z) false field mark plain range array = int_cell table value c z field
cell_from table value c (values.Oid n) true field mark plain range array = absurd cc
cell_from table value c (values.Oid n) false field mark plain range array = oid_cell table value c n field
cell_from table value c (values.Bytes bytes) true field mark plain range array = outside_cell table value c bytes field (plain refl) range array
cell_from table value c (values.Bytes bytes) false field mark plain range array = inline_cell table value c bytes field array

number_next : (value : ℕ) (o : Bool) → next_number value o ≡ value + cond o 1 0
number_next value true = refl
number_next value false = plus_none value

-- what is read of the fields of values
pub record HaveCells (table value : ℕ) (cs : List Column) (vs : List Value) (os : List Bool) (found : List Cell) : Type 0 where
  pub are : AreCells table value cs found
  pub shown : AreRowValuesOf cs found vs
  pub known : AreKnown found
  pub next : after_cells value found ≡ value + count_outside os
  pub form : cells_form table found ≡ row_form (fields_of table value vs os)
  pub chunks : chunks_in_row found ≡ marked_chunks vs os
  pub behind : row_behind cs found vs ≡ row_chunks_form value vs os
  pub outside : map is_cell_outside found ≡ os
  pub len : cell_lengths found ≡ value_lengths vs

abbrev pub PlainInside : List Column → List Bool → Type 0
PlainInside [] os = Unit {0}
PlainInside (c ∷ cs) [] = Unit {0}
PlainInside (c ∷ cs) (o ∷ os) = (o ≡ true → is_plain c.storage ≡ false) × PlainInside cs os

head_same : (a b : Bool) (xs ys : List Bool) → a ∷ xs ≡ b ∷ ys → (a ≡ b) × (xs ≡ ys)
head_same a b xs ys e = (cc, cc)

one_cell : (table value : ℕ) (c : Column) (v : Value) (o : Bool) (cell : Cell) (cs : List Column) (vs : List Value) (os : List Bool) (found : List Cell) → HasCell table value c v o cell → HaveCells table (value + cond o 1 0) cs vs os found → HaveCells table value (c ∷ cs) (v ∷ vs) (o ∷ os) (cell ∷ found)
one_cell table value c v o cell cs vs os found h more =
    let Found = List Cell in
    let behind : row_behind cs found vs ≡ row_chunks_form (next_number value o) vs os = more.behind ∙ ap (λ (n : ℕ). row_chunks_form n vs os) (sym (number_next value o)) in
    record {
      are = (h.is, subst (λ (n : ℕ). AreCells table n cs found) (sym h.next) more.are);
      shown = (h.shown, more.shown);
      known = (h.known, more.known);
      next = ap (λ (n : ℕ). after_cells n found) h.next ∙ more.next ∙ (let count = count_outside os in let one = cond {A = ℕ} o 1 0 in omega arith);
      form = ap (λ (t : List ℕ). t ++ cells_form table found) h.form ∙ ap (λ (t : List ℕ). field_form (field_of table value v o) ++ t) more.form;
      chunks = ap (λ (n : ℕ). n + chunks_in_row found) h.chunks ∙ ap (λ (n : ℕ). cond o (value_chunks v) 0 + n) more.chunks;
      behind = ap (λ (t : List ℕ). t ++ row_behind cs found vs) h.behind ∙ ap (λ (t : List ℕ). marked_form value v o ++ t) behind;
      outside = ap (λ (b : Bool). b ∷ map is_cell_outside found) h.outside ∙ ap (λ (bs : List Bool). o ∷ bs) more.outside;
      len = ap (λ (n : Option ℕ). n ∷ cell_lengths found) h.len ∙ ap (λ (ns : List (Option ℕ)). value_length v ∷ ns) more.len;
    }

cells_from : (table value : ℕ) (cs : List Column) (vs : List Value) (os : List Bool) → length os ≡ length vs → AreFields cs (fields_of table value vs os) → map is_outside (fields_of table value vs os) ≡ os → PlainInside cs os → AllByRecursion HasRange vs → HoldArrays cs vs
    → HaveCells table value cs vs os (map cell_of (fields_of table value vs os))
cells_from table value [] [] [] same fields marks plain range arrays = record { are = tt; shown = tt; known = tt; next = plus_none value; form = refl; chunks = refl; behind = refl; outside = refl; len = refl }
cells_from table value [] [] (o ∷ os) same fields marks plain range arrays = absurd (omega (arith, same))
cells_from table value [] (v ∷ vs) [] same fields marks plain range arrays = absurd (omega (arith, same))
cells_from table value [] (v ∷ vs) (o ∷ os) same fields marks plain range arrays = absurd fields
cells_from table value (c ∷ cs) [] os same fields marks plain range arrays = absurd fields
cells_from table value (c ∷ cs) (v ∷ vs) [] same fields marks plain range arrays = absurd (omega (arith, same))
cells_from table value (c ∷ cs) (v ∷ vs) (o ∷ os) same fields marks plain range arrays =
    let both = head_same (is_outside (field_of table value v o)) o (map is_outside (fields_of table (value + cond o 1 0) vs os)) os marks in
    one_cell table value c v o (cell_of (field_of table value v o)) cs vs os (map cell_of (fields_of table (value + cond o 1 0) vs os))
    (cell_from table value c v o fields.0 both.0 plain.0 range.0 arrays.0)
    (cells_from table (value + cond o 1 0) cs vs os (omega (arith, same)) fields.1 both.1 plain.1 range.1 arrays.1)

is_plain_one : (s : Storage) → is_plain s ≡ true → s ≡ storages.Plain
is_plain_one storages.Plain e = refl
is_plain_one storages.External e = absurd cc
is_plain_one storages.Extended e = absurd cc
is_plain_one storages.Main e = absurd cc

not_marked : (o p : Bool) → (p ≡ true → Some o ≡ Some false) → o ≡ true → p ≡ false
not_marked o false h e = refl
not_marked o true h e = absurd (let some : Some o ≡ Some false = h refl in let both : true ≡ false = sym e ∙ same_Some o false some in cc)

plain_inside : (cs : List Column) (os : List Bool) → ((k : ℕ) (c : Column) → slice_get cs k ≡ Some c → c.storage ≡ storages.Plain → slice_get os k ≡ Some false) → PlainInside cs os
plain_inside [] os h = tt
plain_inside (c ∷ cs) [] h = tt
plain_inside (c ∷ cs) (o ∷ os) h = (not_marked o (is_plain c.storage) (λ e. h 0 c refl (is_plain_one c.storage e)), plain_inside cs os (λ k d at e. h (suc k) d at e))

-- of a row: all that reading asks of its cells
pub record IsShown (columns : List Column) (table : ℕ) (p : RowPlace) (vs : List Value) (found : List Cell) : Type 0 where
  pub row : IsRowCells columns table p found
  pub shown : AreRowValuesOf columns found vs
  pub known : AreKnown found
  pub next : after_cells p.value found ≡ p.value + row_outside columns vs
  pub id : id_in found ≡ id_of vs
  pub form : cells_form table found ≡ row_form (planned_fields columns table p.value vs)
  pub chunks : chunks_in_row found ≡ marked_chunks vs (marks_of columns vs)
  pub behind : row_behind columns found vs ≡ row_chunks_form p.value vs (marks_of columns vs)

abbrev pub cells_of_row : List Column → (table value : ℕ) → List Value → List Cell
cells_of_row columns table value vs = map cell_of (planned_fields columns table value vs)

-- the first cell of a row is its id's
id_first : (table value : ℕ) (c : Column) (last : Option ℤ) (v : Value) (vs : List Value) (o : Bool) → c.kind ≡ types.Int8 → FitsType c.kind v → HasRange v → is_plain c.storage ≡ true → (o ≡ true → is_plain c.storage ≡ false) → StartsWithId (v ∷ vs) → id_follows last (id_of (v ∷ vs)) ≡ true
    → IsIdAt last (cell_of (field_of table value v o)) × (o ≡ false)
id_first table value c last values.Null vs o e fit range plain inside starts follows = absurd cc
id_first table value c last (values.Int z) vs true e fit range plain inside starts follows = absurd (let off : is_plain c.storage ≡ false = inside refl in let both : true ≡ false = sym plain ∙ off in cc)
id_first table value c last (values.Int z) vs false e fit range plain inside starts follows = ((range, follows), refl)
id_first table value c last (values.Oid n) vs o e fit range plain inside starts follows = absurd (rw e at fit)
id_first table value c last (values.Bytes bytes) vs o e fit range plain inside starts follows = absurd (rw e at fit)

fixed_plain : (kind : ColType) (s : Storage) → kind ≡ types.Int8 → IsPlainIfFixed kind s → is_plain s ≡ true
fixed_plain types.Int8 s e h = rw h refl
fixed_plain types.Oid s e h = absurd cc
fixed_plain types.Lo s e h = absurd cc
fixed_plain types.Bytea s e h = absurd cc
fixed_plain types.Int4Array s e h = absurd cc

-- what is read of the fields after the first, and of the first
row_of_parts : (table : ℕ) (p : RowPlace) (c : Column) (cs : List Column) (v : Value) (vs : List Value) (o : Bool) (os : List Bool) → outside_of (c ∷ cs) (value_lengths (v ∷ vs)) ≡ o ∷ os → up_to_8 (planned_length (c ∷ cs) (value_lengths (v ∷ vs))) ≤ 8160
    → IsIdAt p.last (cell_of (field_of table p.value v o)) × (o ≡ false) → HaveCells table p.value (c ∷ cs) (v ∷ vs) (o ∷ os) (map cell_of (fields_of table p.value (v ∷ vs) (o ∷ os)))
    → IsRowCells (c ∷ cs) table p (map cell_of (fields_of table p.value (v ∷ vs) (o ∷ os)))
row_of_parts table p c cs v vs o os marks fits first have =
    let found = map cell_of (fields_of table p.value (v ∷ vs) (o ∷ os)) in
    let back : p.value + cond o 1 0 ≡ p.value = ap (λ (b : Bool). p.value + cond b 1 0) first.1 ∙ sym (plus_none p.value) in
    let others = map cell_of (fields_of table (p.value + cond o 1 0) vs os) in
    let next : after_cell p.value (cell_of (field_of table p.value v o)) ≡ p.value = ap (λ (b : Bool). cond b (p.value + 1) p.value) ((head_same (is_cell_outside (cell_of (field_of table p.value v o))) o (map is_cell_outside others) os have.outside).0 ∙ first.1) in
    record {
      are = (first.0, subst (λ (n : ℕ). AreCells table n cs others) next have.are.1);
      planned = record {
        outside = have.outside ∙ sym marks ∙ ap (outside_of (c ∷ cs)) (sym have.len);
        fits = subst (λ (ns : List (Option ℕ)). up_to_8 (planned_length (c ∷ cs) ns) ≤ 8160) (sym have.len) fits;
      };
    }

id_shown : (table value : ℕ) (v : Value) (o : Bool) (rest : List Cell) (vs : List Value) (last : Option ℤ) → IsIdAt last (cell_of (field_of table value v o)) → id_in (cell_of (field_of table value v o) ∷ rest) ≡ id_of (v ∷ vs)
id_shown table value values.Null o rest vs last is = absurd is
id_shown table value (values.Int z) o rest vs last is = refl
id_shown table value (values.Oid n) o rest vs last is = absurd is
id_shown table value (values.Bytes bytes) true rest vs last is = absurd is
id_shown table value (values.Bytes bytes) false rest vs last is = absurd is

row_from_marks : (columns : List Column) (table : ℕ) (p : RowPlace) (vs : List Value) (os : List Bool) → marks_of columns vs ≡ os → IsRowAt columns table p.value vs → id_follows p.last (id_of vs) ≡ true
    → HaveCells table p.value columns vs os (map cell_of (fields_of table p.value vs os)) → PlainInside columns os
    → IsRowCells columns table p (map cell_of (fields_of table p.value vs os)) × (id_in (map cell_of (fields_of table p.value vs os)) ≡ id_of vs)
row_from_marks [] table p vs os marks is follows have plain = absurd is.row.columns_are.id_first
row_from_marks (c ∷ cs) table p [] os marks is follows have plain = absurd is.row.values_are.id
row_from_marks (c ∷ cs) table p (v ∷ vs) [] marks is follows have plain = absurd have.are
row_from_marks (c ∷ cs) table p (v ∷ vs) (o ∷ os) marks is follows have plain =
    let kind = is.row.columns_are.id_first.1 in
    let range = recursion_from_All HasRange (v ∷ vs) is.row.range in
    let first = id_first table p.value c p.last v vs o kind is.row.values_are.fit.0 range.0 (fixed_plain c.kind c.storage kind is.row.columns_are.fixed.0) plain.0 is.row.values_are.id follows in
    (row_of_parts table p c cs v vs o os marks is.row.fits first have, id_shown table p.value v o (map cell_of (fields_of table (p.value + cond o 1 0) vs os)) vs p.last first.0)

pub row_from : (columns : List Column) (table : ℕ) (p : RowPlace) (vs : List Value) → IsRowAt columns table p.value vs → id_follows p.last (id_of vs) ≡ true → IsShown columns table p vs (cells_of_row columns table p.value vs)
row_from columns table p vs is follows =
    let os = marks_of columns vs in
    let row = is_row table p.value columns vs is.row.columns_are is.row.values_are is.row.fits is.row.numbers is.row.table_is is.row.range in
    let same : length os ≡ length vs = length_outside columns (value_lengths vs) ∙ sym (values_same columns vs is.row.values_are.fit) in
    let lens : field_lengths (fields_of table p.value vs os) ≡ value_lengths vs = field_lengths_same table p.value vs os same in
    let marks : map is_outside (fields_of table p.value vs os) ≡ os = row.planned ∙ ap (outside_of columns) lens in
    let plain = plain_inside columns os (λ k c at e. plain_stay_holds columns (value_lengths vs) c k at e) in
    let have = cells_from table p.value columns vs os same row.fields marks plain (recursion_from_All HasRange vs is.row.range) is.arrays in
    let more = row_from_marks columns table p vs os refl is follows have plain in
    record { row = more.0; shown = have.shown; known = have.known; next = have.next; id = more.1; form = have.form; chunks = have.chunks; behind = have.behind }
  where
    field_length_same : (table number : ℕ) (v : Value) (o : Bool) → field_length (field_of table number v o) ≡ value_length v
    field_length_same table number values.Null o = refl
    field_length_same table number (values.Int z) o = refl
    field_length_same table number (values.Oid n) o = refl
    field_length_same table number (values.Bytes bytes) true = refl
    field_length_same table number (values.Bytes bytes) false = refl

    field_lengths_same : (table number : ℕ) (vs : List Value) (os : List Bool) → length os ≡ length vs → field_lengths (fields_of table number vs os) ≡ value_lengths vs
    field_lengths_same table number [] os same = refl
    field_lengths_same table number (v ∷ vs) [] same = absurd (omega (arith, same))
    field_lengths_same table number (v ∷ vs) (o ∷ os) same =
        ap (λ (n : Option ℕ). n ∷ field_lengths (fields_of table (number + cond o 1 0) vs os)) (field_length_same table number v o) ∙ ap (λ (ns : List (Option ℕ)). value_length v ∷ ns) (field_lengths_same table (number + cond o 1 0) vs os (omega (arith, same)))

-- ---- from cells to values

-- the cell is that of the value's field
pub record HasValue (table value : ℕ) (c : Column) (cell : Cell) (v : Value) : Type 0 where
  pub same : cell ≡ cell_of (field_of table value v (is_cell_outside cell))
  pub fits : FitsType c.kind v
  pub range : HasRange v
  pub array : IsArrayIfThere c.kind v
  pub len : value_length v ≡ cell_length cell
  pub next : value + cond (is_cell_outside cell) 1 0 ≤ 2 ^ 32
  pub after : after_cell value cell ≡ value + cond (is_cell_outside cell) 1 0

int_fits : (kind : ColType) (z : ℤ) → kind ≡ types.Int8 → FitsType kind (values.Int z)
int_fits kind z e = rw e tt

oid_fits : (kind : ColType) (n : ℕ) → is_oid_kind kind ≡ true → FitsType kind (values.Oid n)
oid_fits types.Int8 n e = absurd cc
oid_fits types.Oid n e = tt
oid_fits types.Lo n e = tt
oid_fits types.Bytea n e = absurd cc
oid_fits types.Int4Array n e = absurd cc

bytes_fit : (kind : ColType) (bytes : List ℕ) → is_bytes_kind kind ≡ true → length bytes ≤ 16777216 → FitsType kind (values.Bytes bytes)
bytes_fit types.Int8 bytes e le = absurd cc
bytes_fit types.Oid bytes e le = absurd cc
bytes_fit types.Lo bytes e le = absurd cc
bytes_fit types.Bytea bytes e le = le
bytes_fit types.Int4Array bytes e le = le

movable_kind : (kind : ColType) (s : Storage) → IsPlainIfFixed kind s → is_plain s ≡ false → is_bytes_kind kind ≡ true
movable_kind types.Int8 s fixed other = absurd (let bad : is_plain storages.Plain ≡ false = rw fixed at other in cc)
movable_kind types.Oid s fixed other = absurd (let bad : is_plain storages.Plain ≡ false = rw fixed at other in cc)
movable_kind types.Lo s fixed other = absurd (let bad : is_plain storages.Plain ≡ false = rw fixed at other in cc)
movable_kind types.Bytea s fixed other = refl
movable_kind types.Int4Array s fixed other = refl

long_value : (table value : ℕ) (c : Column) (n number : ℕ) (v : Value) → IsCellAt table value c (cells.Outside n number) → IsPlainIfFixed c.kind c.storage → IsLongOf c.kind n v → HasValue table value c (cells.Outside n number) v
long_value table value c n number values.Null is fixed shown = absurd shown
long_value table value c n number (values.Int z) is fixed shown = absurd shown
long_value table value c n number (values.Oid m) is fixed shown = absurd shown
long_value table value c n number (values.Bytes bytes) is fixed shown =
    let pay = is.tagged.payload in
    let len = shown.0.len in
    record {
      same = ap (λ (k : ℕ). cells.Outside n k) pay.2 ∙ ap (λ (k : ℕ). cells.Outside k value) (sym len);
      fits = bytes_fit c.kind bytes (movable_kind c.kind c.storage fixed (is.tagged.tag.movable refl)) (let few = pay.1 in omega (arith, len, few));
      range = shown.0.small;
      array = shown.1;
      len = ap (λ (k : ℕ). Some k) len;
      next = (let small = pay.3 in omega (arith, small));
      after = refl;
    }

value_from : (table value : ℕ) (c : Column) (cell : Cell) (v : Value) → value ≤ 2 ^ 32 → IsCellAt table value c cell → IsPlainIfFixed c.kind c.storage → IsValueOf c.kind cell v → HasValue table value c cell v
value_from table value c cells.Null v le is fixed shown = rw shown (record { same = refl; fits = tt; range = tt; array = tt; len = refl; next = omega (arith, le); after = plus_none value })
value_from table value c (cells.Int z) v le is fixed shown =
    let pay = is.tagged.payload in
    subst (λ (w : Value). HasValue table value c (cells.Int z) w) (sym shown) (record { same = refl; fits = int_fits c.kind z pay.1; range = pay.2; array = tt; len = refl; next = omega (arith, le); after = plus_none value })
value_from table value c (cells.Oid n) v le is fixed shown =
    let pay = is.tagged.payload in
    subst (λ (w : Value). HasValue table value c (cells.Oid n) w) (sym shown) (record { same = refl; fits = oid_fits c.kind n pay.1; range = pay.2; array = tt; len = refl; next = omega (arith, le); after = plus_none value })
value_from table value c (cells.Inline bytes) v le is fixed shown =
    let pay = is.tagged.payload in
    subst (λ (w : Value). HasValue table value c (cells.Inline bytes) w) (sym shown) (record { same = refl; fits = bytes_fit c.kind bytes pay.1 pay.2; range = pay.3; array = is.array; len = refl; next = omega (arith, le); after = plus_none value })
value_from table value c (cells.Text bytes) v le is fixed shown = absurd shown
value_from table value c (cells.Outside n number) v le is fixed shown = long_value table value c n number v is fixed shown

-- cells that are those of values
pub record HaveValues (table value : ℕ) (cs : List Column) (found : List Cell) (vs : List Value) : Type 0 where
  pub same : found ≡ map cell_of (fields_of table value vs (map is_cell_outside found))
  pub fit : FitColumns cs vs
  pub range : AllByRecursion HasRange vs
  pub arrays : HoldArrays cs vs
  pub len : value_lengths vs ≡ cell_lengths found
  pub next : value + count_outside (map is_cell_outside found) ≤ 2 ^ 32

values_from : (table value : ℕ) (cs : List Column) (found : List Cell) (vs : List Value) → value ≤ 2 ^ 32 → AreCells table value cs found → AllByRecursion (λ (c : Column). IsPlainIfFixed c.kind c.storage) cs → AreRowValuesOf cs found vs → HaveValues table value cs found vs
values_from table value [] [] [] le are fixed shown = record { same = refl; fit = tt; range = tt; arrays = tt; len = refl; next = omega (arith, le) }
values_from table value [] [] (v ∷ vs) le are fixed shown = absurd shown
values_from table value [] (f ∷ found) vs le are fixed shown = absurd are
values_from table value (c ∷ cs) [] vs le are fixed shown = absurd are
values_from table value (c ∷ cs) (f ∷ found) [] le are fixed shown = absurd shown
values_from table value (c ∷ cs) (f ∷ found) (v ∷ vs) le are fixed shown =
    let h = value_from table value c f v le are.0 fixed.0 shown.0 in
    let more = values_from table (value + cond (is_cell_outside f) 1 0) cs found vs h.next (subst (λ (n : ℕ). AreCells table n cs found) h.after are.1) fixed.1 shown.1 in
    let next = more.next in
    record {
      same = ap (λ (x : Cell). x ∷ found) h.same ∙ ap (λ (xs : List Cell). cell_of (field_of table value v (is_cell_outside f)) ∷ xs) more.same;
      fit = (h.fits, more.fit);
      range = (h.range, more.range);
      arrays = (h.array, more.arrays);
      len = ap (λ (n : Option ℕ). n ∷ value_lengths vs) h.len ∙ ap (λ (ns : List (Option ℕ)). cell_length f ∷ ns) more.len;
      next = (let one = cond {A = ℕ} (is_cell_outside f) 1 0 in let count = count_outside (map is_cell_outside found) in omega (arith, next));
    }

-- an id is a cell of its column as well
id_is_cell : (table value : ℕ) (c : Column) (last : Option ℤ) (cell : Cell) → c.kind ≡ types.Int8 → IsIdAt last cell → IsCellAt table value c cell × (after_cell value cell ≡ value)
id_is_cell table value c last cells.Null e is = absurd is
id_is_cell table value c last (cells.Int z) e is = (record { tagged = record { tag = no_tag c.storage 1 (omega arith); payload = (refl, e, is.0) }; array = tt }, refl)
id_is_cell table value c last (cells.Oid n) e is = absurd is
id_is_cell table value c last (cells.Inline bytes) e is = absurd is
id_is_cell table value c last (cells.Text bytes) e is = absurd is
id_is_cell table value c last (cells.Outside n number) e is = absurd is

id_value : (last : Option ℤ) (kind : ColType) (cell : Cell) (found : List Cell) (v : Value) (vs : List Value) → IsIdAt last cell → IsValueOf kind cell v → StartsWithId (v ∷ vs) × (id_follows last (id_of (v ∷ vs)) ≡ true)
id_value last kind cells.Null found v vs is shown = absurd is
id_value last kind (cells.Int z) found v vs is shown = rw shown (refl, is.1)
id_value last kind (cells.Oid n) found v vs is shown = absurd is
id_value last kind (cells.Inline bytes) found v vs is shown = absurd is
id_value last kind (cells.Text bytes) found v vs is shown = absurd is
id_value last kind (cells.Outside n number) found v vs is shown = absurd is

-- the row of cells and their values
pub record IsRowOf (columns : List Column) (table : ℕ) (p : RowPlace) (found : List Cell) (vs : List Value) : Type 0 where
  pub is : IsRowAt columns table p.value vs
  pub follows : id_follows p.last (id_of vs) ≡ true
  pub same : found ≡ cells_of_row columns table p.value vs

first_parts : (columns : List Column) (table : ℕ) (p : RowPlace) (found : List Cell) (vs : List Value) → IsTableColumns columns → p.value ≤ 2 ^ 32 → AreRowCellsAt columns table p found → AreRowValuesOf columns found vs
    → HaveValues table p.value columns found vs × (StartsWithId vs × (id_follows p.last (id_of vs) ≡ true))
first_parts [] table p found vs columns le are shown = absurd columns.id_first
first_parts (c ∷ cs) table p [] vs columns le are shown = absurd are
first_parts (c ∷ cs) table p (f ∷ found) [] columns le are shown = absurd shown
first_parts (c ∷ cs) table p (f ∷ found) (v ∷ vs) columns le are shown =
    let id = id_is_cell table p.value c p.last f columns.id_first.1 are.0 in (
      values_from table p.value (c ∷ cs) (f ∷ found) (v ∷ vs) le (id.0, subst (λ (n : ℕ). AreCells table n cs found) (sym id.1) are.1) columns.fixed shown,
      id_value p.last c.kind f found v vs are.0 shown.0,
    )

pub row_of_cells : (columns : List Column) (table : ℕ) (p : RowPlace) (found : List Cell) (vs : List Value) → IsTableColumns columns → p.value ≤ 2 ^ 32 → table < 2 ^ 32 → IsRowCells columns table p found → AreRowValuesOf columns found vs → IsRowOf columns table p found vs
row_of_cells columns table p found vs cols le small is shown =
    let parts = first_parts columns table p found vs cols le is.are shown in
    let have = parts.0 in
    let marks : map is_cell_outside found ≡ marks_of columns vs = is.planned.outside ∙ ap (outside_of columns) (sym have.len) in
    record {
      is = record {
        row = record {
          columns_are = cols;
          values_are = record { id = parts.1.0; fit = have.fit };
          range = All-from_recursion HasRange vs have.range;
          fits = subst (λ (ns : List (Option ℕ)). up_to_8 (planned_length columns ns) ≤ 8160) (sym have.len) is.planned.fits;
          numbers = subst (λ (os : List Bool). p.value + count_outside os ≤ 2 ^ 32) marks have.next;
          table_is = small;
        };
        arrays = have.arrays;
      };
      follows = parts.1.1;
      same = have.same ∙ ap (λ (os : List Bool). map cell_of (fields_of table p.value vs os)) marks;
    }
