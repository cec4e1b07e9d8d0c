-- What an opening's data mean is an opening whose rows fit their tables, and whose objects have a size.
use Rattle.std.proofs.Common.{◌≡◌, ◌≢◌, ℕ, ℤ, ◌+◌, false, List, [], ◌∷◌, length, map, Option, Some, None, refl, subst, arith}
use Rattle.std.specs.Cmp.Lexicographic.{slice_cmp}
use Rattle.std.specs.List.{AllByRecursion}
use Rattle.std.specs.Ordering.{nat_cmp}
use Rattle.std.specs.declared.cmp.Ordering.TheVariants.{Less}
use Rattle.std.proofs.lemmas.Bool.{true≢false}
use Rattle.std.proofs.lemmas.List.{length-map}
use Rattle.lo_base.specs.declared.column.Column.{Column}
use Rattle.lo_base.specs.declared.column.ColType.{ColType}
use Rattle.lo_base.specs.declared.column.ColType.TheVariants as types
use Rattle.lo_base.specs.declared.value.Value.{Value}
use Rattle.lo_base.specs.declared.value.Value.TheVariants as values
use Rattle.lo_model.specs.Opening.{TableRows}
use Rattle.lo_opening.specs.declared.opening.ObjectData.{ObjectData}
use Rattle.lo_opening.specs.declared.opening.TableData.{TableData}
use Rattle.lo_opening.specs.Meaning.{bytes_of, object_of, opening_of, table_of}
use Rattle.lo_opening.specs.Opening as opening
use Rattle.lo_opening.specs.Opening.{AreObjects, AreRows, AreTables, HoldArrays, IsArrayIfThere, IsObject, IsOpening, IsRowAt, OpeningData, blocks_held, row_outside, rows_outside}
use Rattle.lo_opening.proofs.BlockLaws.{size_is}
use Rattle.lo_restore.proofs.RestoredRows.{AreNamedAbove, names_above}
use Rattle.lo_restore.proofs.TablesLeft.{not_itself_named}
use Rattle.row_tables.specs.Values.{HasId, id_of}
use Rattle.toast_plan.specs.Columns.{AreDistinct, StartsWithId}
use Rattle.toast_plan.specs.Row.{AreRowValues, FitColumns, FitsType, is_null_value}
use Rattle.lo_machine.specs.Fitting.{HasFitRows, IsFitOpening, IsSizedObject, IsTableRow}
use Rattle.lo_machine.specs.FlatRows.{AreFlatValues, IsFlatValue}

-- the values of a row

flat_value : (kind : ColType) (v : Value) → FitsType kind v → IsArrayIfThere kind v → IsFlatValue kind v
flat_value kind values.Null fits arrays = tt
flat_value types.Int8 (values.Int n) fits arrays = tt
flat_value types.Int8 (values.Oid n) fits arrays = absurd fits
flat_value types.Int8 (values.Bytes bytes) fits arrays = absurd fits
flat_value types.Oid (values.Int n) fits arrays = absurd fits
flat_value types.Oid (values.Oid n) fits arrays = tt
flat_value types.Oid (values.Bytes bytes) fits arrays = absurd fits
flat_value types.Lo (values.Int n) fits arrays = absurd fits
flat_value types.Lo (values.Oid n) fits arrays = tt
flat_value types.Lo (values.Bytes bytes) fits arrays = absurd fits
flat_value types.Bytea (values.Int n) fits arrays = absurd fits
flat_value types.Bytea (values.Oid n) fits arrays = absurd fits
flat_value types.Bytea (values.Bytes bytes) fits arrays = tt
flat_value types.Int4Array (values.Int n) fits arrays = absurd fits
flat_value types.Int4Array (values.Oid n) fits arrays = absurd fits
flat_value types.Int4Array (values.Bytes bytes) fits arrays = arrays

flat_values : (columns : List Column) (vs : List Value) → FitColumns columns vs → HoldArrays columns vs → AreFlatValues columns vs
flat_values [] [] fit arrays = tt
flat_values [] (v ∷ vs) fit arrays = absurd fit
flat_values (c ∷ columns) [] fit arrays = absurd fit
flat_values (c ∷ columns) (v ∷ vs) fit arrays = (flat_value c.kind v fit.0 arrays.0, flat_values columns vs fit.1 arrays.1)

int_first : (v : Value) (vs : List Value) → FitsType types.Int8 v → is_null_value v ≡ false → HasId (id_of (v ∷ vs)) (v ∷ vs)
int_first values.Null vs fits there = absurd (true≢false there)
int_first (values.Int n) vs fits there = refl
int_first (values.Oid n) vs fits there = absurd fits
int_first (values.Bytes bytes) vs fits there = absurd fits

id_first : (columns : List Column) (vs : List Value) → StartsWithId columns → AreRowValues columns vs → HasId (id_of vs) vs
id_first columns [] starts are = absurd are.id
id_first [] (v ∷ vs) starts are = absurd starts
id_first (c ∷ columns) (v ∷ vs) starts are = int_first v vs (subst (λ (kind : ColType). FitsType kind v) starts.1 are.fit.0) are.id

table_row : (columns : List Column) (table value : ℕ) (vs : List Value) → IsRowAt columns table value vs → IsTableRow columns (id_of vs) vs
table_row columns table value vs is = record {
  can = is.row.columns_are;
  row = record { values = is.row.values_are; range = is.row.range; id = id_first columns vs is.row.columns_are.id_first is.row.values_are };
  flat = flat_values columns vs is.row.values_are.fit is.arrays;
  plan = is.row.fits;
}

table_rows : (columns : List Column) (table : ℕ) (last : Option ℤ) (value : ℕ) (rows : List (List Value)) → AreRows columns table last value rows → AllByRecursion (λ (vs : List Value). IsTableRow columns (id_of vs) vs) rows
table_rows columns table last value [] are = tt
table_rows columns table last value (vs ∷ rows) are = (table_row columns table value vs are.0, table_rows columns table (Some (opening.id_of vs)) (value + row_outside columns vs) rows are.2)

-- tables, which have names of their own

fit_tables : (last : Option (List ℕ)) (table value : ℕ) (ts : List TableData) → AreTables last table value ts → AllByRecursion HasFitRows (map table_of ts)
fit_tables last table value [] are = tt
fit_tables last table value (t ∷ ts) are = (
  record { name = are.0.name; can = are.0.columns; rows = table_rows t.columns table None value t.rows are.0.rows },
  fit_tables (Some t.name) (table + 1) (value + rows_outside t.columns t.rows) ts are.2,
)

abbrev names_in : List TableData → List (List ℕ)
names_in ts = map (λ (t : TableRows). t.name) (map table_of ts)

names_apart : (name : List ℕ) (ts : List TableData) → AreNamedAbove name ts → AllByRecursion (λ other. other ≢ name) (names_in ts)
names_apart name [] all = tt
names_apart name (t ∷ ts) all = ((λ same. not_itself_named name (subst (λ (n : List ℕ). slice_cmp nat_cmp name n ≡ Less) same all.0)), names_apart name ts all.1)

names_differ : (last : Option (List ℕ)) (table value : ℕ) (ts : List TableData) → AreTables last table value ts → AreDistinct (names_in ts)
names_differ last table value [] are = tt
names_differ last table value (t ∷ ts) are = (names_apart t.name ts (names_above t.name (Some t.name) _ _ ts (λ other less. less) are.2), names_differ (Some t.name) (table + 1) (value + rows_outside t.columns t.rows) ts are.2)

-- objects

sized : (held : ℕ) (o : ObjectData) → IsObject held o → IsSizedObject (object_of o)
sized held o is =
    let same : length (bytes_of o) ≡ o.size = size_is o.oid o.size o.stored is.stored in
    record { least = is.least; most = is.most; size = omega (arith, same, is.size) }

all_sized : (least held : ℕ) (os : List ObjectData) → AreObjects least held os → AllByRecursion IsSizedObject (map object_of os)
all_sized least held [] are = tt
all_sized least held (o ∷ os) are = (sized held o are.0, all_sized (o.oid + 1) (held + blocks_held o) os are.2)

pub opening_fits : (d : OpeningData) → IsOpening d → IsFitOpening (opening_of d)
opening_fits d is = record {
  counter = record { least = is.least_counter; most = is.most_counter };
  few = omega (arith, length-map d.tables table_of, is.few_tables);
  distinct = names_differ None 1 1 d.tables is.tables;
  tables = fit_tables None 1 1 d.tables is.tables;
  objects = all_sized 0 _ d.objects is.objects;
}
