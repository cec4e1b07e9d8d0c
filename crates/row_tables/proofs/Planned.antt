-- Marks of plans: which values are to be outside, the lengths that plans are made for, and new rows.
use Rattle.std.proofs.Common.{ℕ, ℤ, zero, suc, ◌^◌, ◌<◌, ◌≡◌, Bool, true, false, List, [], ◌∷◌, ◌++◌, length, Some, None, refl, ap, sym, subst, ◌∙◌, arith}
use Rattle.std.specs.Prelude.{slice_get, option_map}
use Rattle.std.specs.List.{AllByRecursion}
use Rattle.std.proofs.lemmas.Bool.{false≢true}
use Rattle.std.proofs.lemmas.List.{length-map}
use Rattle.std.proofs.lemmas.Option.{same_Some, slice_get-map}
use Rattle.lo_base.specs.declared.column.Column.{Column}
use Rattle.lo_base.specs.declared.column.ColType.{ColType}
use Rattle.lo_base.specs.declared.column.ColType.TheVariants as types
use Rattle.lo_base.specs.declared.column.Storage.{Storage}
use Rattle.lo_base.specs.declared.column.Storage.TheVariants.{Plain}
use Rattle.lo_base.specs.declared.value.Value.{Value}
use Rattle.lo_base.specs.declared.value.Value.TheVariants as values
use Rattle.lo_base.specs.declared.value.Cell.{Cell}
use Rattle.lo_base.specs.declared.value.Cell.TheVariants as cells
use Rattle.lo_model.specs.Stored.{moved_out, stored_anew}
use Rattle.row_versions.specs.Count.{Different}
use Rattle.row_versions.specs.Stack.{Each}
use Rattle.toast_plan.specs.Choice.{outside_of}
use Rattle.toast_plan.specs.Columns.{AreLengths, IsPlainIfFixed, IsTableColumns}
use Rattle.toast_plan.specs.Columns as columns_of
use Rattle.toast_plan.specs.Row.{AreRowValues, FitColumns, FitsType, StartsWithId, is_null_value, value_length, value_lengths}
use Rattle.toast_plan.proofs.PlanLaws.{length_outside, nulls_stay_holds, plain_stay_holds}
use Rattle.toast_plan.proofs.RowLaws.{values_same}
use Rattle.toast_plan.proofs.ValueLengths.{values_have_lengths}
use Rattle.row_tables.specs.declared.row_key.RowKey.{RowKey}
use Rattle.row_tables.specs.Cells.{Told, AreCells, IsCell, all_moved, all_settled, brought, cell_length, cell_lengths, moved_at, moved_out_of, next_after, number_of, numbers_in, settled, stored_told, told_with, value_told, values_told, whole_row}
use Rattle.row_tables.specs.Keys.{row_key}
use Rattle.row_tables.specs.Outside.{FitsLength}
use Rattle.row_tables.specs.Values.{HasId, cell_of, cells_of, id_in, id_of}
use Rattle.row_tables.proofs.EachOf.{cons_same, each_left, each_right}
use Rattle.row_tables.proofs.Settling.{IsToldNow, told_moved}

-- a value that is marked to be outside has bytes
abbrev pub MarkBytes : Bool → Value → Type 0
MarkBytes false v = Unit {0}
MarkBytes true values.Null = ⊥
MarkBytes true (values.Int z) = ⊥
MarkBytes true (values.Oid n) = ⊥
MarkBytes true (values.Bytes bytes) = Unit {0}

-- one mark for each value, and only those of bytes are marked
abbrev pub MarksBytes : List Bool → List Value → Type 0
MarksBytes [] [] = Unit {0}
MarksBytes [] (v ∷ vs) = ⊥
MarksBytes (o ∷ os) [] = ⊥
MarksBytes (o ∷ os) (v ∷ vs) = MarkBytes o v × MarksBytes os vs

pub marks_same : (os : List Bool) (vs : List Value) → MarksBytes os vs → length os ≡ length vs
marks_same [] [] h = refl
marks_same [] (v ∷ vs) h = absurd h
marks_same (o ∷ os) [] h = absurd h
marks_same (o ∷ os) (v ∷ vs) h = ap suc (marks_same os vs h.1)

-- the marks of a plan

abbrev is_bytes : Value → Bool
is_bytes values.Null = false
is_bytes (values.Int z) = false
is_bytes (values.Oid n) = false
is_bytes (values.Bytes bytes) = true

mark_bytes : (o : Bool) (v : Value) → (is_bytes v ≡ false → o ≡ false) → MarkBytes o v
mark_bytes false v h = tt
mark_bytes true values.Null h = false≢true (sym (h refl))
mark_bytes true (values.Int z) h = false≢true (sym (h refl))
mark_bytes true (values.Oid n) h = false≢true (sym (h refl))
mark_bytes true (values.Bytes bytes) h = tt

marks_bytes : (os : List Bool) (vs : List Value) → length os ≡ length vs → ((k : ℕ) (v : Value) → slice_get vs k ≡ Some v → is_bytes v ≡ false → slice_get os k ≡ Some false) → MarksBytes os vs
marks_bytes [] [] same h = tt
marks_bytes [] (v ∷ vs) same h = absurd (omega arith)
marks_bytes (o ∷ os) [] same h = absurd (omega arith)
marks_bytes (o ∷ os) (v ∷ vs) same h = (mark_bytes o v (λ other. same_Some o false (h 0 v refl other)), marks_bytes os vs (omega arith) (λ k w at other. h (suc k) w at other))

record IsAt (cs : List Column) (k : ℕ) (v : Value) : Type 0 where
  column : Column
  at : slice_get cs k ≡ Some column
  fits : FitsType column.kind v
  fixed : IsPlainIfFixed column.kind column.storage

fit_at : (cs : List Column) (vs : List Value) (k : ℕ) (v : Value) → FitColumns cs vs → AllByRecursion (λ (c : Column). IsPlainIfFixed c.kind c.storage) cs → slice_get vs k ≡ Some v → IsAt cs k v
fit_at [] [] k v h fixed at = absurd (let e : None ≡ Some v = at in cc)
fit_at [] (w ∷ vs) k v h fixed at = absurd h
fit_at (c ∷ cs) [] k v h fixed at = absurd h
fit_at (c ∷ cs) (w ∷ vs) zero v h fixed at = let e : Some w ≡ Some v = at in let same : w ≡ v = cc in record { column = c; at = refl; fits = subst (FitsType c.kind) same h.0; fixed = fixed.0 }
fit_at (c ∷ cs) (w ∷ vs) (suc k) v h fixed at = let i = fit_at cs vs k v h.1 fixed.1 at in record { column = i.column; at = i.at; fits = i.fits; fixed = i.fixed }

int_plain : (kind : ColType) (s : Storage) (z : ℤ) → FitsType kind (values.Int z) → IsPlainIfFixed kind s → s ≡ Plain
int_plain types.Int8 s z h fixed = fixed
int_plain types.Oid s z h fixed = absurd h
int_plain types.Lo s z h fixed = absurd h
int_plain types.Bytea s z h fixed = absurd h
int_plain types.Int4Array s z h fixed = absurd h

oid_plain : (kind : ColType) (s : Storage) (n : ℕ) → FitsType kind (values.Oid n) → IsPlainIfFixed kind s → s ≡ Plain
oid_plain types.Int8 s n h fixed = absurd h
oid_plain types.Oid s n h fixed = fixed
oid_plain types.Lo s n h fixed = fixed
oid_plain types.Bytea s n h fixed = absurd h
oid_plain types.Int4Array s n h fixed = absurd h

others_stay : (cs : List Column) (vs : List Value) → IsTableColumns cs → FitColumns cs vs → (k : ℕ) (v : Value) → slice_get vs k ≡ Some v → is_bytes v ≡ false → slice_get (outside_of cs (value_lengths vs)) k ≡ Some false
others_stay cs vs table h k values.Null at other =
    nulls_stay_holds cs (value_lengths vs) k (length-map vs value_length ∙ values_same cs vs h) (slice_get-map value_length vs k ∙ ap (option_map value_length) at)
others_stay cs vs table h k (values.Int z) at other =
    let i = fit_at cs vs k (values.Int z) h table.fixed at in
    plain_stay_holds cs (value_lengths vs) i.column k i.at (int_plain i.column.kind i.column.storage z i.fits i.fixed)
others_stay cs vs table h k (values.Oid n) at other =
    let i = fit_at cs vs k (values.Oid n) h table.fixed at in
    plain_stay_holds cs (value_lengths vs) i.column k i.at (oid_plain i.column.kind i.column.storage n i.fits i.fixed)
others_stay cs vs table h k (values.Bytes bytes) at other = absurd (false≢true (sym other))

pub plan_marks : (columns : List Column) (row : List Value) → IsTableColumns columns → FitColumns columns row → MarksBytes (outside_of columns (value_lengths row)) row
plan_marks columns row table fit = marks_bytes (outside_of columns (value_lengths row)) row (length_outside columns (value_lengths row) ∙ sym (values_same columns row fit)) (others_stay columns row table fit)

-- lengths of cells

bytes_short : (kind : ColType) (bytes : List ℕ) → FitsType kind (values.Bytes bytes) → length bytes < 2 ^ 32
bytes_short types.Int8 bytes h = absurd h
bytes_short types.Oid bytes h = absurd h
bytes_short types.Lo bytes h = absurd h
bytes_short types.Bytea bytes h = omega (arith, h)
bytes_short types.Int4Array bytes h = omega (arith, h)

cell_fits : (told : ℕ → Told) (kind : ColType) (c : Cell) → FitsType kind (value_told told c) → FitsLength c
cell_fits told kind cells.Null h = tt
cell_fits told kind (cells.Int z) h = tt
cell_fits told kind (cells.Oid n) h = tt
cell_fits told kind (cells.Inline bytes) h = bytes_short kind bytes h
cell_fits told kind (cells.Text bytes) h = bytes_short kind bytes h
cell_fits told kind (cells.Outside l n) h = tt

pub cells_fit : (told : ℕ → Told) (columns : List Column) (row : List Cell) → FitColumns columns (values_told told row) → Each FitsLength row
cells_fit told [] [] h = tt
cells_fit told [] (c ∷ row) h = absurd h
cells_fit told (k ∷ ks) [] h = tt
cells_fit told (k ∷ ks) (c ∷ row) h = (cell_fits told k.kind c h.0, cells_fit told ks row h.1)

pub fits_length : (told : ℕ → Told) (key : RowKey) (next : ℕ) (columns : List Column) (row : List Cell) → AreCells told key next columns row → Each FitsLength row
fits_length told key next columns row h = cells_fit told columns row h.fit

length_told : (told : ℕ → Told) (key : RowKey) (next : ℕ) (c : Cell) → IsCell told key next c → cell_length c ≡ value_length (value_told told c)
length_told told key next cells.Null h = refl
length_told told key next (cells.Int z) h = refl
length_told told key next (cells.Oid n) h = refl
length_told told key next (cells.Inline bytes) h = refl
length_told told key next (cells.Text bytes) h = refl
length_told told key next (cells.Outside l n) h = ap (λ (k : ℕ). Some k) h.0

pub lengths_told : (told : ℕ → Told) (key : RowKey) (next : ℕ) (row : List Cell) → Each (IsCell told key next) row → cell_lengths row ≡ value_lengths (values_told told row)
lengths_told told key next [] h = refl
lengths_told told key next (c ∷ cs) h = cons_same (cell_length c) (value_length (value_told told c)) (cell_lengths cs) (value_lengths (values_told told cs)) (length_told told key next c h.0) (lengths_told told key next cs h.1)

pub lengths_fit : (told : ℕ → Told) (key : RowKey) (next : ℕ) (columns : List Column) (row : List Cell) → AreCells told key next columns row → AreLengths columns (cell_lengths row)
lengths_fit told key next columns row h = subst (AreLengths columns) (sym (lengths_told told key next row h.each)) (values_have_lengths columns (values_told told row) h.fit)

-- a new row

pub new_cell : (told : ℕ → Told) (key : RowKey) (next : ℕ) (v : Value) → IsCell told key next (cell_of v)
new_cell told key next values.Null = tt
new_cell told key next (values.Int z) = tt
new_cell told key next (values.Oid n) = tt
new_cell told key next (values.Bytes bytes) = tt

pub new_each : (told : ℕ → Told) (key : RowKey) (next : ℕ) (row : List Value) → Each (IsCell told key next) (cells_of row)
new_each told key next [] = tt
new_each told key next (v ∷ vs) = (new_cell told key next v, new_each told key next vs)

pub new_number : (v : Value) → number_of (cell_of v) ≡ []
new_number values.Null = refl
new_number (values.Int z) = refl
new_number (values.Oid n) = refl
new_number (values.Bytes bytes) = refl

pub new_numbers : (row : List Value) → numbers_in (cells_of row) ≡ []
new_numbers [] = refl
new_numbers (v ∷ vs) = ap (λ (ns : List ℕ). ns ++ numbers_in (cells_of vs)) (new_number v) ∙ new_numbers vs

pub new_value : (told : ℕ → Told) (v : Value) → value_told told (cell_of v) ≡ v
new_value told values.Null = refl
new_value told (values.Int z) = refl
new_value told (values.Oid n) = refl
new_value told (values.Bytes bytes) = refl

pub new_values : (told : ℕ → Told) (row : List Value) → values_told told (cells_of row) ≡ row
new_values told [] = refl
new_values told (v ∷ vs) = cons_same (value_told told (cell_of v)) v (values_told told (cells_of vs)) vs (new_value told v) (new_values told vs)

new_length : (v : Value) → cell_length (cell_of v) ≡ value_length v
new_length values.Null = refl
new_length (values.Int z) = refl
new_length (values.Oid n) = refl
new_length (values.Bytes bytes) = refl

pub new_lengths : (row : List Value) → cell_lengths (cells_of row) ≡ value_lengths row
new_lengths [] = refl
new_lengths (v ∷ vs) = cons_same (cell_length (cell_of v)) (value_length v) (cell_lengths (cells_of vs)) (value_lengths vs) (new_length v) (new_lengths vs)

-- the id is there, and it is an int8
new_id : (columns : List Column) (row : List Value) → columns_of.StartsWithId columns → FitColumns columns row → StartsWithId row → HasId (id_of row) row
new_id [] row first fit there = absurd first
new_id (c ∷ cs) [] first fit there = absurd there
new_id (c ∷ cs) (v ∷ vs) first fit there = of_kind v (subst (λ (kind : ColType). FitsType kind v) first.1 fit.0) there
  where
    of_kind : (v : Value) → FitsType types.Int8 v → is_null_value v ≡ false → v ≡ values.Int (id_in v)
    of_kind values.Null fits there = absurd (false≢true (sym there))
    of_kind (values.Int z) fits there = refl
    of_kind (values.Oid n) fits there = absurd fits
    of_kind (values.Bytes bytes) fits there = absurd fits

pub new_cells : (told : ℕ → Told) (table next : ℕ) (columns : List Column) (row : List Value) → IsTableColumns columns → AreRowValues columns row → AreCells told (row_key table (id_of row)) next columns (cells_of row)
new_cells told table next columns row are fit = record {
  each = new_each told (row_key table (id_of row)) next row;
  once = subst Different (sym (new_numbers row)) tt;
  fit = subst (FitColumns columns) (sym (new_values told row)) fit.fit;
  id = subst (HasId (id_of row)) (sym (new_values told row)) (new_id columns row are.id_first fit.fit fit.id);
}

-- when the values of a new row were moved out

pub stored_value : (told : ℕ → Told) (clock : ℕ) (key : RowKey) (o : Bool) (v : Value) (n : ℕ) → MarkBytes o v → Each (IsToldNow clock key told) (moved_out_of o (cell_of v) n) → moved_at told (settled o (cell_of v) n) ≡ moved_out clock o
stored_value told clock key false values.Null n h k = refl
stored_value told clock key false (values.Int z) n h k = refl
stored_value told clock key false (values.Oid i) n h k = refl
stored_value told clock key false (values.Bytes bytes) n h k = refl
stored_value told clock key true values.Null n h k = absurd h
stored_value told clock key true (values.Int z) n h k = absurd h
stored_value told clock key true (values.Oid i) n h k = absurd h
stored_value told clock key true (values.Bytes bytes) n h k = ap (λ (t : Told). Some t.moved) k.0

stored_values : (told : ℕ → Told) (clock : ℕ) (key : RowKey) (os : List Bool) (row : List Value) (n : ℕ) → MarksBytes os row → Each (IsToldNow clock key told) (all_moved os (cells_of row) n) → stored_told told (all_settled os (cells_of row) n) ≡ stored_anew clock os
stored_values told clock key [] [] n h k = refl
stored_values told clock key [] (v ∷ vs) n h k = absurd h
stored_values told clock key (o ∷ os) [] n h k = absurd h
stored_values told clock key (o ∷ os) (v ∷ vs) n h k =
    cons_same (moved_at told (settled o (cell_of v) n)) (moved_out clock o) (stored_told told (all_settled os (cells_of vs) (next_after o (cell_of v) n))) (stored_anew clock os)
    (stored_value told clock key o v n h.0 (each_left (IsToldNow clock key told) (moved_out_of o (cell_of v) n) (all_moved os (cells_of vs) (next_after o (cell_of v) n)) k))
    (stored_values told clock key os vs (next_after o (cell_of v) n) h.1 (each_right (IsToldNow clock key told) (moved_out_of o (cell_of v) n) (all_moved os (cells_of vs) (next_after o (cell_of v) n)) k))

pub stored_new : (clock : ℕ) (key : RowKey) (os : List Bool) (first : ℕ) (told : ℕ → Told) (row : List Value) → MarksBytes os row → stored_told (told_with clock key (all_moved os (cells_of row) first) told) (all_settled os (cells_of row) first) ≡ stored_anew clock os
stored_new clock key os first told row marks = stored_values (told_with clock key (all_moved os (cells_of row) first) told) clock key os row first marks (told_moved clock key os (cells_of row) first told)

-- a row with all of its values

whole_cell : (told : ℕ → Told) (key : RowKey) (next : ℕ) (c : Cell) → IsCell told key next c → brought told false c ≡ cell_of (value_told told c)
whole_cell told key next cells.Null h = refl
whole_cell told key next (cells.Int z) h = refl
whole_cell told key next (cells.Oid n) h = refl
whole_cell told key next (cells.Inline bytes) h = refl
whole_cell told key next (cells.Text bytes) h = absurd h
whole_cell told key next (cells.Outside l n) h = refl

pub whole_is : (told : ℕ → Told) (key : RowKey) (next : ℕ) (row : List Cell) → Each (IsCell told key next) row → whole_row told row ≡ cells_of (values_told told row)
whole_is told key next [] h = refl
whole_is told key next (c ∷ cs) h = cons_same (brought told false c) (cell_of (value_told told c)) (whole_row told cs) (cells_of (values_told told cs)) (whole_cell told key next c h.0) (whole_is told key next cs h.1)
