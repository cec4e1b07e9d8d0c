-- The fields of values that fit their columns, with those outside that the plan moves, are a row, and not a long one.
use Rattle.std.proofs.Common.{◌≡◌, ℕ, ℤ, zero, suc, ◌+◌, ◌*◌, ◌/◌, ◌<◌, ◌≤◌, ◌^◌, Bool, true, false, cond, List, [], ◌∷◌, length, map, All, Option, Some, None, refl, sym, ap, subst, ◌∙◌, length-append, arith}
use Rattle.std.specs.Prelude.{IfSome, slice_get, option_map}
use Rattle.std.specs.List.{AllByRecursion}
use Rattle.std.proofs.lemmas.Option.{same_Some, slice_get-map}
use Rattle.std.proofs.lemmas.List.{length-map}
use Rattle.std.proofs.lemmas.List.Elements.{All-from_recursion, recursion_from_All}
use Rattle.lo_base.specs.declared.column.Column.{Column}
use Rattle.lo_base.specs.declared.column.ColType.{ColType}
use Rattle.lo_base.specs.declared.column.ColType.TheVariants as types
use Rattle.lo_base.specs.declared.column.Storage.{Storage}
use Rattle.lo_base.specs.declared.column.Storage.TheVariants.{Plain}
use Rattle.lo_base.specs.declared.value.Value.{Value}
use Rattle.lo_base.specs.declared.value.Value.TheVariants as values
use Rattle.toast_plan.specs.Columns.{IsTableColumns, IsPlainIfFixed}
use Rattle.toast_plan.specs.Layout.{up_to_8, value_end, has_short_header, field_end, data_end, row_length}
use Rattle.toast_plan.specs.Choice.{outside_of, planned_length}
use Rattle.toast_plan.specs.Row.{Int, Oid, field_form, row_form, IsFieldOf, AreFields, is_null, is_outside, field_length, field_lengths, StartsWithValue, IsRow, value_length, value_lengths, FitsType, FitColumns, is_null_value, StartsWithId, AreRowValues, count_outside, field_of, fields_of, planned_fields}
use Rattle.toast_plan.specs.Writing.{HasRange}
use Rattle.toast_plan.proofs.PlanLaws.{length_outside, nulls_stay_holds, plain_stay_holds}

-- ---- lengths

pub values_same : (cs : List Column) (vs : List Value) → FitColumns cs vs → length vs ≡ length cs
values_same [] [] h = refl
values_same [] (v ∷ vs) h = absurd h
values_same (c ∷ cs) [] h = absurd h
values_same (c ∷ cs) (v ∷ vs) h = ap suc (values_same cs vs h.1)

bytes_short : (kind : ColType) (bytes : List ℕ) → FitsType kind (values.Bytes bytes) → length bytes ≤ 16777216
bytes_short types.Int8 bytes h = absurd h
bytes_short types.Oid bytes h = absurd h
bytes_short types.Lo bytes h = absurd h
bytes_short types.Bytea bytes h = h
bytes_short types.Int4Array bytes h = h

value_short : (kind : ColType) (v : Value) → FitsType kind v → IfSome (value_length v) (λ n. n ≤ 16777216)
value_short kind values.Null h = tt
value_short kind (values.Int z) h = omega arith
value_short kind (values.Oid n) h = omega arith
value_short kind (values.Bytes bytes) h = bytes_short kind bytes h

all_short : (cs : List Column) (vs : List Value) → FitColumns cs vs → AllByRecursion (λ v. IfSome (value_length v) (λ n. n ≤ 16777216)) vs
all_short [] [] h = tt
all_short [] (v ∷ vs) h = absurd h
all_short (c ∷ cs) [] h = absurd h
all_short (c ∷ cs) (v ∷ vs) h = (value_short c.kind v h.0, all_short cs vs h.1)

pub values_short : (cs : List Column) (vs : List Value) → FitColumns cs vs → All (λ v. IfSome (value_length v) (λ n. n ≤ 16777216)) vs
values_short cs vs h = All-from_recursion (λ v. IfSome (value_length v) (λ n. n ≤ 16777216)) vs (all_short cs vs h)

int_bound : (kind : ColType) (s : Storage) (z : ℤ) (at : ℕ) → FitsType kind (values.Int z) → at + 9 ≤ value_end kind s 8 at + 4
int_bound types.Int8 s z at h = omega arith
int_bound types.Oid s z at h = absurd h
int_bound types.Lo s z at h = absurd h
int_bound types.Bytea s z at h = absurd h
int_bound types.Int4Array s z at h = absurd h

oid_bound : (kind : ColType) (s : Storage) (n at : ℕ) → FitsType kind (values.Oid n) → at + 5 ≤ value_end kind s 4 at + 4
oid_bound types.Int8 s n at h = absurd h
oid_bound types.Oid s n at h = omega arith
oid_bound types.Lo s n at h = omega arith
oid_bound types.Bytea s n at h = absurd h
oid_bound types.Int4Array s n at h = absurd h

header_bound : (b : Bool) (n at : ℕ) → at + (5 + n) ≤ cond b (at + 1 + n) ((at + 3) / 4 * 4 + 4 + n) + 4
header_bound true n at = omega arith
header_bound false n at = omega arith

bytes_bound : (kind : ColType) (s : Storage) (bytes : List ℕ) (at : ℕ) → FitsType kind (values.Bytes bytes) → at + (5 + length bytes) ≤ value_end kind s (length bytes) at + 4
bytes_bound types.Int8 s bytes at h = absurd h
bytes_bound types.Oid s bytes at h = absurd h
bytes_bound types.Lo s bytes at h = absurd h
bytes_bound types.Bytea s bytes at h = header_bound (has_short_header s (length bytes)) (length bytes) at
bytes_bound types.Int4Array s bytes at h = header_bound (has_short_header s (length bytes)) (length bytes) at

-- a field is at most 4 bytes longer than its value is in the row
field_bound : (table number : ℕ) (c : Column) (v : Value) (o : Bool) (at : ℕ) → FitsType c.kind v → at + length (field_form (field_of table number v o)) ≤ field_end c (value_length v) o at + 4
field_bound table number c values.Null o at h = omega arith
field_bound table number c (values.Int z) true at h = omega arith
field_bound table number c (values.Int z) false at h = int_bound c.kind c.storage z at h
field_bound table number c (values.Oid n) true at h = omega arith
field_bound table number c (values.Oid n) false at h = oid_bound c.kind c.storage n at h
field_bound table number c (values.Bytes bytes) true at h = omega arith
field_bound table number c (values.Bytes bytes) false at h = omega (arith, bytes_bound c.kind c.storage bytes at h)

form_bound : (table number : ℕ) (cs : List Column) (vs : List Value) (os : List Bool) (at : ℕ) → FitColumns cs vs → at + length (row_form (fields_of table number vs os)) ≤ data_end at cs (value_lengths vs) os + 4 * length cs
form_bound table number [] [] os at h = omega arith
form_bound table number [] (v ∷ vs) os at h = absurd h
form_bound table number (c ∷ cs) [] os at h = absurd h
form_bound table number (c ∷ cs) (v ∷ vs) [] at h = omega arith
form_bound table number (c ∷ cs) (v ∷ vs) (o ∷ os) at h =
    let f = field_form (field_of table number v o) in
    let rest = row_form (fields_of table (number + cond o 1 0) vs os) in
    let next = field_end c (value_length v) o at in
    omega (arith, field_bound table number c v o at h.0, form_bound table (number + cond o 1 0) cs vs os next h.1, length-append f rest)

pub form_fits : (table number : ℕ) (cs : List Column) (vs : List Value) (os : List Bool) → FitColumns cs vs → length cs ≤ 32 → up_to_8 (row_length cs (value_lengths vs) os) ≤ 8160 → length (row_form (fields_of table number vs os)) ≤ 8448
form_fits table number cs vs os h few fits = omega (arith, form_bound table number cs vs os 0 h)

-- ---- the row

length_same : (table number : ℕ) (v : Value) (o : Bool) → field_length (field_of table number v o) ≡ value_length v
length_same table number values.Null o = refl
length_same table number (values.Int z) o = refl
length_same table number (values.Oid n) o = refl
length_same table number (values.Bytes bytes) true = refl
length_same table number (values.Bytes bytes) false = refl

lengths_same : (table number : ℕ) (vs : List Value) (os : List Bool) → length os ≡ length vs → field_lengths (fields_of table number vs os) ≡ value_lengths vs
lengths_same table number [] os same = refl
lengths_same table number (v ∷ vs) [] same = absurd (omega arith)
lengths_same table number (v ∷ vs) (o ∷ os) same =
    let rest : field_lengths (fields_of table (number + cond o 1 0) vs os) ≡ value_lengths vs = lengths_same table (number + cond o 1 0) vs os (omega arith) in
    ap (λ (n : Option ℕ). n ∷ field_lengths (fields_of table (number + cond o 1 0) vs os)) (length_same table number v o) ∙ ap (λ (ns : List (Option ℕ)). value_length v ∷ ns) rest

abbrev is_bytes : Value → Bool
is_bytes values.Null = false
is_bytes (values.Int z) = false
is_bytes (values.Oid n) = false
is_bytes (values.Bytes bytes) = true

mark_same : (table number : ℕ) (v : Value) (o : Bool) → (is_bytes v ≡ false → o ≡ false) → is_outside (field_of table number v o) ≡ o
mark_same table number values.Null o h = sym (h refl)
mark_same table number (values.Int z) o h = sym (h refl)
mark_same table number (values.Oid n) o h = sym (h refl)
mark_same table number (values.Bytes bytes) true h = refl
mark_same table number (values.Bytes bytes) false h = refl

-- where only bytes are outside, the tags are the marks
marks_same : (table number : ℕ) (vs : List Value) (os : List Bool) → length os ≡ length vs → ((k : ℕ) (v : Value) → slice_get vs k ≡ Some v → is_bytes v ≡ false → slice_get os k ≡ Some false) → map is_outside (fields_of table number vs os) ≡ os
marks_same table number [] [] same h = refl
marks_same table number [] (o ∷ os) same h = absurd (omega arith)
marks_same table number (v ∷ vs) [] same h = absurd (omega arith)
marks_same table number (v ∷ vs) (o ∷ os) same h =
    let rest : map is_outside (fields_of table (number + cond o 1 0) vs os) ≡ os = marks_same table (number + cond o 1 0) vs os (omega arith) (λ k w at other. h (suc k) w at other) in
    ap (λ (b : Bool). b ∷ map is_outside (fields_of table (number + cond o 1 0) vs os)) (mark_same table number v o (λ other. same_Some o false (h 0 v refl other))) ∙ ap (λ (bs : List Bool). o ∷ bs) rest

pub record IsAt (cs : List Column) (k : ℕ) (v : Value) : Type 0 where
  pub column : Column
  pub at : slice_get cs k ≡ Some column
  pub fits : FitsType column.kind v
  pub fixed : IsPlainIfFixed column.kind column.storage

fit_at : (cs : List Column) (vs : List Value) (k : ℕ) (v : Value) → FitColumns cs vs → AllByRecursion (λ (c : Column). IsPlainIfFixed c.kind c.storage) cs → slice_get vs k ≡ Some v → IsAt cs k v
fit_at [] [] k v h fixed at = absurd (let e : None ≡ Some v = at in cc)
fit_at [] (w ∷ vs) k v h fixed at = absurd h
fit_at (c ∷ cs) [] k v h fixed at = absurd h
fit_at (c ∷ cs) (w ∷ vs) zero v h fixed at = let e : Some w ≡ Some v = at in let same : w ≡ v = cc in record { column = c; at = refl; fits = subst (FitsType c.kind) same h.0; fixed = fixed.0 }
fit_at (c ∷ cs) (w ∷ vs) (suc k) v h fixed at = let i = fit_at cs vs k v h.1 fixed.1 at in record { column = i.column; at = i.at; fits = i.fits; fixed = i.fixed }

int_plain : (kind : ColType) (s : Storage) (z : ℤ) → FitsType kind (values.Int z) → IsPlainIfFixed kind s → s ≡ Plain
int_plain types.Int8 s z h fixed = fixed
int_plain types.Oid s z h fixed = absurd h
int_plain types.Lo s z h fixed = absurd h
int_plain types.Bytea s z h fixed = absurd h
int_plain types.Int4Array s z h fixed = absurd h

oid_plain : (kind : ColType) (s : Storage) (n : ℕ) → FitsType kind (values.Oid n) → IsPlainIfFixed kind s → s ≡ Plain
oid_plain types.Int8 s n h fixed = absurd h
oid_plain types.Oid s n h fixed = fixed
oid_plain types.Lo s n h fixed = fixed
oid_plain types.Bytea s n h fixed = absurd h
oid_plain types.Int4Array s n h fixed = absurd h

others_stay : (cs : List Column) (vs : List Value) → IsTableColumns cs → FitColumns cs vs → (k : ℕ) (v : Value) → slice_get vs k ≡ Some v → is_bytes v ≡ false → slice_get (outside_of cs (value_lengths vs)) k ≡ Some false
others_stay cs vs table h k values.Null at other =
    nulls_stay_holds cs (value_lengths vs) k (length-map vs value_length ∙ values_same cs vs h) (slice_get-map value_length vs k ∙ ap (option_map value_length) at)
others_stay cs vs table h k (values.Int z) at other =
    let i = fit_at cs vs k (values.Int z) h table.fixed at in
    plain_stay_holds cs (value_lengths vs) i.column k i.at (int_plain i.column.kind i.column.storage z i.fits i.fixed)
others_stay cs vs table h k (values.Oid n) at other =
    let i = fit_at cs vs k (values.Oid n) h table.fixed at in
    plain_stay_holds cs (value_lengths vs) i.column k i.at (oid_plain i.column.kind i.column.storage n i.fits i.fixed)
others_stay cs vs table h k (values.Bytes bytes) at other = absurd cc

id_stays : (table number : ℕ) (v : Value) (o : Bool) → is_null_value v ≡ false → is_null (field_of table number v o) ≡ false
id_stays table number values.Null o h = h
id_stays table number (values.Int z) o h = refl
id_stays table number (values.Oid n) o h = refl
id_stays table number (values.Bytes bytes) true h = refl
id_stays table number (values.Bytes bytes) false h = refl

starts : (table number : ℕ) (vs : List Value) (os : List Bool) → length os ≡ length vs → StartsWithId vs → StartsWithValue (fields_of table number vs os)
starts table number [] os same h = absurd h
starts table number (v ∷ vs) [] same h = absurd (omega arith)
starts table number (v ∷ vs) (o ∷ os) same h = id_stays table number v o h

int_is : (kind : ColType) (z : ℤ) → FitsType kind (values.Int z) → HasRange (values.Int z) → IsFieldOf kind (Int z)
int_is types.Int8 z h range = range
int_is types.Oid z h range = absurd h
int_is types.Lo z h range = absurd h
int_is types.Bytea z h range = absurd h
int_is types.Int4Array z h range = absurd h

oid_is : (kind : ColType) (n : ℕ) → FitsType kind (values.Oid n) → HasRange (values.Oid n) → IsFieldOf kind (Oid n)
oid_is types.Int8 n h range = absurd h
oid_is types.Oid n h range = range
oid_is types.Lo n h range = range
oid_is types.Bytea n h range = absurd h
oid_is types.Int4Array n h range = absurd h

inline_is : (table number : ℕ) (kind : ColType) (bytes : List ℕ) → FitsType kind (values.Bytes bytes) → HasRange (values.Bytes bytes) → IsFieldOf kind (field_of table number (values.Bytes bytes) false)
inline_is table number types.Int8 bytes h range = absurd h
inline_is table number types.Oid bytes h range = absurd h
inline_is table number types.Lo bytes h range = absurd h
inline_is table number types.Bytea bytes h range = record { few = h; small = range }
inline_is table number types.Int4Array bytes h range = record { few = h; small = range }

outside_is : (table number : ℕ) (kind : ColType) (bytes : List ℕ) → FitsType kind (values.Bytes bytes) → number < 2 ^ 32 → table < 2 ^ 32 → IsFieldOf kind (field_of table number (values.Bytes bytes) true)
outside_is table number types.Int8 bytes h n t = absurd h
outside_is table number types.Oid bytes h n t = absurd h
outside_is table number types.Lo bytes h n t = absurd h
outside_is table number types.Bytea bytes h n t = record { length = h; value = n; table = t }
outside_is table number types.Int4Array bytes h n t = record { length = h; value = n; table = t }

field_is : (table number : ℕ) (kind : ColType) (v : Value) (o : Bool) → FitsType kind v → HasRange v → (o ≡ true → number < 2 ^ 32) → table < 2 ^ 32 → IsFieldOf kind (field_of table number v o)
field_is table number kind values.Null o h range n t = tt
field_is table number kind (values.Int z) o h range n t = int_is kind z h range
field_is table number kind (values.Oid m) o h range n t = oid_is kind m h range
field_is table number kind (values.Bytes bytes) true h range n t = outside_is table number kind bytes h (n refl) t
field_is table number kind (values.Bytes bytes) false h range n t = inline_is table number kind bytes h range

one_more : (number count : ℕ) (o : Bool) → number + (cond o 1 0 + count) ≤ 2 ^ 32 → o ≡ true → number < 2 ^ 32
one_more number count true le e = omega arith
one_more number count false le e = absurd cc

are_fields : (table number : ℕ) (cs : List Column) (vs : List Value) (os : List Bool) → length os ≡ length vs → FitColumns cs vs → AllByRecursion HasRange vs → number + count_outside os ≤ 2 ^ 32 → table < 2 ^ 32 → AreFields cs (fields_of table number vs os)
are_fields table number [] [] os same h range n t = tt
are_fields table number [] (v ∷ vs) os same h range n t = absurd h
are_fields table number (c ∷ cs) [] os same h range n t = absurd h
are_fields table number (c ∷ cs) (v ∷ vs) [] same h range n t = absurd (omega arith)
are_fields table number (c ∷ cs) (v ∷ vs) (o ∷ os) same h range n t =
    (field_is table number c.kind v o h.0 range.0 (one_more number (count_outside os) o n) t, are_fields table (number + cond o 1 0) cs vs os (omega arith) h.1 range.1 (omega (arith, n)) t)

pub is_row : (table first : ℕ) (cs : List Column) (vs : List Value) → IsTableColumns cs → AreRowValues cs vs → up_to_8 (planned_length cs (value_lengths vs)) ≤ 8160 → first + count_outside (outside_of cs (value_lengths vs)) ≤ 2 ^ 32 → table < 2 ^ 32 → All HasRange vs
    → IsRow cs (planned_fields cs table first vs)
is_row table first cs vs columns are fits numbers t range =
    let os = outside_of cs (value_lengths vs) in
    let same : length os ≡ length vs = length_outside cs (value_lengths vs) ∙ sym (values_same cs vs are.fit) in
    let lengths : field_lengths (fields_of table first vs os) ≡ value_lengths vs = lengths_same table first vs os same in
    record {
      id = starts table first vs os same are.id;
      fields = are_fields table first cs vs os same are.fit (recursion_from_All HasRange vs range) numbers t;
      planned = marks_same table first vs os same (others_stay cs vs columns are.fit) ∙ sym (ap (outside_of cs) lengths);
      fits = rw lengths fits;
    }

count_few : (os : List Bool) → count_outside os ≤ length os
count_few [] = omega arith
count_few (true ∷ os) = omega (arith, count_few os)
count_few (false ∷ os) = omega (arith, count_few os)

-- a row has at most as many values outside as columns
pub outside_few : (cs : List Column) (ns : List (Option ℕ)) → count_outside (outside_of cs ns) ≤ length cs
outside_few cs ns = omega (arith, count_few (outside_of cs ns), length_outside cs ns)
