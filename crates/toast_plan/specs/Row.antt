-- A row's bytes in an image: for each column a tag, and behind it what the tag stands for. Numbers are little-endian.
use Rattle.std.specs.Prelude.{◌≡◌, ℕ, ℤ, ◌+◌, ◌<◌, ◌≤◌, ◌^◌, All, Bool, true, false, if◌then◌else◌, List, [], ◌∷◌, ◌++◌, length, map, Option, Some, None}
use Rattle.std.specs.Int.{w32, w64, to_le_bytes, cast_unsigned}
use Rattle.std.specs.Int.RustNames.{FitsSigned}
use Rattle.lo_base.specs.declared.column.Column.{Column}
use Rattle.lo_base.specs.declared.column.ColType.{ColType}
use Rattle.lo_base.specs.declared.column.ColType.TheVariants as types
use Rattle.lo_base.specs.declared.value.Value.{Value}
use Rattle.lo_base.specs.declared.value.Value.TheVariants as values
use Rattle.lo_base.specs.declared.value.Cell.{Cell}
use Rattle.lo_base.specs.declared.value.Cell.TheVariants as cells
use Rattle.toast_plan.specs.declared.pointer.Pointer.{Pointer}
use Rattle.toast_plan.specs.Layout.{up_to_8}
use Rattle.toast_plan.specs.Choice.{outside_of, planned_length}
use Rattle.toast_plan.specs.Pointer.{pointer_form, IsPointer}

-- what a row holds of one column
pub data Field : Type 0 where
  Null : Field
  Int : ℤ → Field
  Oid : ℕ → Field
  Inline : List ℕ → Field
  Outside : Pointer → Field

-- a field's bytes: 0 for a null; 1 and the value, bytes behind their number; 2 and the pointer to a value outside
abbrev pub field_form : Field → List ℕ
field_form Null = 0 ∷ []
field_form (Int z) = 1 ∷ to_le_bytes w64 (cast_unsigned w64 z)
field_form (Oid n) = 1 ∷ to_le_bytes w32 n
field_form (Inline bytes) = 1 ∷ (to_le_bytes w32 (length bytes) ++ bytes)
field_form (Outside p) = 2 ∷ pointer_form p

-- the fields one after another
abbrev pub row_form : List Field → List ℕ
row_form [] = []
row_form (f ∷ fs) = field_form f ++ row_form fs

-- numbers below 256, at most 16,777,216 of them
pub record AreBytes (bytes : List ℕ) : Type 0 where
  pub few : length bytes ≤ 16777216
  pub small : All (λ b. b < 256) bytes

-- what a column of the type can hold
abbrev pub IsFieldOf : ColType → Field → Type 0
IsFieldOf kind Null = Unit {0}
IsFieldOf types.Int8 (Int z) = FitsSigned w64 z
IsFieldOf types.Int8 (Oid n) = ⊥
IsFieldOf types.Int8 (Inline bytes) = ⊥
IsFieldOf types.Int8 (Outside p) = ⊥
IsFieldOf types.Oid (Int z) = ⊥
IsFieldOf types.Oid (Oid n) = n < 2 ^ 32
IsFieldOf types.Oid (Inline bytes) = ⊥
IsFieldOf types.Oid (Outside p) = ⊥
IsFieldOf types.Lo (Int z) = ⊥
IsFieldOf types.Lo (Oid n) = n < 2 ^ 32
IsFieldOf types.Lo (Inline bytes) = ⊥
IsFieldOf types.Lo (Outside p) = ⊥
IsFieldOf types.Bytea (Int z) = ⊥
IsFieldOf types.Bytea (Oid n) = ⊥
IsFieldOf types.Bytea (Inline bytes) = AreBytes bytes
IsFieldOf types.Bytea (Outside p) = IsPointer p
IsFieldOf types.Int4Array (Int z) = ⊥
IsFieldOf types.Int4Array (Oid n) = ⊥
IsFieldOf types.Int4Array (Inline bytes) = AreBytes bytes
IsFieldOf types.Int4Array (Outside p) = IsPointer p

-- one field for each column
abbrev pub AreFields : List Column → List Field → Type 0
AreFields [] [] = Unit {0}
AreFields [] (f ∷ fs) = ⊥
AreFields (c ∷ cs) [] = ⊥
AreFields (c ∷ cs) (f ∷ fs) = IsFieldOf c.kind f × AreFields cs fs

abbrev pub is_null : Field → Bool
is_null Null = true
is_null (Int z) = false
is_null (Oid n) = false
is_null (Inline bytes) = false
is_null (Outside p) = false

abbrev pub is_outside : Field → Bool
is_outside Null = false
is_outside (Int z) = false
is_outside (Oid n) = false
is_outside (Inline bytes) = false
is_outside (Outside p) = true

-- the length of the value
abbrev pub field_length : Field → Option ℕ
field_length Null = None
field_length (Int z) = Some 8
field_length (Oid n) = Some 4
field_length (Inline bytes) = Some (length bytes)
field_length (Outside p) = Some p.length

abbrev pub field_lengths : List Field → List (Option ℕ)
field_lengths fs = map field_length fs

-- the id is there
abbrev pub StartsWithValue : List Field → Type 0
StartsWithValue [] = ⊥
StartsWithValue (f ∷ fs) = is_null f ≡ false

-- a row of a table: its id is there, outside are the values that the plan for its lengths moves, and it is not too big
pub record IsRow (columns : List Column) (fs : List Field) : Type 0 where
  pub id : StartsWithValue fs
  pub fields : AreFields columns fs
  pub planned : map is_outside fs ≡ outside_of columns (field_lengths fs)
  pub fits : up_to_8 (planned_length columns (field_lengths fs)) ≤ 8160

-- ---- values that are to be written

abbrev pub value_length : Value → Option ℕ
value_length values.Null = None
value_length (values.Int z) = Some 8
value_length (values.Oid n) = Some 4
value_length (values.Bytes bytes) = Some (length bytes)

abbrev pub value_lengths : List Value → List (Option ℕ)
value_lengths vs = map value_length vs

-- a null fits every type
abbrev pub FitsType : ColType → Value → Type 0
FitsType kind values.Null = Unit {0}
FitsType types.Int8 (values.Int z) = Unit {0}
FitsType types.Int8 (values.Oid n) = ⊥
FitsType types.Int8 (values.Bytes bytes) = ⊥
FitsType types.Oid (values.Int z) = ⊥
FitsType types.Oid (values.Oid n) = Unit {0}
FitsType types.Oid (values.Bytes bytes) = ⊥
FitsType types.Lo (values.Int z) = ⊥
FitsType types.Lo (values.Oid n) = Unit {0}
FitsType types.Lo (values.Bytes bytes) = ⊥
FitsType types.Bytea (values.Int z) = ⊥
FitsType types.Bytea (values.Oid n) = ⊥
FitsType types.Bytea (values.Bytes bytes) = length bytes ≤ 16777216
FitsType types.Int4Array (values.Int z) = ⊥
FitsType types.Int4Array (values.Oid n) = ⊥
FitsType types.Int4Array (values.Bytes bytes) = length bytes ≤ 16777216

abbrev pub FitColumns : List Column → List Value → Type 0
FitColumns [] [] = Unit {0}
FitColumns [] (v ∷ vs) = ⊥
FitColumns (c ∷ cs) [] = ⊥
FitColumns (c ∷ cs) (v ∷ vs) = FitsType c.kind v × FitColumns cs vs

abbrev pub is_null_value : Value → Bool
is_null_value values.Null = true
is_null_value (values.Int z) = false
is_null_value (values.Oid n) = false
is_null_value (values.Bytes bytes) = false

abbrev pub StartsWithId : List Value → Type 0
StartsWithId [] = ⊥
StartsWithId (v ∷ vs) = is_null_value v ≡ false

-- the values of a row: they fit their columns, and the id is there
pub record AreRowValues (columns : List Column) (vs : List Value) : Type 0 where
  pub id : StartsWithId vs
  pub fit : FitColumns columns vs

abbrev pub count_outside : List Bool → ℕ
count_outside [] = 0
count_outside (o ∷ os) = (if o then 1 else 0) + count_outside os

-- the field of a value: outside under the number, or in the row
abbrev pub field_of : ℕ → ℕ → Value → Bool → Field
field_of table number values.Null out = Null
field_of table number (values.Int z) out = Int z
field_of table number (values.Oid n) out = Oid n
field_of table number (values.Bytes bytes) true = Outside (record { length = length bytes; value = number; table = table })
field_of table number (values.Bytes bytes) false = Inline bytes

-- the fields of values of which some are outside: these are numbered one after another
abbrev pub fields_of : ℕ → ℕ → List Value → List Bool → List Field
fields_of table number [] os = []
fields_of table number (v ∷ vs) [] = []
fields_of table number (v ∷ vs) (o ∷ os) = field_of table number v o ∷ fields_of table (number + (if o then 1 else 0)) vs os

-- the fields of a row's values, with those outside that its plan moves
abbrev pub planned_fields : List Column → ℕ → ℕ → List Value → List Field
planned_fields columns table first vs = fields_of table first vs (outside_of columns (value_lengths vs))

-- ---- cells that are read

-- a field without the number of its table
abbrev pub cell_of : Field → Cell
cell_of Null = cells.Null
cell_of (Int z) = cells.Int z
cell_of (Oid n) = cells.Oid n
cell_of (Inline bytes) = cells.Inline bytes
cell_of (Outside p) = cells.Outside p.length p.value
