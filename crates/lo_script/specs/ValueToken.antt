-- The tokens of values, of a new table's columns, of changes and of storages.
use Rattle.std.specs.Prelude.{ℕ, ℤ, ◌==◌, ◌||◌, not, ◌&&◌, nat_lt, Bool, List, [], ◌∷◌, length, drop, Option, Some, None, option_map, option_and_then, if◌then◌else◌, codes, bytes_eq}
use Rattle.std.specs.List.{list_any}
use Rattle.lo_base.specs.declared.column.ColType.{ColType}
use Rattle.lo_base.specs.declared.column.ColType.TheVariants as types
use Rattle.lo_base.specs.declared.column.Column.{Column}
use Rattle.lo_base.specs.declared.column.Storage.{Storage}
use Rattle.lo_base.specs.declared.column.Storage.TheVariants.{Plain, External, Extended, Main}
use Rattle.lo_base.specs.declared.request.Assign.{Assign}
use Rattle.lo_base.specs.declared.value.Literal.{Literal}
use Rattle.lo_base.specs.declared.value.Literal.TheVariants as literals
use Rattle.lo_machine.specs.Spelled.{bytes_limit}
use Rattle.lo_script.specs.Token.{int4_of, int8_of, bytes_of, name_of, cut_at, begins}

-- a space or a line feed
abbrev pub ends_token : ℕ → Bool
ends_token b = (b == 32) || (b == 10)

-- an array's text is any token of one byte or more. No token of a line holds a space or a line feed
abbrev pub is_array_text : (token : List ℕ) → Bool
is_array_text token = nat_lt 0 (length token) && not (list_any ends_token token)

abbrev pub array_text_of : (token : List ℕ) → Option (List ℕ)
array_text_of token = if is_array_text token then Some token else None

-- an element of an array, or a null
abbrev pub element_of : (token : List ℕ) → Option (Option ℤ)
element_of token = if bytes_eq token (codes "null") then Some None else option_map Some (int4_of token)

-- a value: bytes after `\`, the name of a variable after `@`, an array's text with its brace or bracket, null, or a number
abbrev pub literal_of : (token : List ℕ) → Option Literal
literal_of token =
    if begins (codes "\\") token then option_map literals.Bytes (bytes_of bytes_limit token)
    else if begins (codes "@") token then option_map literals.Variable (name_of (drop 1 token))
    else if begins (codes "{") token || begins (codes "[") token then option_map literals.ArrayText (array_text_of token)
    else if bytes_eq token (codes "null") then Some literals.Null
    else option_map literals.Number (int8_of token)

abbrev pub next_literal : (so_far : List Literal) → (token : List ℕ) → Option Literal
next_literal so_far token = literal_of token

-- a name and what is said of it, cut at the first such byte
abbrev pub named_of : {A B : Type 0} → (at : ℕ) → (value : List ℕ → Option A) → (List ℕ → A → B) → (token : List ℕ) → Option B
named_of at value make token = option_and_then (λ cut. option_and_then (λ name. option_map (make name) (value cut.1)) (name_of cut.0)) (cut_at at token)

-- the value of the word that the text is, if it is one of these
abbrev pub word_among : {A : Type 0} → (words : List (List ℕ × A)) → (text : List ℕ) → Option A
word_among [] text = None
word_among (word ∷ words) text = if bytes_eq text word.0 then Some word.1 else word_among words text

abbrev pub storage_words : List (List ℕ × Storage)
storage_words = (codes "plain", Plain) ∷ (codes "external", External) ∷ (codes "extended", Extended) ∷ (codes "main", Main) ∷ []

-- a type with its storage, which only `bytea` and `int4[]` may name
abbrev pub kind_words : List (List ℕ × (ColType × Storage))
kind_words =
    (codes "int8", (types.Int8, Plain))
    ∷ (codes "oid", (types.Oid, Plain))
    ∷ (codes "lo", (types.Lo, Plain))
    ∷ (codes "bytea", (types.Bytea, Extended))
    ∷ (codes "bytea:plain", (types.Bytea, Plain))
    ∷ (codes "bytea:external", (types.Bytea, External))
    ∷ (codes "bytea:extended", (types.Bytea, Extended))
    ∷ (codes "bytea:main", (types.Bytea, Main))
    ∷ (codes "int4[]", (types.Int4Array, Extended))
    ∷ (codes "int4[]:plain", (types.Int4Array, Plain))
    ∷ (codes "int4[]:external", (types.Int4Array, External))
    ∷ (codes "int4[]:extended", (types.Int4Array, Extended))
    ∷ (codes "int4[]:main", (types.Int4Array, Main))
    ∷ []

abbrev pub column_with : (name : List ℕ) → ColType × Storage → Column
column_with name kind = record { name = name; kind = kind.0; storage = kind.1 }

-- a column of a new table: NAME:TYPE or NAME:TYPE:STORAGE
abbrev pub column_of : (token : List ℕ) → Option Column
column_of token = named_of 58 (word_among kind_words) column_with token

-- the first column of a new table
abbrev pub id_column_of : (token : List ℕ) → Option Column
id_column_of token = if bytes_eq token (codes "id:int8") then Some (column_with (codes "id") (types.Int8, Plain)) else None

abbrev pub storage_column : (name : List ℕ) → Storage → Column
storage_column name storage = column_with name (types.Bytea, storage)

-- a column with its new storage, NAME:STORAGE. Its type is not looked at
abbrev pub storage_column_of : (token : List ℕ) → Option Column
storage_column_of token = named_of 58 (word_among storage_words) storage_column token

abbrev pub change_with : (name : List ℕ) → Literal → Assign
change_with name literal = record { column = name; value = literal }

-- a change, NAME=VALUE
abbrev pub change_of : (token : List ℕ) → Option Assign
change_of token = named_of 61 literal_of change_with token

abbrev pub column_name : Column → List ℕ
column_name column = column.name

abbrev pub changed_name : Assign → List ℕ
changed_name change = change.column

-- whether one of the items has that name
abbrev pub is_among : {A : Type 0} → (name_in : A → List ℕ) → List A → (name : List ℕ) → Bool
is_among name_in items name = list_any (λ a. bytes_eq (name_in a) name) items

-- the item, if none of those before it has its name
abbrev pub if_new : {A : Type 0} → (name_in : A → List ℕ) → (so_far : List A) → A → Option A
if_new name_in so_far a = if is_among name_in so_far (name_in a) then None else Some a

-- a table has at most 32 columns
abbrev pub next_column : (so_far : List Column) → (token : List ℕ) → Option Column
next_column so_far token = if nat_lt (length so_far) 32 then option_and_then (if_new column_name so_far) (column_of token) else None

abbrev pub next_storage : (so_far : List Column) → (token : List ℕ) → Option Column
next_storage so_far token = option_and_then (if_new column_name so_far) (storage_column_of token)

abbrev pub next_change : (so_far : List Assign) → (token : List ℕ) → Option Assign
next_change so_far token = option_and_then (if_new changed_name so_far) (change_of token)
