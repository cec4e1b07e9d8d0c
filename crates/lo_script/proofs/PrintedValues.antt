-- A token for each value, column and change, which spells it.
use Rattle.std.proofs.Common.{ℕ, List, ◌∷◌, ◌++◌, refl, inl}
use Rattle.std.specs.Prelude.{codes}
use Rattle.std.specs.Fmt.{signed_decimal}
use Rattle.hex.specs.Hex.{IsBytes, encode_lower}
use Rattle.hex.proofs.HexLemmas.{decode_of-encode_lower}
use Rattle.lo_base.specs.declared.column.ColType.{ColType}
use Rattle.lo_base.specs.declared.column.ColType.TheVariants as types
use Rattle.lo_base.specs.declared.column.Column.{Column}
use Rattle.lo_base.specs.declared.column.Storage.{Storage}
use Rattle.lo_base.specs.declared.request.Assign.{Assign}
use Rattle.lo_base.specs.declared.value.Literal.{Literal}
use Rattle.lo_base.specs.declared.value.Literal.TheVariants.{Null, Number, Bytes, ArrayText, Variable}
use Rattle.lo_script.specs.SpelledValues.{IsLiteralInRange, IsChangeInRange, SpellsBytes, SpellsLiteral, SpellsChange, SpellsStorage, SpellsKind, SpellsColumn, storage_text}

abbrev pub bytes_print : List ℕ → List ℕ
bytes_print bytes = codes "\\x" ++ encode_lower bytes

pub bytes_spelled : (bytes : List ℕ) → IsBytes bytes → SpellsBytes (bytes_print bytes) bytes
bytes_spelled bytes within = record { digits = encode_lower bytes; is = refl; stands_for = decode_of-encode_lower bytes within }

abbrev pub literal_print : Literal → List ℕ
literal_print Null = codes "null"
literal_print (Number n) = signed_decimal n
literal_print (Bytes bytes) = bytes_print bytes
literal_print (ArrayText text) = text
literal_print (Variable name) = codes "@" ++ name

pub literal_spelled : (literal : Literal) → IsLiteralInRange literal → SpellsLiteral (literal_print literal) literal
literal_spelled Null range = refl
literal_spelled (Number n) range = refl
literal_spelled (Bytes bytes) range = bytes_spelled bytes range
literal_spelled (ArrayText text) range = refl
literal_spelled (Variable name) range = refl

abbrev pub change_print : Assign → List ℕ
change_print change = change.column ++ 61 ∷ literal_print change.value

pub change_spelled : (change : Assign) → IsChangeInRange change → SpellsChange (change_print change) change
change_spelled change range = record { text = literal_print change.value; is = refl; spells = literal_spelled change.value range }

abbrev pub storage_print : Column → List ℕ
storage_print column = column.name ++ 58 ∷ storage_text column.storage

pub storage_spelled : (column : Column) → SpellsStorage (storage_print column) column
storage_spelled column = record { text = storage_text column.storage; is = refl; spells = refl }

abbrev pub kind_print : ColType → Storage → List ℕ
kind_print types.Int8 storage = codes "int8"
kind_print types.Oid storage = codes "oid"
kind_print types.Lo storage = codes "lo"
kind_print types.Bytea storage = codes "bytea" ++ codes ":" ++ storage_text storage
kind_print types.Int4Array storage = codes "int4[]" ++ codes ":" ++ storage_text storage

kind_spelled : (kind : ColType) (storage : Storage) → SpellsKind (kind_print kind storage) kind storage
kind_spelled types.Int8 storage = refl
kind_spelled types.Oid storage = refl
kind_spelled types.Lo storage = refl
kind_spelled types.Bytea storage = inl refl
kind_spelled types.Int4Array storage = inl refl

abbrev pub column_print : Column → List ℕ
column_print column = column.name ++ 58 ∷ kind_print column.kind column.storage

pub column_spelled : (column : Column) → SpellsColumn (column_print column) column
column_spelled column = record { text = kind_print column.kind column.storage; is = refl; spells = kind_spelled column.kind column.storage }
