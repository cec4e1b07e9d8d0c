-- How numbers, values, columns and changes are spelled, and the ranges of what is in them.
use Rattle.std.specs.Prelude.{◌≡◌, ◌⊎◌, ℕ, ℤ, ◌<◌, ◌≤◌, ◌^◌, List, [], ◌∷◌, ◌++◌, Ok, Option, Some, None, codes}
use Rattle.std.specs.Fmt.{signed_decimal}
use Rattle.std.specs.Int.Signed.{mag}
use Rattle.hex.specs.Hex.{IsBytes, decode_of}
use Rattle.lo_base.specs.declared.column.ColType.{ColType}
use Rattle.lo_base.specs.declared.column.ColType.TheVariants as types
use Rattle.lo_base.specs.declared.column.Column.{Column}
use Rattle.lo_base.specs.declared.column.Storage.{Storage}
use Rattle.lo_base.specs.declared.column.Storage.TheVariants.{Plain, External, Extended, Main}
use Rattle.lo_base.specs.declared.request.Assign.{Assign}
use Rattle.lo_base.specs.declared.value.Literal.{Literal}
use Rattle.lo_base.specs.declared.value.Literal.TheVariants.{Null, Number, Bytes, ArrayText, Variable}
use Rattle.lo_script.specs.Token.{TokenList, oid_limit}

-- the ranges of the numbers' types
abbrev pub IsOid : ℕ → Type 0
IsOid oid = oid ≤ oid_limit

abbrev pub IsInt4 : ℤ → Type 0
IsInt4 n = mag n < 2 ^ 31

abbrev pub IsInt8 : ℤ → Type 0
IsInt8 n = mag n < 2 ^ 63

abbrev pub IsElement : Option ℤ → Type 0
IsElement None = Unit {0}
IsElement (Some n) = IsInt4 n

abbrev pub IsLiteralInRange : Literal → Type 0
IsLiteralInRange (Number n) = IsInt8 n
IsLiteralInRange (Bytes bytes) = IsBytes bytes
IsLiteralInRange _ = Unit {0}

abbrev pub IsChangeInRange : Assign → Type 0
IsChangeInRange change = IsLiteralInRange change.value

-- each token spells the item at its place
abbrev pub SpellAll : {A : Type 0} → (Spell : List ℕ → A → Type 0) → TokenList → List A → Type 0
SpellAll Spell [] [] = Unit {0}
SpellAll Spell [] (a ∷ items) = ⊥
SpellAll Spell (token ∷ tokens) [] = ⊥
SpellAll Spell (token ∷ tokens) (a ∷ items) = Spell token a × SpellAll Spell tokens items

-- bytes in hexadecimal digits. They have more than one spelling, since digits may be of either case
pub record SpellsBytes (token bytes : List ℕ) : Type 0 where
  pub digits : List ℕ
  pub is : token ≡ codes "\\x" ++ digits
  pub stands_for : decode_of digits ≡ Ok bytes

abbrev pub element_text : Option ℤ → List ℕ
element_text None = codes "null"
element_text (Some n) = signed_decimal n

abbrev pub SpellsLiteral : (token : List ℕ) → Literal → Type 0
SpellsLiteral token Null = token ≡ codes "null"
SpellsLiteral token (Number n) = token ≡ signed_decimal n
SpellsLiteral token (Bytes bytes) = SpellsBytes token bytes
SpellsLiteral token (ArrayText text) = token ≡ text
SpellsLiteral token (Variable name) = token ≡ codes "@" ++ name

-- a name, a byte, and what is spelled behind it
pub record SpellsNamed (Spell : List ℕ → Type 0) (at : ℕ) (name token : List ℕ) : Type 0 where
  pub text : List ℕ
  pub is : token ≡ name ++ at ∷ text
  pub spells : Spell text

abbrev pub SpellsChange : (token : List ℕ) → Assign → Type 0
SpellsChange token change = SpellsNamed (λ text. SpellsLiteral text change.value) 61 change.column token

abbrev pub storage_text : Storage → List ℕ
storage_text Plain = codes "plain"
storage_text External = codes "external"
storage_text Extended = codes "extended"
storage_text Main = codes "main"

abbrev pub SpellsStorage : (token : List ℕ) → Column → Type 0
SpellsStorage token column = SpellsNamed (λ text. text ≡ storage_text column.storage) 58 column.name token

-- a type whose values may be stored outside of their row, with its storage: extended may be left out
abbrev pub SpellsWithStorage : (kind text : List ℕ) → Storage → Type 0
SpellsWithStorage kind text storage = (text ≡ kind ++ codes ":" ++ storage_text storage) ⊎ ((text ≡ kind) × (storage ≡ Extended))

abbrev pub SpellsKind : (text : List ℕ) → ColType → Storage → Type 0
SpellsKind text types.Int8 storage = text ≡ codes "int8"
SpellsKind text types.Oid storage = text ≡ codes "oid"
SpellsKind text types.Lo storage = text ≡ codes "lo"
SpellsKind text types.Bytea storage = SpellsWithStorage (codes "bytea") text storage
SpellsKind text types.Int4Array storage = SpellsWithStorage (codes "int4[]") text storage

abbrev pub SpellsColumn : (token : List ℕ) → Column → Type 0
SpellsColumn token column = SpellsNamed (λ text. SpellsKind text column.kind column.storage) 58 column.name token
