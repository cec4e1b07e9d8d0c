-- The requests that a script can spell. The types of numbers have their ranges already.
use Rattle.std.specs.Prelude.{◌≡◌, ℕ, ℤ, pos, ◌<◌, ◌≤◌, true, false, ◌||◌, ◌==◌, List, [], ◌∷◌, length, map, Option, Some, None}
use Rattle.std.specs.List.{AllByRecursion, list_any}
use Rattle.lo_base.specs.declared.column.Column.{Column}
use Rattle.lo_base.specs.declared.column.ColType.TheVariants as types
use Rattle.lo_base.specs.declared.request.Assign.{Assign}
use Rattle.lo_base.specs.declared.request.Request.{Request}
use Rattle.lo_base.specs.declared.request.Request.TheVariants.{Savepoint, Release, RollbackTo, LoWrite, LoGet, LoPut, LoFromBytea, CreateTable, Insert, Update, Delete, Get, Ids, Slice, Declare, Fetch, Close, Rewrite, Array, Load, Set, Elem, Show, Vacuumlo}
use Rattle.lo_base.specs.declared.value.Literal.{Literal}
use Rattle.lo_base.specs.declared.value.Literal.TheVariants.{Null, Number, Bytes, ArrayText, Variable}
use Rattle.lo_base.specs.Name.{IsName}
use Rattle.toast_plan.specs.Columns.{IsTableColumns, AreDistinct}

-- the most bytes of a literal
abbrev pub bytes_limit : ℕ
bytes_limit = 16777216

-- a token: at least one byte, and among them neither a space nor a line feed
abbrev pub IsToken : List ℕ → Type 0
IsToken text = (0 < length text) × (list_any (λ b. (b == 32) || (b == 10)) text ≡ false)

-- an array's text among values begins with a brace or a bracket
abbrev pub OpensArray : List ℕ → Type 0
OpensArray [] = ⊥
OpensArray (b ∷ text) = ((b == 123) || (b == 91)) ≡ true

abbrev pub IsLiteral : Literal → Type 0
IsLiteral Null = Unit {0}
IsLiteral (Number n) = Unit {0}
IsLiteral (Bytes bytes) = length bytes ≤ bytes_limit
IsLiteral (ArrayText text) = IsToken text × OpensArray text
IsLiteral (Variable name) = IsName name

-- new storages of columns: only names and storages are spelled
abbrev pub names_of : List Column → List (List ℕ)
names_of columns = map (λ (c : Column). c.name) columns

abbrev pub AreStorages : List Column → Type 0
AreStorages columns =
    (0 < length columns) × AllByRecursion (λ (c : Column). IsName c.name × (c.kind ≡ types.Bytea)) columns × AreDistinct (names_of columns)

abbrev pub AreChanges : List Assign → Type 0
AreChanges changes =
    (0 < length changes) × AllByRecursion (λ (a : Assign). IsName a.column × IsLiteral a.value) changes × AreDistinct (map (λ (a : Assign). a.column) changes)

-- all bytes of an object are asked for from its beginning
abbrev pub IsRange : ℤ → Option ℤ → Type 0
IsRange from None = from ≡ pos 0
IsRange from (Some length) = Unit {0}

-- the greatest limit of a clean-up
abbrev pub sweep_limit : ℕ
sweep_limit = 2147483647

abbrev pub IsSpelled : Request → Type 0
IsSpelled (Savepoint name) = IsName name
IsSpelled (Release name) = IsName name
IsSpelled (RollbackTo name) = IsName name
IsSpelled (LoWrite fd bytes) = length bytes ≤ bytes_limit
IsSpelled (LoGet o from length) = IsRange from length
IsSpelled (LoPut o at bytes) = length bytes ≤ bytes_limit
IsSpelled (LoFromBytea o bytes) = length bytes ≤ bytes_limit
IsSpelled (CreateTable name columns) = IsName name × IsTableColumns columns
IsSpelled (Insert table values) = IsName table × (0 < length values) × AllByRecursion IsLiteral values
IsSpelled (Update table i changes) = IsName table × AreChanges changes
IsSpelled (Delete table i) = IsName table
IsSpelled (Get table i) = IsName table
IsSpelled (Ids table) = IsName table
IsSpelled (Slice table i column from count) = IsName table × IsName column
IsSpelled (Declare cursor table i) = IsName cursor × IsName table
IsSpelled (Fetch cursor column from count) = IsName cursor × IsName column
IsSpelled (Close cursor) = IsName cursor
IsSpelled (Rewrite table storages) = IsName table × AreStorages storages
IsSpelled (Array name text) = IsName name × IsToken text
IsSpelled (Load name table i column) = IsName name × IsName table × IsName column
IsSpelled (Set name sub value) = IsName name
IsSpelled (Elem name sub) = IsName name
IsSpelled (Show name) = IsName name
IsSpelled (Vacuumlo dry limit) = limit ≤ sweep_limit
IsSpelled _ = Unit {0}
