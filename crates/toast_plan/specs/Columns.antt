-- The columns of a table and the lengths of a row's values.
use Rattle.std.specs.Prelude.{◌≡◌, ◌≢◌, ℕ, ◌≤◌, List, [], ◌∷◌, length, map, codes, Option, Some, None}
use Rattle.std.specs.List.{AllByRecursion}
use Rattle.lo_base.specs.Name.{IsName}
use Rattle.lo_base.specs.declared.column.Column.{Column}
use Rattle.lo_base.specs.declared.column.ColType.{ColType}
use Rattle.lo_base.specs.declared.column.ColType.TheVariants as types
use Rattle.lo_base.specs.declared.column.Storage.{Storage}
use Rattle.lo_base.specs.declared.column.Storage.TheVariants.{Plain}

-- no two of the names are the same
abbrev pub AreDistinct : List (List ℕ) → Type 0
AreDistinct [] = Unit {0}
AreDistinct (name ∷ names) = AllByRecursion (λ other. other ≢ name) names × AreDistinct names

-- the first column: `id`, an int8 that names the row
abbrev pub StartsWithId : List Column → Type 0
StartsWithId [] = ⊥
StartsWithId (c ∷ cs) = (c.name ≡ codes "id") × (c.kind ≡ types.Int8)

-- a value of a type of fixed size always stays in its row
abbrev pub IsPlainIfFixed : ColType → Storage → Type 0
IsPlainIfFixed types.Int8 s = s ≡ Plain
IsPlainIfFixed types.Oid s = s ≡ Plain
IsPlainIfFixed types.Lo s = s ≡ Plain
IsPlainIfFixed types.Bytea s = Unit {0}
IsPlainIfFixed types.Int4Array s = Unit {0}

-- the columns that a `create table` can have: 1 to 32 with `id` in front, each under a name of its own
pub record IsTableColumns (columns : List Column) : Type 0 where
  pub id_first : StartsWithId columns
  pub few : length columns ≤ 32
  pub named : AllByRecursion (λ (c : Column). IsName c.name) columns
  pub distinct : AreDistinct (map (λ (c : Column). c.name) columns)
  pub fixed : AllByRecursion (λ (c : Column). IsPlainIfFixed c.kind c.storage) columns

-- how long a value of the type can be
abbrev pub HasLength : ColType → ℕ → Type 0
HasLength types.Int8 n = n ≡ 8
HasLength types.Oid n = n ≡ 4
HasLength types.Lo n = n ≡ 4
HasLength types.Bytea n = n ≤ 16777216
HasLength types.Int4Array n = n ≤ 16777216

-- a null has no length
abbrev pub HasLengthIfThere : ColType → Option ℕ → Type 0
HasLengthIfThere kind None = Unit {0}
HasLengthIfThere kind (Some n) = HasLength kind n

-- one length for each column
abbrev pub AreLengths : List Column → List (Option ℕ) → Type 0
AreLengths [] [] = Unit {0}
AreLengths [] (n ∷ ns) = ⊥
AreLengths (c ∷ cs) [] = ⊥
AreLengths (c ∷ cs) (n ∷ ns) = HasLengthIfThere c.kind n × AreLengths cs ns
