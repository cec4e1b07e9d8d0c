-- What a line spells, said by printing: the tokens that can be written in one way alone, and those behind them.
use Rattle.std.specs.Prelude.{◌≡◌, ℕ, true, false, [], ◌∷◌, ◌++◌, Some, None, codes}
use Rattle.std.specs.Fmt.{decimal, signed_decimal}
use Rattle.std.specs.List.{AllByRecursion}
use Rattle.hex.specs.Hex.{IsBytes}
use Rattle.lo_base.specs.declared.request.Request.{Request}
use Rattle.lo_base.specs.declared.request.Request.TheVariants.{Begin, Commit, Rollback, Savepoint, Release, RollbackTo, LoCreat, LoCreate, LoOpen, LoClose, LoRead, LoWrite, LoLseek, LoLseek64, LoTell, LoTell64, LoTruncate, LoTruncate64, LoUnlink, LoGet, LoPut, LoFromBytea, CreateTable, Insert, Update, Delete, Get, Ids, Slice, Declare, Fetch, Close, Rewrite, Vacuum, Array, Load, Set, Elem, Show, Vacuumlo, Step, Finish}
use Rattle.lo_machine.specs.Spelled.{IsSpelled}
use Rattle.lo_script.specs.Form.{request_of}
use Rattle.lo_script.specs.Reading.{Read}
use Rattle.lo_script.specs.SpelledValues.{IsOid, IsInt4, IsInt8, IsElement, IsLiteralInRange, IsChangeInRange, element_text, SpellAll, SpellsBytes, SpellsLiteral, SpellsColumn, SpellsStorage, SpellsChange}
use Rattle.lo_script.specs.SweepForm.{is_of_sweep}
use Rattle.lo_script.specs.Token.{TokenList}

-- the numbers and the bytes of a request are in the ranges of their types
abbrev pub HasRanges : Request → Type 0
HasRanges (LoCreat mode) = IsInt4 mode
HasRanges (LoCreate oid) = IsOid oid
HasRanges (LoOpen oid mode) = IsOid oid × IsInt4 mode
HasRanges (LoUnlink oid) = IsOid oid
HasRanges (LoGet oid from None) = IsOid oid
HasRanges (LoGet oid from (Some count)) = IsOid oid × IsInt8 from × IsInt4 count
HasRanges (LoPut oid at bytes) = IsOid oid × IsInt8 at × IsBytes bytes
HasRanges (LoFromBytea oid bytes) = IsOid oid × IsBytes bytes
HasRanges (LoClose fd) = IsInt4 fd
HasRanges (LoRead fd count) = IsInt4 fd × IsInt4 count
HasRanges (LoWrite fd bytes) = IsInt4 fd × IsBytes bytes
HasRanges (LoLseek fd offset whence) = IsInt4 fd × IsInt4 offset × IsInt4 whence
HasRanges (LoLseek64 fd offset whence) = IsInt4 fd × IsInt8 offset × IsInt4 whence
HasRanges (LoTell fd) = IsInt4 fd
HasRanges (LoTell64 fd) = IsInt4 fd
HasRanges (LoTruncate fd size) = IsInt4 fd × IsInt4 size
HasRanges (LoTruncate64 fd size) = IsInt4 fd × IsInt8 size
HasRanges (Insert table values) = AllByRecursion IsLiteralInRange values
HasRanges (Update table id changes) = IsInt8 id × AllByRecursion IsChangeInRange changes
HasRanges (Delete table id) = IsInt8 id
HasRanges (Get table id) = IsInt8 id
HasRanges (Slice table id column from count) = IsInt8 id × IsInt8 from × IsInt8 count
HasRanges (Declare cursor table id) = IsInt8 id
HasRanges (Fetch cursor column from count) = IsInt8 from × IsInt8 count
HasRanges (Load name table id column) = IsInt8 id
HasRanges (Set name sub element) = IsInt4 sub × IsElement element
HasRanges (Elem name sub) = IsInt4 sub
HasRanges _ = Unit {0}

-- a request that can be spelled, with numbers and bytes in their ranges
abbrev pub IsWritable : Request → Type 0
IsWritable r = IsSpelled r × HasRanges r

-- the tokens of a request up to those that may be spelled in more than one way
abbrev pub printed : Request → TokenList
printed Begin = codes "begin" ∷ []
printed Commit = codes "commit" ∷ []
printed Rollback = codes "rollback" ∷ []
printed (Savepoint name) = codes "savepoint" ∷ name ∷ []
printed (Release name) = codes "release" ∷ name ∷ []
printed (RollbackTo name) = codes "rollback" ∷ codes "to" ∷ name ∷ []
printed (LoCreat mode) = codes "lo_creat" ∷ signed_decimal mode ∷ []
printed (LoCreate oid) = codes "lo_create" ∷ decimal oid ∷ []
printed (LoOpen oid mode) = codes "lo_open" ∷ decimal oid ∷ signed_decimal mode ∷ []
printed (LoUnlink oid) = codes "lo_unlink" ∷ decimal oid ∷ []
printed (LoGet oid from None) = codes "lo_get" ∷ decimal oid ∷ []
printed (LoGet oid from (Some count)) = codes "lo_get" ∷ decimal oid ∷ signed_decimal from ∷ signed_decimal count ∷ []
printed (LoPut oid at bytes) = codes "lo_put" ∷ decimal oid ∷ signed_decimal at ∷ []
printed (LoFromBytea oid bytes) = codes "lo_from_bytea" ∷ decimal oid ∷ []
printed (LoClose fd) = codes "lo_close" ∷ signed_decimal fd ∷ []
printed (LoRead fd count) = codes "lo_read" ∷ signed_decimal fd ∷ signed_decimal count ∷ []
printed (LoWrite fd bytes) = codes "lo_write" ∷ signed_decimal fd ∷ []
printed (LoLseek fd offset whence) = codes "lo_lseek" ∷ signed_decimal fd ∷ signed_decimal offset ∷ signed_decimal whence ∷ []
printed (LoLseek64 fd offset whence) = codes "lo_lseek64" ∷ signed_decimal fd ∷ signed_decimal offset ∷ signed_decimal whence ∷ []
printed (LoTell fd) = codes "lo_tell" ∷ signed_decimal fd ∷ []
printed (LoTell64 fd) = codes "lo_tell64" ∷ signed_decimal fd ∷ []
printed (LoTruncate fd size) = codes "lo_truncate" ∷ signed_decimal fd ∷ signed_decimal size ∷ []
printed (LoTruncate64 fd size) = codes "lo_truncate64" ∷ signed_decimal fd ∷ signed_decimal size ∷ []
printed (CreateTable name columns) = codes "create" ∷ codes "table" ∷ name ∷ []
printed (Insert table values) = codes "insert" ∷ table ∷ []
printed (Update table id changes) = codes "update" ∷ table ∷ signed_decimal id ∷ []
printed (Delete table id) = codes "delete" ∷ table ∷ signed_decimal id ∷ []
printed (Get table id) = codes "get" ∷ table ∷ signed_decimal id ∷ []
printed (Ids table) = codes "ids" ∷ table ∷ []
printed (Slice table id column from count) = codes "slice" ∷ table ∷ signed_decimal id ∷ column ∷ signed_decimal from ∷ signed_decimal count ∷ []
printed (Declare cursor table id) = codes "declare" ∷ cursor ∷ table ∷ signed_decimal id ∷ []
printed (Fetch cursor column from count) = codes "fetch" ∷ cursor ∷ column ∷ signed_decimal from ∷ signed_decimal count ∷ []
printed (Close cursor) = codes "close" ∷ cursor ∷ []
printed (Rewrite table storages) = codes "rewrite" ∷ table ∷ []
printed Vacuum = codes "vacuum" ∷ []
printed (Array name text) = codes "array" ∷ name ∷ text ∷ []
printed (Load name table id column) = codes "load" ∷ name ∷ table ∷ signed_decimal id ∷ column ∷ []
printed (Set name sub element) = codes "set" ∷ name ∷ signed_decimal sub ∷ element_text element ∷ []
printed (Elem name sub) = codes "elem" ∷ name ∷ signed_decimal sub ∷ []
printed (Show name) = codes "show" ∷ name ∷ []
printed (Vacuumlo true limit) = codes "vacuumlo" ∷ codes "-n" ∷ decimal limit ∷ []
printed (Vacuumlo false limit) = codes "vacuumlo" ∷ decimal limit ∷ []
printed Step = codes "step" ∷ []
printed Finish = codes "finish" ∷ []

-- the tokens behind those: bytes, and lists of values, of columns and of changes, each of which may be spelled in more than one way
abbrev pub SpellRest : Request → TokenList → Type 0
SpellRest (LoWrite fd bytes) rest = SpellAll SpellsBytes rest (bytes ∷ [])
SpellRest (LoPut oid at bytes) rest = SpellAll SpellsBytes rest (bytes ∷ [])
SpellRest (LoFromBytea oid bytes) rest = SpellAll SpellsBytes rest (bytes ∷ [])
SpellRest (CreateTable name columns) rest = SpellAll SpellsColumn rest columns
SpellRest (Insert table values) rest = SpellAll SpellsLiteral rest values
SpellRest (Update table id changes) rest = SpellAll SpellsChange rest changes
SpellRest (Rewrite table storages) rest = SpellAll SpellsStorage rest storages
SpellRest _ rest = rest ≡ []

-- the tokens spell the request
pub record Spells (r : Request) (tokens : TokenList) : Type 0 where
  pub rest : TokenList
  pub is : tokens ≡ printed r ++ rest
  pub spell_rest : SpellRest r rest

-- the tokens spell a request that can be spelled, whose numbers and bytes are in their ranges
abbrev pub SpellsServed : Request → TokenList → Type 0
SpellsServed r tokens = IsSpelled r × HasRanges r × Spells r tokens

-- some tokens spell the request where it may stand, wherever in a line they begin
pub record HasSpelling (r : Request) : Type 0 where
  pub tokens : TokenList
  pub spelled : (column : ℕ) → request_of (is_of_sweep r) column tokens ≡ Read r
