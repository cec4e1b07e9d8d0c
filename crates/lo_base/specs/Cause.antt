-- The table of causes: the SQLSTATE code of each, and its text round the number that it names, if any. The codes are
-- PostgreSQL's where it has one (manual, appendix PostgreSQL Error Codes).
use Rattle.std.specs.Prelude.{ℕ, List, Option, Some, None, codes}
use Rattle.lo_base.specs.declared.refusal.Cause.{Cause}
use Rattle.lo_base.specs.declared.refusal.Cause.TheVariants.{Failed, NoBlock, InBlock, NoSavepoint, NoObject, NoDescriptor, NoVariable, NoTable, TableExists, NoColumn, WrongType, NoRow, RowExists, ObjectExists, NoCursor, CursorExists, BadMode, NotWritable, BadWhence, BadSeek, BadTruncate, BadWrite, BadLength, TooMuch, PositionRange, BadArray, TooManyDescriptors, NoOids, TooManyTables, RowTooBig, ArrayTooBig, Busy, PoolShort}
use Rattle.lo_base.specs.declared.refusal.Code.{Code}
use Rattle.lo_base.specs.declared.refusal.Code.TheVariants.{C25P02, C25P01, C25001, C3B001, C42704, C42P01, C42P07, C42703, C42804, C02000, C23505, C34000, C42P03, C22023, C55000, C22003, C22P02, C54000, C55P03, C53100}

abbrev pub code_of : Cause → Code
code_of Failed = C25P02
code_of NoBlock = C25P01
code_of InBlock = C25001
code_of NoSavepoint = C3B001
code_of NoObject = C42704
code_of NoDescriptor = C42704
code_of NoVariable = C42704
code_of NoTable = C42P01
code_of TableExists = C42P07
code_of NoColumn = C42703
code_of WrongType = C42804
code_of NoRow = C02000
code_of RowExists = C23505
code_of ObjectExists = C23505
code_of NoCursor = C34000
code_of CursorExists = C42P03
code_of BadMode = C22023
code_of NotWritable = C55000
code_of BadWhence = C22023
code_of BadSeek = C22023
code_of BadTruncate = C22023
code_of BadWrite = C22023
code_of BadLength = C22023
code_of TooMuch = C22023
code_of PositionRange = C22003
code_of BadArray = C22P02
code_of TooManyDescriptors = C54000
code_of NoOids = C54000
code_of TooManyTables = C54000
code_of RowTooBig = C54000
code_of ArrayTooBig = C54000
code_of Busy = C55P03
code_of PoolShort = C53100

-- the text up to its number, or the whole text where it names none
abbrev pub opening_of : Cause → List ℕ
opening_of Failed = codes "current transaction is aborted, commands ignored until end of transaction block"
opening_of NoBlock = codes "no transaction block is open"
opening_of InBlock = codes "cannot run inside a transaction block"
opening_of NoSavepoint = codes "savepoint does not exist"
opening_of NoObject = codes "large object "
opening_of NoDescriptor = codes "invalid large-object descriptor: "
opening_of NoVariable = codes "variable does not exist"
opening_of NoTable = codes "table does not exist"
opening_of TableExists = codes "table already exists"
opening_of NoColumn = codes "column does not exist"
opening_of WrongType = codes "value "
opening_of NoRow = codes "row "
opening_of RowExists = codes "row "
opening_of ObjectExists = codes "large object "
opening_of NoCursor = codes "cursor does not exist"
opening_of CursorExists = codes "cursor already exists"
opening_of BadMode = codes "invalid flags for opening a large object: "
opening_of NotWritable = codes "large object descriptor "
opening_of BadWhence = codes "invalid whence setting: "
opening_of BadSeek = codes "invalid large object seek target: "
opening_of BadTruncate = codes "invalid large object truncation target: "
opening_of BadWrite = codes "invalid large object write request size: "
opening_of BadLength = codes "requested length cannot be negative"
opening_of TooMuch = codes "large object read request is too large: "
opening_of PositionRange = codes "result out of range for large-object descriptor "
opening_of BadArray = codes "malformed array literal"
opening_of TooManyDescriptors = codes "too many open large-object descriptors: "
opening_of NoOids = codes "no large object number is free"
opening_of TooManyTables = codes "too many tables: "
opening_of RowTooBig = codes "row is too big: size "
opening_of ArrayTooBig = codes "array size "
opening_of Busy = codes "another transaction holds this: "
opening_of PoolShort = codes "no free block: "

-- what follows the number, or nothing where the text names none
abbrev pub ending_of : Cause → Option (List ℕ)
ending_of Failed = None
ending_of NoBlock = None
ending_of InBlock = None
ending_of NoSavepoint = None
ending_of NoObject = Some (codes " does not exist")
ending_of NoDescriptor = Some (codes "")
ending_of NoVariable = None
ending_of NoTable = None
ending_of TableExists = None
ending_of NoColumn = None
ending_of WrongType = Some (codes " does not fit its column")
ending_of NoRow = Some (codes " does not exist")
ending_of RowExists = Some (codes " already exists")
ending_of ObjectExists = Some (codes " already exists")
ending_of NoCursor = None
ending_of CursorExists = None
ending_of BadMode = Some (codes "")
ending_of NotWritable = Some (codes " was not opened for writing")
ending_of BadWhence = Some (codes "")
ending_of BadSeek = Some (codes "")
ending_of BadTruncate = Some (codes "")
ending_of BadWrite = Some (codes "")
ending_of BadLength = None
ending_of TooMuch = Some (codes "")
ending_of PositionRange = Some (codes "")
ending_of BadArray = None
ending_of TooManyDescriptors = Some (codes "")
ending_of NoOids = None
ending_of TooManyTables = Some (codes "")
ending_of RowTooBig = Some (codes ", maximum size 8160")
ending_of ArrayTooBig = Some (codes " exceeds the maximum allowed (1048576)")
ending_of Busy = Some (codes "")
ending_of PoolShort = Some (codes " needed")
