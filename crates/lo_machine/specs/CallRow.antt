-- The requests on data among all requests: the row of each, and what kind of request it is.
use Rattle.std.specs.Prelude.{Bool, true, false, [], ◌||◌}
use Rattle.lo_base.specs.declared.request.Request.{Request}
use Rattle.lo_base.specs.declared.request.Request.TheVariants.{LoCreat, LoCreate, LoOpen, LoClose, LoRead, LoWrite, LoLseek, LoLseek64, LoTell, LoTell64, LoTruncate, LoTruncate64, LoUnlink, LoGet, LoPut, LoFromBytea, CreateTable, Insert, Update, Delete, Get, Ids, Slice, Declare, Fetch, Close, Rewrite, Array, Load, Set, Elem, Show}
use Rattle.lo_calls.specs.DescriptorRows.{open_row, close_row, read_row, write_row, seek_row, tell_row, truncate_row}
use Rattle.lo_calls.specs.ObjectRows.{create_row, unlink_row, get_row, put_row}
use Rattle.row_tables.specs.CursorRules as cursors
use Rattle.row_tables.specs.RewriteRules.{rewrite_row}
use Rattle.row_tables.specs.RowRules.{create_table_row, delete_row, ids_row, slice_row}
use Rattle.lo_machine.specs.ArrayRows.{array_line, elem_line, load_line, set_line, show_line}
use Rattle.lo_machine.specs.Row.{Here, Row, on_objects, on_tables}
use Rattle.lo_machine.specs.TableRows.{declare_line, get_line, insert_line, update_line}

-- The row of a request on data. What it is of others is of no account.
abbrev pub call_row : Request → Here → Row
call_row (LoCreat mode) = on_objects (create_row 0 [])
call_row (LoCreate o) = on_objects (create_row o [])
call_row (LoOpen o mode) = on_objects (open_row o mode)
call_row (LoClose fd) = on_objects (close_row fd)
call_row (LoRead fd length) = on_objects (read_row fd length)
call_row (LoWrite fd bytes) = on_objects (write_row fd bytes)
call_row (LoLseek fd offset whence) = on_objects (seek_row false fd offset whence)
call_row (LoLseek64 fd offset whence) = on_objects (seek_row true fd offset whence)
call_row (LoTell fd) = on_objects (tell_row false fd)
call_row (LoTell64 fd) = on_objects (tell_row true fd)
call_row (LoTruncate fd size) = on_objects (truncate_row fd size)
call_row (LoTruncate64 fd size) = on_objects (truncate_row fd size)
call_row (LoUnlink o) = on_objects (unlink_row o)
call_row (LoGet o from length) = on_objects (get_row o from length)
call_row (LoPut o at bytes) = on_objects (put_row o at bytes)
call_row (LoFromBytea o bytes) = on_objects (create_row o bytes)
call_row (CreateTable name columns) = on_tables (create_table_row name columns)
call_row (Insert t values) = insert_line t values
call_row (Update t i changes) = update_line t i changes
call_row (Delete t i) = on_tables (delete_row t i)
call_row (Get t i) = get_line t i
call_row (Ids t) = on_tables (ids_row t)
call_row (Slice t i column from length) = on_tables (slice_row t i column from length)
call_row (Declare cursor t i) = declare_line cursor t i
call_row (Fetch cursor column from length) = on_tables (cursors.fetch_row cursor column from length)
call_row (Close cursor) = on_tables (cursors.close_row cursor)
call_row (Rewrite t storages) = on_tables (rewrite_row t storages)
call_row (Array name text) = array_line name text
call_row (Load name t i column) = load_line name t i column
call_row (Set name sub value) = set_line name sub value
call_row (Elem name sub) = elem_line name sub
call_row (Show name) = show_line name
call_row _ = on_objects (create_row 0 [])

-- those that may make edits, tables or cursors

abbrev pub writes_objects : Request → Bool
writes_objects (LoCreat mode) = true
writes_objects (LoCreate o) = true
writes_objects (LoWrite fd bytes) = true
writes_objects (LoTruncate fd size) = true
writes_objects (LoTruncate64 fd size) = true
writes_objects (LoUnlink o) = true
writes_objects (LoPut o at bytes) = true
writes_objects (LoFromBytea o bytes) = true
writes_objects _ = false

abbrev pub writes_rows : Request → Bool
writes_rows (CreateTable name columns) = true
writes_rows (Insert t values) = true
writes_rows (Update t i changes) = true
writes_rows (Delete t i) = true
writes_rows (Declare cursor t i) = true
writes_rows (Rewrite t storages) = true
writes_rows _ = false

abbrev pub writes : Request → Bool
writes r = writes_objects r || writes_rows r

-- those that make none, and look at objects and descriptors, or at tables and cursors

abbrev pub reads_objects : Request → Bool
reads_objects (LoOpen o mode) = true
reads_objects (LoClose fd) = true
reads_objects (LoRead fd length) = true
reads_objects (LoLseek fd offset whence) = true
reads_objects (LoLseek64 fd offset whence) = true
reads_objects (LoTell fd) = true
reads_objects (LoTell64 fd) = true
reads_objects (LoGet o from length) = true
reads_objects _ = false

abbrev pub reads_rows : Request → Bool
reads_rows (Get t i) = true
reads_rows (Ids t) = true
reads_rows (Slice t i column from length) = true
reads_rows (Fetch cursor column from length) = true
reads_rows (Close cursor) = true
reads_rows (Load name t i column) = true
reads_rows _ = false

abbrev pub reads : Request → Bool
reads r = reads_objects r || reads_rows r

-- those on array variables alone
abbrev pub sets : Request → Bool
sets (Array name text) = true
sets (Set name sub value) = true
sets (Elem name sub) = true
sets (Show name) = true
sets _ = false

-- those that need a transaction, and all on data
abbrev pub is_call : Request → Bool
is_call r = writes r || reads r

abbrev pub is_on_data : Request → Bool
is_on_data r = is_call r || sets r
