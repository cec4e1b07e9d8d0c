-- The table of causes, each with its code and its text at the subject -7, computed by the checker: a wrong row fails the crate.
use Rattle.std.proofs.Common.{◌≡◌, refl, ℕ, negsuc, List, [], ◌∷◌, map}
use Rattle.std.specs.Prelude.{codes}
use Rattle.std.specs.Fmt.{digits}
use Rattle.lo_base.specs.declared.refusal.Cause.{Cause}
use Rattle.lo_base.specs.declared.refusal.Cause.TheVariants.{Failed, NoBlock, InBlock, NoSavepoint, NoObject, NoDescriptor, NoVariable, NoTable, TableExists, NoColumn, WrongType, NoRow, RowExists, ObjectExists, NoCursor, CursorExists, BadMode, NotWritable, BadWhence, BadSeek, BadTruncate, BadWrite, BadLength, TooMuch, PositionRange, BadArray, TooManyDescriptors, NoOids, TooManyTables, RowTooBig, ArrayTooBig, Busy, PoolShort}
use Rattle.lo_base.specs.Cause.{code_of}
use Rattle.lo_base.specs.Code.{sqlstate_of}
use Rattle.lo_base.specs.Refusal.{text_of}

abbrev code_text : Cause → List ℕ
code_text cause = sqlstate_of (code_of cause)

abbrev text_at_minus_7 : Cause → List ℕ
text_at_minus_7 cause = text_of (record { cause = cause; subject = negsuc 6 })

failed_code : code_text Failed ≡ codes "25P02"
failed_code = refl

failed_text : text_at_minus_7 Failed ≡ codes "current transaction is aborted, commands ignored until end of transaction block"
unfolding digits
failed_text = refl

no_block_code : code_text NoBlock ≡ codes "25P01"
no_block_code = refl

no_block_text : text_at_minus_7 NoBlock ≡ codes "no transaction block is open"
unfolding digits
no_block_text = refl

in_block_code : code_text InBlock ≡ codes "25001"
in_block_code = refl

in_block_text : text_at_minus_7 InBlock ≡ codes "cannot run inside a transaction block"
unfolding digits
in_block_text = refl

no_savepoint_code : code_text NoSavepoint ≡ codes "3B001"
no_savepoint_code = refl

no_savepoint_text : text_at_minus_7 NoSavepoint ≡ codes "savepoint does not exist"
unfolding digits
no_savepoint_text = refl

no_object_code : code_text NoObject ≡ codes "42704"
no_object_code = refl

no_object_text : text_at_minus_7 NoObject ≡ codes "large object -7 does not exist"
unfolding digits
no_object_text = refl

no_descriptor_code : code_text NoDescriptor ≡ codes "42704"
no_descriptor_code = refl

no_descriptor_text : text_at_minus_7 NoDescriptor ≡ codes "invalid large-object descriptor: -7"
unfolding digits
no_descriptor_text = refl

no_variable_code : code_text NoVariable ≡ codes "42704"
no_variable_code = refl

no_variable_text : text_at_minus_7 NoVariable ≡ codes "variable does not exist"
unfolding digits
no_variable_text = refl

no_table_code : code_text NoTable ≡ codes "42P01"
no_table_code = refl

no_table_text : text_at_minus_7 NoTable ≡ codes "table does not exist"
unfolding digits
no_table_text = refl

table_exists_code : code_text TableExists ≡ codes "42P07"
table_exists_code = refl

table_exists_text : text_at_minus_7 TableExists ≡ codes "table already exists"
unfolding digits
table_exists_text = refl

no_column_code : code_text NoColumn ≡ codes "42703"
no_column_code = refl

no_column_text : text_at_minus_7 NoColumn ≡ codes "column does not exist"
unfolding digits
no_column_text = refl

wrong_type_code : code_text WrongType ≡ codes "42804"
wrong_type_code = refl

wrong_type_text : text_at_minus_7 WrongType ≡ codes "value -7 does not fit its column"
unfolding digits
wrong_type_text = refl

no_row_code : code_text NoRow ≡ codes "02000"
no_row_code = refl

no_row_text : text_at_minus_7 NoRow ≡ codes "row -7 does not exist"
unfolding digits
no_row_text = refl

row_exists_code : code_text RowExists ≡ codes "23505"
row_exists_code = refl

row_exists_text : text_at_minus_7 RowExists ≡ codes "row -7 already exists"
unfolding digits
row_exists_text = refl

object_exists_code : code_text ObjectExists ≡ codes "23505"
object_exists_code = refl

object_exists_text : text_at_minus_7 ObjectExists ≡ codes "large object -7 already exists"
unfolding digits
object_exists_text = refl

no_cursor_code : code_text NoCursor ≡ codes "34000"
no_cursor_code = refl

no_cursor_text : text_at_minus_7 NoCursor ≡ codes "cursor does not exist"
unfolding digits
no_cursor_text = refl

cursor_exists_code : code_text CursorExists ≡ codes "42P03"
cursor_exists_code = refl

cursor_exists_text : text_at_minus_7 CursorExists ≡ codes "cursor already exists"
unfolding digits
cursor_exists_text = refl

bad_mode_code : code_text BadMode ≡ codes "22023"
bad_mode_code = refl

bad_mode_text : text_at_minus_7 BadMode ≡ codes "invalid flags for opening a large object: -7"
unfolding digits
bad_mode_text = refl

not_writable_code : code_text NotWritable ≡ codes "55000"
not_writable_code = refl

not_writable_text : text_at_minus_7 NotWritable ≡ codes "large object descriptor -7 was not opened for writing"
unfolding digits
not_writable_text = refl

bad_whence_code : code_text BadWhence ≡ codes "22023"
bad_whence_code = refl

bad_whence_text : text_at_minus_7 BadWhence ≡ codes "invalid whence setting: -7"
unfolding digits
bad_whence_text = refl

bad_seek_code : code_text BadSeek ≡ codes "22023"
bad_seek_code = refl

bad_seek_text : text_at_minus_7 BadSeek ≡ codes "invalid large object seek target: -7"
unfolding digits
bad_seek_text = refl

bad_truncate_code : code_text BadTruncate ≡ codes "22023"
bad_truncate_code = refl

bad_truncate_text : text_at_minus_7 BadTruncate ≡ codes "invalid large object truncation target: -7"
unfolding digits
bad_truncate_text = refl

bad_write_code : code_text BadWrite ≡ codes "22023"
bad_write_code = refl

bad_write_text : text_at_minus_7 BadWrite ≡ codes "invalid large object write request size: -7"
unfolding digits
bad_write_text = refl

bad_length_code : code_text BadLength ≡ codes "22023"
bad_length_code = refl

bad_length_text : text_at_minus_7 BadLength ≡ codes "requested length cannot be negative"
unfolding digits
bad_length_text = refl

too_much_code : code_text TooMuch ≡ codes "22023"
too_much_code = refl

too_much_text : text_at_minus_7 TooMuch ≡ codes "large object read request is too large: -7"
unfolding digits
too_much_text = refl

position_range_code : code_text PositionRange ≡ codes "22003"
position_range_code = refl

position_range_text : text_at_minus_7 PositionRange ≡ codes "result out of range for large-object descriptor -7"
unfolding digits
position_range_text = refl

bad_array_code : code_text BadArray ≡ codes "22P02"
bad_array_code = refl

bad_array_text : text_at_minus_7 BadArray ≡ codes "malformed array literal"
unfolding digits
bad_array_text = refl

too_many_descriptors_code : code_text TooManyDescriptors ≡ codes "54000"
too_many_descriptors_code = refl

too_many_descriptors_text : text_at_minus_7 TooManyDescriptors ≡ codes "too many open large-object descriptors: -7"
unfolding digits
too_many_descriptors_text = refl

no_oids_code : code_text NoOids ≡ codes "54000"
no_oids_code = refl

no_oids_text : text_at_minus_7 NoOids ≡ codes "no large object number is free"
unfolding digits
no_oids_text = refl

too_many_tables_code : code_text TooManyTables ≡ codes "54000"
too_many_tables_code = refl

too_many_tables_text : text_at_minus_7 TooManyTables ≡ codes "too many tables: -7"
unfolding digits
too_many_tables_text = refl

row_too_big_code : code_text RowTooBig ≡ codes "54000"
row_too_big_code = refl

row_too_big_text : text_at_minus_7 RowTooBig ≡ codes "row is too big: size -7, maximum size 8160"
unfolding digits
row_too_big_text = refl

array_too_big_code : code_text ArrayTooBig ≡ codes "54000"
array_too_big_code = refl

array_too_big_text : text_at_minus_7 ArrayTooBig ≡ codes "array size -7 exceeds the maximum allowed (1048576)"
unfolding digits
array_too_big_text = refl

busy_code : code_text Busy ≡ codes "55P03"
busy_code = refl

busy_text : text_at_minus_7 Busy ≡ codes "another transaction holds this: -7"
unfolding digits
busy_text = refl

pool_short_code : code_text PoolShort ≡ codes "53100"
pool_short_code = refl

pool_short_text : text_at_minus_7 PoolShort ≡ codes "no free block: -7 needed"
unfolding digits
pool_short_text = refl
