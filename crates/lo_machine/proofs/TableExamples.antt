-- Worked examples of the requests on tables and rows, each computed by the checker: a wrong one fails the crate.
use Rattle.std.proofs.Common.{◌≡◌, refl, ℕ, ℤ, pos, negsuc, List, [], ◌∷◌, ◌++◌, Option, None, Some, replicate}
use Rattle.std.specs.Prelude.{codes}
use Rattle.std.specs.Fmt.{digits}
use Rattle.lo_base.specs.declared.column.Column.{Column}
use Rattle.lo_base.specs.declared.column.Storage.TheVariants as storages
use Rattle.lo_base.specs.declared.refusal.Cause.TheVariants.{InBlock, NoVariable, NoObject, NoTable, TableExists, NoColumn, WrongType, NoRow, RowExists, BadLength, BadArray, TooManyTables, RowTooBig, Busy, PoolShort}
use Rattle.lo_base.specs.declared.reply.Reply.TheVariants.{Word, Content, Nothing, Row, Ids as IdsReply, Counted}
use Rattle.lo_base.specs.declared.reply.Word.TheVariants as words
use Rattle.lo_base.specs.declared.request.Assign.{Assign}
use Rattle.lo_base.specs.declared.request.Request.{Request}
use Rattle.lo_base.specs.declared.request.Request.TheVariants.{Begin, Commit, Rollback, LoGet, CreateTable, Insert, Update, Delete, Get, Ids, Slice, Rewrite, Array}
use Rattle.lo_base.specs.declared.value.Cell.TheVariants as cells
use Rattle.lo_base.specs.declared.value.Literal.{Literal}
use Rattle.lo_base.specs.declared.value.Literal.TheVariants.{Null, Number, Bytes, ArrayText, Variable}
use Rattle.lo_model.specs.Edit.{Deed, Put, deeds}
use Rattle.lo_machine.specs.Run.{Moment, end_from, start, started}
use Rattle.lo_machine.proofs.WordsOfExamples.{refused, refused_for, ok, begun, rolled_back, committed, made, inserted, updated, id_column, bytes_column, array_column, number_column, oid_column, lo_column, Turn, by_a, by_b, by_c, Plays, PlaysFrom, programs_in, schedule_in, with_blocks}

abbrev to : (column : List ℕ) → Literal → Assign
to name value = record { column = name; value = value }

abbrev external : (name : List ℕ) → Column
external name = bytes_column name storages.External

-- where values were stored, put by put
abbrev stored_by : Deed → List (List (Option ℕ))
stored_by (Put table i values stored) = stored ∷ []
stored_by _ = []

abbrev stored_by_all : List Deed → List (List (Option ℕ))
stored_by_all [] = []
stored_by_all (d ∷ ds) = stored_by d ++ stored_by_all ds

abbrev stored_at_end : List Turn → List (List (Option ℕ))
stored_at_end turns = stored_by_all (deeds (end_from (programs_in turns) start (schedule_in turns)).state.database.edits)

-- a value of 1996 bytes fills its row up to 2032 bytes, and one of a byte more moves out
abbrev two_rows : List Turn
two_rows =
    by_a (CreateTable (codes "t") (id_column ∷ external (codes "body") ∷ [])) made
    ∷ by_a (Insert (codes "t") (Number (pos 1) ∷ Bytes (replicate 1996 97) ∷ [])) inserted
    ∷ by_a (Insert (codes "t") (Number (pos 2) ∷ Bytes (replicate 1997 98) ∷ [])) inserted
    ∷ by_a (Slice (codes "t") (pos 2) (codes "body") (pos 1990) (pos 10)) (Content (replicate 7 98))
    ∷ by_a (Slice (codes "t") (pos 2) (codes "body") (pos 1997) (pos 5)) (Content [])
    ∷ by_a (Slice (codes "t") (pos 2) (codes "body") (negsuc 0) (pos 5)) (refused_for BadLength (negsuc 0))
    ∷ []

in_the_row_and_outside : Plays two_rows
in_the_row_and_outside = refl

stored_in_the_row_and_outside : stored_at_end two_rows ≡ (None ∷ None ∷ []) ∷ (None ∷ Some 3 ∷ []) ∷ []
stored_in_the_row_and_outside = refl

-- the first of two equal values moves out; a main one moves out only above 8160 bytes, a plain one never
abbrev by_storage : List Turn
by_storage =
    by_a (CreateTable (codes "d") (id_column ∷ external (codes "a") ∷ external (codes "b") ∷ [])) made
    ∷ by_a (Insert (codes "d") (Number (pos 1) ∷ Bytes (replicate 1500 1) ∷ Bytes (replicate 1500 2) ∷ [])) inserted
    ∷ by_a (CreateTable (codes "m") (id_column ∷ bytes_column (codes "v") storages.Main ∷ [])) made
    ∷ by_a (Insert (codes "m") (Number (pos 1) ∷ Bytes (replicate 8124 1) ∷ [])) inserted
    ∷ by_a (Insert (codes "m") (Number (pos 2) ∷ Bytes (replicate 8125 1) ∷ [])) inserted
    ∷ by_a (CreateTable (codes "p") (id_column ∷ bytes_column (codes "v") storages.Plain ∷ [])) made
    ∷ by_a (Insert (codes "p") (Number (pos 1) ∷ Bytes (replicate 8124 1) ∷ [])) inserted
    ∷ by_a (Insert (codes "p") (Number (pos 2) ∷ Bytes (replicate 8125 1) ∷ [])) (refused RowTooBig 8168)
    ∷ by_a (Slice (codes "m") (pos 2) (codes "v") (pos 8124) (pos 9)) (Content (1 ∷ []))
    ∷ []

moved_by_storage : Plays by_storage
moved_by_storage = refl

stored_by_storage : stored_at_end by_storage
    ≡ (None ∷ Some 2 ∷ None ∷ []) ∷ (None ∷ None ∷ []) ∷ (None ∷ Some 5 ∷ []) ∷ (None ∷ None ∷ []) ∷ []
stored_by_storage = refl

-- an update keeps the chunks of a column that it does not name; one that it names is stored anew, with equal bytes too
abbrev updates : List Turn
updates =
    by_a (CreateTable (codes "t") (id_column ∷ external (codes "a") ∷ external (codes "b") ∷ number_column (codes "n") ∷ [])) made
    ∷ by_a (Insert (codes "t") (Number (pos 1) ∷ Bytes (replicate 2000 1) ∷ Bytes (replicate 1990 2) ∷ Null ∷ [])) inserted
    ∷ by_a (Update (codes "t") (pos 1) (to (codes "n") (Number (negsuc 8)) ∷ [])) updated
    ∷ by_a (Update (codes "t") (pos 1) (to (codes "b") (Bytes (replicate 1990 2)) ∷ [])) updated
    ∷ by_a (Update (codes "t") (pos 1) (to (codes "n") Null ∷ to (codes "a") (Bytes (5 ∷ [])) ∷ [])) updated
    ∷ by_a (Get (codes "t") (pos 1)) (Row (cells.Int (pos 1) ∷ cells.Inline (5 ∷ []) ∷ cells.Inline (replicate 1990 2) ∷ cells.Null ∷ []))
    ∷ []

updated_in_part : Plays updates
updated_in_part = refl

stored_by_updates : stored_at_end updates
    ≡ (None ∷ Some 2 ∷ Some 2 ∷ None ∷ []) ∷ (None ∷ Some 2 ∷ Some 2 ∷ None ∷ []) ∷ (None ∷ Some 2 ∷ Some 4 ∷ None ∷ [])
    ∷ (None ∷ None ∷ None ∷ None ∷ []) ∷ []
stored_by_updates = refl

-- create table: inside a block, a name that is there, a thousand tables, another session's block

tables_refused : Plays (
    by_a Begin begun
    ∷ by_a (CreateTable (codes "t") (id_column ∷ [])) (refused InBlock 0)
    ∷ by_a Rollback rolled_back
    ∷ by_a (CreateTable (codes "t") (id_column ∷ [])) made
    ∷ by_a (CreateTable (codes "t") (id_column ∷ external (codes "a") ∷ [])) (refused TableExists 0)
    ∷ by_c Begin begun
    ∷ by_c (LoGet 9 (pos 0) None) (refused NoObject 9)
    ∷ by_b Begin begun
    ∷ by_a (CreateTable (codes "t") (id_column ∷ [])) (refused TableExists 0)
    ∷ by_a (CreateTable (codes "u") (id_column ∷ [])) (refused Busy 2)
    ∷ by_b (CreateTable (codes "t") (id_column ∷ [])) (refused InBlock 0)
    ∷ by_b Rollback rolled_back
    ∷ by_a (CreateTable (codes "u") (id_column ∷ [])) (refused Busy 3)
    ∷ by_c Rollback rolled_back
    ∷ by_a (CreateTable (codes "u") (id_column ∷ [])) made
    ∷ by_b (Ids (codes "u")) (IdsReply [])
    ∷ [])
tables_refused = refl

abbrev with_tables_named_t : (count : ℕ) → Moment
with_tables_named_t count =
    started None (record { edits = []; tables = replicate count (record { name = codes "t"; columns = id_column ∷ [] }); counter = 16384 })

last_table : PlaysFrom (with_tables_named_t 999) (by_a (CreateTable (codes "u") (id_column ∷ [])) made ∷ [])
last_table = refl

too_many_tables : PlaysFrom (with_tables_named_t 1000) (
    by_a (CreateTable (codes "t") (id_column ∷ [])) (refused TableExists 0)
    ∷ by_b Begin begun
    ∷ by_a (CreateTable (codes "u") (id_column ∷ [])) (refused TooManyTables 1000)
    ∷ by_b Commit committed
    ∷ by_a (CreateTable (codes "u") (id_column ∷ [])) (refused TooManyTables 1000)
    ∷ [])
too_many_tables = refl

-- Values: null fits all columns but the id, a number an int8, an oid and a lo in their range, bytes a bytea, a text an array

abbrev of_all_types : Request
of_all_types = CreateTable (codes "t") (id_column ∷ number_column (codes "n") ∷ oid_column (codes "o") ∷ lo_column (codes "l") ∷ external (codes "b") ∷ array_column (codes "v") ∷ [])

abbrev insert_all : (id n o l b v : Literal) → Request
insert_all i n o l b v = Insert (codes "t") (i ∷ n ∷ o ∷ l ∷ b ∷ v ∷ [])

all_types : Plays (
    by_a (Get (codes "t") (pos 1)) (refused NoTable 0)
    ∷ by_a (Ids (codes "t")) (refused NoTable 0)
    ∷ by_a of_all_types made
    ∷ by_a (Get (codes "t") (negsuc 4)) (refused_for NoRow (negsuc 4))
    ∷ by_a (insert_all (Number (pos 7)) Null Null Null Null Null) inserted
    ∷ by_a (insert_all (Number (negsuc 4)) (Number (negsuc 8)) (Number (pos 4294967295)) (Number (pos 0)) (Bytes []) (ArrayText (codes "{3,null}"))) inserted
    ∷ by_a (Get (codes "t") (pos 7)) (Row (cells.Int (pos 7) ∷ cells.Null ∷ cells.Null ∷ cells.Null ∷ cells.Null ∷ cells.Null ∷ []))
    ∷ by_a (Get (codes "t") (negsuc 4)) (Row (cells.Int (negsuc 4) ∷ cells.Int (negsuc 8) ∷ cells.Oid 4294967295 ∷ cells.Oid 0 ∷ cells.Inline [] ∷ cells.Text (codes "{3,NULL}") ∷ []))
    ∷ by_a (insert_all (Number (pos 2)) Null Null Null Null Null) inserted
    ∷ by_a (Ids (codes "t")) (IdsReply (negsuc 4 ∷ pos 2 ∷ pos 7 ∷ []))
    ∷ [])
unfolding digits
all_types = refl

values_refused : Plays (
    by_a of_all_types made
    ∷ by_a (insert_all Null Null Null Null Null Null) (refused WrongType 1)
    ∷ by_a (insert_all (Bytes []) Null Null Null Null Null) (refused WrongType 1)
    ∷ by_a (insert_all (Number (pos 1)) (Bytes []) Null Null Null Null) (refused WrongType 2)
    ∷ by_a (insert_all (Number (pos 1)) Null (Number (pos 4294967296)) Null Null Null) (refused WrongType 3)
    ∷ by_a (insert_all (Number (pos 1)) Null (Number (negsuc 0)) Null Null Null) (refused WrongType 3)
    ∷ by_a (insert_all (Number (pos 1)) Null Null (Number (pos 4294967296)) Null Null) (refused WrongType 4)
    ∷ by_a (insert_all (Number (pos 1)) Null Null (Number (negsuc 0)) Null Null) (refused WrongType 4)
    ∷ by_a (insert_all (Number (pos 1)) Null Null Null (Number (pos 5)) Null) (refused WrongType 5)
    ∷ by_a (insert_all (Number (pos 1)) Null Null Null (ArrayText (codes "{1,")) Null) (refused WrongType 5)
    ∷ by_a (insert_all (Number (pos 1)) Null Null Null Null (Bytes [])) (refused WrongType 6)
    ∷ by_a (insert_all (Number (pos 1)) Null Null Null Null (Number (pos 5))) (refused WrongType 6)
    ∷ by_a (insert_all (Number (pos 1)) Null Null Null Null (ArrayText (codes "{1,"))) (refused BadArray 0)
    ∷ by_a (insert_all (Number (pos 1)) Null (Variable (codes "q")) Null Null (ArrayText (codes "{1,"))) (refused NoVariable 0)
    ∷ by_a (Array (codes "q") (codes "{4}")) ok
    ∷ by_a (insert_all (Number (pos 1)) Null (Variable (codes "q")) Null Null (ArrayText (codes "{1,"))) (refused WrongType 3)
    ∷ by_b (insert_all (Number (pos 1)) Null Null Null Null (Variable (codes "q"))) (refused NoVariable 0)
    ∷ by_a (insert_all (Number (pos 1)) Null Null Null Null (Variable (codes "q"))) inserted
    ∷ by_a (Get (codes "t") (pos 1)) (Row (cells.Int (pos 1) ∷ cells.Null ∷ cells.Null ∷ cells.Null ∷ cells.Null ∷ cells.Text (codes "{4}") ∷ []))
    ∷ [])
unfolding digits
values_refused = refl

-- insert: the table, the number of values, the values in order, a row that is there, its length, who holds it, the pool

abbrev plain_table : Request
plain_table = CreateTable (codes "t") (id_column ∷ array_column (codes "v") ∷ bytes_column (codes "p") storages.Plain ∷ external (codes "b") ∷ [])

abbrev insert_bytes : (id : ℤ) → (plain external : ℕ) → Request
insert_bytes i p b = Insert (codes "t") (Number i ∷ Null ∷ Bytes (replicate p 1) ∷ Bytes (replicate b 2) ∷ [])

inserts_refused : PlaysFrom (with_blocks 1) (
    by_a (Insert (codes "t") (Null ∷ [])) (refused NoTable 0)
    ∷ by_a plain_table made
    ∷ by_a (Insert (codes "t") (Null ∷ Variable (codes "q") ∷ [])) (refused WrongType 2)
    ∷ by_a (Insert (codes "t") (Null ∷ Null ∷ Null ∷ Null ∷ Null ∷ [])) (refused WrongType 5)
    ∷ by_a (insert_bytes (pos 1) 0 0) inserted
    ∷ by_a (Insert (codes "t") (Number (pos 1) ∷ ArrayText (codes "{1,") ∷ Number (pos 3) ∷ Null ∷ [])) (refused BadArray 0)
    ∷ by_a (Insert (codes "t") (Number (pos 1) ∷ Null ∷ Number (pos 3) ∷ Number (pos 3) ∷ [])) (refused WrongType 3)
    ∷ by_a (insert_bytes (pos 1) 9000 0) (refused RowExists 1)
    ∷ by_b Begin begun
    ∷ by_b (insert_bytes (negsuc 1) 0 0) inserted
    ∷ by_b (Update (codes "t") (pos 1) (to (codes "b") Null ∷ [])) updated
    ∷ by_a (insert_bytes (pos 1) 0 0) (refused RowExists 1)
    ∷ by_a (insert_bytes (negsuc 1) 8200 0) (refused RowTooBig 8240)
    ∷ by_a (insert_bytes (negsuc 1) 0 3993) (refused Busy 2)
    ∷ by_a (insert_bytes (pos 2) 0 0) inserted
    ∷ by_b Commit committed
    ∷ by_a (insert_bytes (negsuc 1) 0 0) (refused_for RowExists (negsuc 1))
    ∷ by_a (insert_bytes (pos 3) 0 3993) (refused PoolShort 3)
    ∷ by_a (insert_bytes (pos 3) 0 1996) inserted
    ∷ by_a (insert_bytes (pos 4) 2000 1996) (refused PoolShort 1)
    ∷ by_a (insert_bytes (pos 4) 2000 9) inserted
    ∷ [])
inserts_refused = refl

-- update: the table, the row, the changes one after the other, the length, who holds the row, the pool

updates_refused : PlaysFrom (with_blocks 1) (
    by_a (Update (codes "t") (pos 9) (to (codes "x") Null ∷ [])) (refused NoTable 0)
    ∷ by_a plain_table made
    ∷ by_a (insert_bytes (pos 1) 0 0) inserted
    ∷ by_a (Update (codes "t") (pos 9) (to (codes "x") Null ∷ [])) (refused NoRow 9)
    ∷ by_a (Update (codes "t") (pos 1) (to (codes "p") Null ∷ to (codes "x") (Variable (codes "q")) ∷ to (codes "b") (Number (pos 1)) ∷ [])) (refused NoColumn 2)
    ∷ by_a (Update (codes "t") (pos 1) (to (codes "p") Null ∷ to (codes "b") (Number (pos 1)) ∷ to (codes "x") Null ∷ [])) (refused WrongType 2)
    ∷ by_a (Update (codes "t") (pos 1) (to (codes "v") (ArrayText (codes "1")) ∷ to (codes "x") Null ∷ [])) (refused BadArray 0)
    ∷ by_a (Update (codes "t") (pos 1) (to (codes "b") (Variable (codes "q")) ∷ to (codes "x") Null ∷ [])) (refused NoVariable 0)
    ∷ by_a (Update (codes "t") (pos 1) (to (codes "id") (Variable (codes "q")) ∷ [])) (refused NoVariable 0)
    ∷ by_a (Update (codes "t") (pos 1) (to (codes "p") Null ∷ to (codes "id") (Number (pos 1)) ∷ [])) (refused WrongType 2)
    ∷ by_a (Update (codes "t") (pos 1) (to (codes "p") (Bytes (replicate 9000 1)) ∷ to (codes "x") Null ∷ [])) (refused NoColumn 2)
    ∷ by_b Begin begun
    ∷ by_b (Update (codes "t") (pos 1) (to (codes "p") (Bytes (3 ∷ [])) ∷ [])) updated
    ∷ by_a (Update (codes "t") (pos 1) (to (codes "p") (Bytes (replicate 8200 1)) ∷ [])) (refused RowTooBig 8240)
    ∷ by_a (Update (codes "t") (pos 1) (to (codes "b") (Bytes (replicate 3993 1)) ∷ [])) (refused Busy 2)
    ∷ by_a (Get (codes "t") (pos 1)) (Row (cells.Int (pos 1) ∷ cells.Null ∷ cells.Inline [] ∷ cells.Inline [] ∷ []))
    ∷ by_b (Get (codes "t") (pos 1)) (Row (cells.Int (pos 1) ∷ cells.Null ∷ cells.Inline (3 ∷ []) ∷ cells.Inline [] ∷ []))
    ∷ by_b Rollback rolled_back
    ∷ by_a (Update (codes "t") (pos 1) (to (codes "b") (Bytes (replicate 3993 1)) ∷ [])) (refused PoolShort 3)
    ∷ by_a (Update (codes "t") (pos 1) (to (codes "b") (Bytes (4 ∷ [])) ∷ [])) updated
    ∷ by_a (Get (codes "t") (pos 1)) (Row (cells.Int (pos 1) ∷ cells.Null ∷ cells.Inline [] ∷ cells.Inline (4 ∷ []) ∷ []))
    ∷ [])
updates_refused = refl

-- delete: the table, the row in the current view, who holds it

deletes : Plays (
    by_a (Delete (codes "t") (pos 1)) (refused NoTable 0)
    ∷ by_a plain_table made
    ∷ by_a (insert_bytes (pos 1) 0 0) inserted
    ∷ by_a (Delete (codes "t") (pos 2)) (refused NoRow 2)
    ∷ by_b Begin begun
    ∷ by_b (insert_bytes (pos 2) 0 0) inserted
    ∷ by_b (Delete (codes "t") (pos 1)) (Word words.Delete)
    ∷ by_b (Ids (codes "t")) (IdsReply (pos 2 ∷ []))
    ∷ by_a (Ids (codes "t")) (IdsReply (pos 1 ∷ []))
    ∷ by_a (Delete (codes "t") (pos 1)) (refused Busy 2)
    ∷ by_a (Delete (codes "t") (pos 2)) (refused NoRow 2)
    ∷ by_b Rollback rolled_back
    ∷ by_a (Delete (codes "t") (pos 1)) (Word words.Delete)
    ∷ by_a (Get (codes "t") (pos 1)) (refused NoRow 1)
    ∷ by_a (insert_bytes (pos 1) 1 1) inserted
    ∷ [])
deletes = refl

-- slice: the table, the row, the column, its type, the first number, the second; a null value gives null

slices_refused : Plays (
    by_a (Slice (codes "t") (pos 9) (codes "x") (negsuc 0) (negsuc 0)) (refused NoTable 0)
    ∷ by_a plain_table made
    ∷ by_a (Insert (codes "t") (Number (pos 1) ∷ ArrayText (codes "{1}") ∷ Null ∷ Bytes (codes "abc") ∷ [])) inserted
    ∷ by_a (Slice (codes "t") (pos 9) (codes "x") (negsuc 0) (negsuc 0)) (refused NoRow 9)
    ∷ by_a (Slice (codes "t") (pos 1) (codes "x") (negsuc 0) (negsuc 0)) (refused NoColumn 2)
    ∷ by_a (Slice (codes "t") (pos 1) (codes "v") (negsuc 0) (negsuc 0)) (refused WrongType 2)
    ∷ by_a (Slice (codes "t") (pos 1) (codes "id") (pos 0) (pos 1)) (refused WrongType 2)
    ∷ by_a (Slice (codes "t") (pos 1) (codes "b") (negsuc 4) (negsuc 6)) (refused_for BadLength (negsuc 4))
    ∷ by_a (Slice (codes "t") (pos 1) (codes "b") (pos 0) (negsuc 6)) (refused_for BadLength (negsuc 6))
    ∷ by_a (Slice (codes "t") (pos 1) (codes "p") (pos 0) (negsuc 6)) (refused_for BadLength (negsuc 6))
    ∷ by_a (Slice (codes "t") (pos 1) (codes "p") (pos 0) (pos 6)) Nothing
    ∷ by_a (Slice (codes "t") (pos 1) (codes "b") (pos 1) (pos 1)) (Content (codes "b"))
    ∷ by_a (Slice (codes "t") (pos 1) (codes "b") (pos 1) (pos 9)) (Content (codes "bc"))
    ∷ by_a (Slice (codes "t") (pos 1) (codes "b") (pos 1) (pos 0)) (Content [])
    ∷ [])
slices_refused = refl

-- rewrite: inside a block, the table, the columns one after the other, the length of the row with the least id, who holds a
-- row, be it seen or not, the pool

abbrev storage : (name : List ℕ) → Column
storage name = bytes_column name storages.Plain

rewrites_refused : PlaysFrom (with_blocks 10) (
    by_a (Rewrite (codes "t") (storage (codes "x") ∷ [])) (refused NoTable 0)
    ∷ by_a plain_table made
    ∷ by_a Begin begun
    ∷ by_a (Rewrite (codes "u") (storage (codes "b") ∷ [])) (refused InBlock 0)
    ∷ by_a Rollback rolled_back
    ∷ by_a (insert_bytes (pos 2) 0 8300) inserted
    ∷ by_a (insert_bytes (pos 1) 0 8200) inserted
    ∷ by_a (insert_bytes (negsuc 0) 0 9) inserted
    ∷ by_a (Rewrite (codes "t") (storage (codes "b") ∷ storage (codes "x") ∷ storage (codes "id") ∷ [])) (refused NoColumn 2)
    ∷ by_a (Rewrite (codes "t") (storage (codes "v") ∷ storage (codes "id") ∷ storage (codes "x") ∷ [])) (refused WrongType 2)
    ∷ by_b Begin begun
    ∷ by_b (insert_bytes (pos 9) 0 0) inserted
    ∷ by_a (Rewrite (codes "t") (storage (codes "b") ∷ [])) (refused RowTooBig 8240)
    ∷ by_a (Rewrite (codes "t") (bytes_column (codes "v") storages.Main ∷ [])) (refused Busy 2)
    ∷ by_b Rollback rolled_back
    ∷ by_a (Rewrite (codes "t") (bytes_column (codes "v") storages.Main ∷ [])) (refused PoolShort 10)
    ∷ by_a (Delete (codes "t") (pos 2)) (Word words.Delete)
    ∷ by_a (Rewrite (codes "t") (bytes_column (codes "v") storages.Main ∷ [])) (Counted words.Rewrite 2)
    ∷ by_a (Insert (codes "t") (Number (pos 5) ∷ Bytes [] ∷ Null ∷ Null ∷ [])) (refused WrongType 2)
    ∷ by_a (Insert (codes "t") (Number (pos 5) ∷ ArrayText (codes "{1}") ∷ Null ∷ Null ∷ [])) inserted
    ∷ [])
rewrites_refused = refl

-- values are stored anew by the new storages, which later inserts follow, and of every row
abbrev rewritten : List Turn
rewritten =
    by_a (CreateTable (codes "t") (id_column ∷ external (codes "a") ∷ external (codes "b") ∷ [])) made
    ∷ by_a (Insert (codes "t") (Number (pos 2) ∷ Bytes (replicate 2000 1) ∷ Bytes (replicate 2000 2) ∷ [])) inserted
    ∷ by_a (Insert (codes "t") (Number (pos 1) ∷ Bytes [] ∷ Bytes [] ∷ [])) inserted
    ∷ by_a (Rewrite (codes "t") (bytes_column (codes "a") storages.Main ∷ [])) (Counted words.Rewrite 2)
    ∷ by_a (Insert (codes "t") (Number (pos 3) ∷ Bytes (replicate 2000 1) ∷ Bytes (replicate 2000 2) ∷ [])) inserted
    ∷ by_a (Get (codes "t") (pos 2)) (Row (cells.Int (pos 2) ∷ cells.Inline (replicate 2000 1) ∷ cells.Inline (replicate 2000 2) ∷ []))
    ∷ by_a (Ids (codes "t")) (IdsReply (pos 1 ∷ pos 2 ∷ pos 3 ∷ []))
    ∷ []

rewritten_anew : Plays rewritten
rewritten_anew = refl

stored_by_rewrite : stored_at_end rewritten
    ≡ (None ∷ Some 2 ∷ Some 2 ∷ []) ∷ (None ∷ None ∷ None ∷ []) ∷ (None ∷ None ∷ None ∷ []) ∷ (None ∷ None ∷ Some 4 ∷ [])
    ∷ (None ∷ None ∷ Some 5 ∷ []) ∷ []
stored_by_rewrite = refl
