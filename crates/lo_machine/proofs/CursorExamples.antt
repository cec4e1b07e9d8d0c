-- Worked examples of the requests on cursors, each computed by the checker: a wrong one fails the crate.
use Rattle.std.proofs.Common.{refl, pos, negsuc, [], ◌∷◌, replicate}
use Rattle.std.specs.Prelude.{codes}
use Rattle.lo_base.specs.declared.column.Storage.TheVariants as storages
use Rattle.lo_base.specs.declared.refusal.Cause.TheVariants.{Failed, NoBlock, NoTable, NoColumn, WrongType, NoRow, BadLength, NoCursor, CursorExists}
use Rattle.lo_base.specs.declared.reply.Reply.{Reply}
use Rattle.lo_base.specs.declared.reply.Reply.TheVariants.{Word, Content, Nothing, Counted}
use Rattle.lo_base.specs.declared.reply.Word.TheVariants as words
use Rattle.lo_base.specs.declared.request.Request.{Request}
use Rattle.lo_base.specs.declared.request.Request.TheVariants.{Begin, Commit, Rollback, Savepoint, Release, RollbackTo, CreateTable, Insert, Update, Delete, Declare, Fetch, Close, Rewrite, Slice}
use Rattle.lo_base.specs.declared.value.Literal.TheVariants.{Null, Number, Bytes}
use Rattle.lo_machine.proofs.WordsOfExamples.{refused, refused_for, begun, rolled_back, committed, saved, made, inserted, updated, id_column, bytes_column, by_a, by_b, Plays}

abbrev declared : Reply
declared = Word words.Declare

abbrev table_made : Request
table_made = CreateTable (codes "t") (id_column ∷ bytes_column (codes "b") storages.External ∷ [])

-- a cursor goes on reading the row that a rewrite has stored anew
beside_a_rewrite : Plays (
    by_a table_made made
    ∷ by_a (Insert (codes "t") (Number (pos 1) ∷ Bytes (replicate 1996 97) ∷ [])) inserted
    ∷ by_a (Insert (codes "t") (Number (pos 2) ∷ Bytes (replicate 1997 98) ∷ [])) inserted
    ∷ by_a Begin begun
    ∷ by_a (Declare (codes "c") (codes "t") (pos 2)) declared
    ∷ by_b (Rewrite (codes "t") (bytes_column (codes "b") storages.Main ∷ [])) (Counted words.Rewrite 2)
    ∷ by_a (Fetch (codes "c") (codes "b") (pos 1990) (pos 10)) (Content (replicate 7 98))
    ∷ [])
beside_a_rewrite = refl

-- a cursor has the own edits made before its declaration, and no edit made after
row_as_declared : Plays (
    by_a table_made made
    ∷ by_a (Insert (codes "t") (Number (pos 1) ∷ Bytes (codes "one") ∷ [])) inserted
    ∷ by_a Begin begun
    ∷ by_a (Declare (codes "c") (codes "t") (pos 1)) declared
    ∷ by_a (Update (codes "t") (pos 1) (record { column = codes "b"; value = Bytes (codes "two") } ∷ [])) updated
    ∷ by_a (Declare (codes "d") (codes "t") (pos 1)) declared
    ∷ by_a (Delete (codes "t") (pos 1)) (Word words.Delete)
    ∷ by_a (Fetch (codes "c") (codes "b") (pos 0) (pos 9)) (Content (codes "one"))
    ∷ by_a (Fetch (codes "d") (codes "b") (pos 1) (pos 9)) (Content (codes "wo"))
    ∷ by_a (Close (codes "c")) (Word words.Close)
    ∷ by_a (Fetch (codes "d") (codes "b") (pos 0) (pos 1)) (Content (codes "t"))
    ∷ by_a (Declare (codes "c") (codes "t") (pos 1)) (refused NoRow 1)
    ∷ [])
row_as_declared = refl

beside_a_deletion : Plays (
    by_a table_made made
    ∷ by_a (Insert (codes "t") (Number (pos 1) ∷ Bytes (codes "one") ∷ [])) inserted
    ∷ by_a Begin begun
    ∷ by_a (Declare (codes "c") (codes "t") (pos 1)) declared
    ∷ by_b (Delete (codes "t") (pos 1)) (Word words.Delete)
    ∷ by_b (Insert (codes "t") (Number (pos 1) ∷ Bytes (codes "two") ∷ [])) inserted
    ∷ by_a (Fetch (codes "c") (codes "b") (pos 0) (pos 9)) (Content (codes "one"))
    ∷ by_a (Slice (codes "t") (pos 1) (codes "b") (pos 0) (pos 9)) (Content (codes "two"))
    ∷ by_a Commit committed
    ∷ by_a (Fetch (codes "c") (codes "b") (pos 0) (pos 9)) (refused NoCursor 0)
    ∷ by_a Begin begun
    ∷ by_a (Fetch (codes "c") (codes "b") (pos 0) (pos 9)) (refused NoCursor 0)
    ∷ [])
beside_a_deletion = refl

-- levels of cursors: closed with their level or by a refusal in it, given down at a release
closed_with_their_level : Plays (
    by_a table_made made
    ∷ by_a (Insert (codes "t") (Number (pos 1) ∷ Bytes (codes "one") ∷ [])) inserted
    ∷ by_a Begin begun
    ∷ by_a (Declare (codes "a") (codes "t") (pos 1)) declared
    ∷ by_a (Savepoint (codes "o")) saved
    ∷ by_a (Savepoint (codes "s")) saved
    ∷ by_a (Declare (codes "c") (codes "t") (pos 1)) declared
    ∷ by_a (RollbackTo (codes "s")) rolled_back
    ∷ by_a (Declare (codes "c") (codes "t") (pos 1)) declared
    ∷ by_a (Release (codes "s")) (Word words.Release)
    ∷ by_a (Fetch (codes "c") (codes "b") (pos 0) (pos 1)) (Content (codes "o"))
    ∷ by_a (Savepoint (codes "s")) saved
    ∷ by_a (Declare (codes "d") (codes "t") (pos 1)) declared
    ∷ by_a (Declare (codes "c") (codes "t") (pos 1)) (refused CursorExists 0)
    ∷ by_a (RollbackTo (codes "s")) rolled_back
    ∷ by_a (Declare (codes "d") (codes "t") (pos 1)) declared
    ∷ by_a (RollbackTo (codes "o")) rolled_back
    ∷ by_a (Declare (codes "c") (codes "t") (pos 1)) declared
    ∷ by_a (Fetch (codes "a") (codes "b") (pos 0) (pos 1)) (Content (codes "o"))
    ∷ by_a (Close (codes "d")) (refused NoCursor 0)
    ∷ [])
closed_with_their_level = refl

-- declare: outside a block, the table, the row, a cursor of that name
declares_refused : Plays (
    by_a (Declare (codes "c") (codes "t") (pos 9)) (refused NoBlock 0)
    ∷ by_a Begin begun
    ∷ by_a (Declare (codes "c") (codes "t") (pos 9)) (refused NoTable 0)
    ∷ by_a Rollback rolled_back
    ∷ by_a table_made made
    ∷ by_a (Insert (codes "t") (Number (pos 1) ∷ Null ∷ [])) inserted
    ∷ by_a Begin begun
    ∷ by_a (Declare (codes "c") (codes "t") (pos 1)) declared
    ∷ by_a (Savepoint (codes "s")) saved
    ∷ by_a (Declare (codes "c") (codes "u") (pos 1)) (refused NoTable 0)
    ∷ by_a (RollbackTo (codes "s")) rolled_back
    ∷ by_a (Declare (codes "c") (codes "t") (pos 9)) (refused NoRow 9)
    ∷ by_a (RollbackTo (codes "s")) rolled_back
    ∷ by_a (Declare (codes "c") (codes "t") (pos 1)) (refused CursorExists 0)
    ∷ by_a (RollbackTo (codes "s")) rolled_back
    ∷ by_b Begin begun
    ∷ by_b (Declare (codes "c") (codes "t") (pos 1)) declared
    ∷ by_a (Close (codes "c")) (Word words.Close)
    ∷ by_a (Declare (codes "c") (codes "t") (pos 1)) declared
    ∷ by_b (Close (codes "d")) (refused NoCursor 0)
    ∷ by_b (Close (codes "c")) (refused Failed 0)
    ∷ [])
declares_refused = refl

-- fetch: the cursor, the column, its type, the first number, the second; a null value gives null
fetches_refused : Plays (
    by_a table_made made
    ∷ by_a (Insert (codes "t") (Number (pos 1) ∷ Null ∷ [])) inserted
    ∷ by_a Begin begun
    ∷ by_a (Declare (codes "c") (codes "t") (pos 1)) declared
    ∷ by_a (Savepoint (codes "s")) saved
    ∷ by_a (Fetch (codes "d") (codes "x") (negsuc 0) (negsuc 0)) (refused NoCursor 0)
    ∷ by_a (RollbackTo (codes "s")) rolled_back
    ∷ by_a (Fetch (codes "c") (codes "x") (negsuc 0) (negsuc 0)) (refused NoColumn 2)
    ∷ by_a (RollbackTo (codes "s")) rolled_back
    ∷ by_a (Fetch (codes "c") (codes "id") (negsuc 0) (negsuc 0)) (refused WrongType 2)
    ∷ by_a (RollbackTo (codes "s")) rolled_back
    ∷ by_a (Fetch (codes "c") (codes "b") (negsuc 4) (negsuc 6)) (refused_for BadLength (negsuc 4))
    ∷ by_a (RollbackTo (codes "s")) rolled_back
    ∷ by_a (Fetch (codes "c") (codes "b") (pos 0) (negsuc 6)) (refused_for BadLength (negsuc 6))
    ∷ by_a (RollbackTo (codes "s")) rolled_back
    ∷ by_a (Fetch (codes "c") (codes "b") (pos 0) (pos 6)) Nothing
    ∷ by_b (Fetch (codes "c") (codes "b") (pos 0) (pos 6)) (refused NoCursor 0)
    ∷ [])
fetches_refused = refl
