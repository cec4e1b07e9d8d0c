-- Worked examples of what the pool holds and of what it refuses, each computed by the checker: a wrong one fails the crate.
use Rattle.std.proofs.Common.{refl, ℕ, pos, [], ◌∷◌, ◌++◌, Some, replicate}
use Rattle.std.specs.Prelude.{codes}
use Rattle.lo_base.specs.declared.column.Storage.TheVariants as storages
use Rattle.lo_base.specs.declared.refusal.Cause.TheVariants.{NoObject, PoolShort}
use Rattle.lo_base.specs.declared.reply.Reply.TheVariants.{Word, Content, Counted}
use Rattle.lo_base.specs.declared.reply.Word.TheVariants as words
use Rattle.lo_base.specs.declared.request.Request.{Request}
use Rattle.lo_base.specs.declared.request.Request.TheVariants.{Begin, Commit, Rollback, Savepoint, Release, RollbackTo, LoCreate, LoOpen, LoClose, LoTruncate, LoUnlink, LoPut, LoFromBytea, CreateTable, Insert, Update, Delete, Slice, Declare, Close, Rewrite, Vacuum}
use Rattle.lo_base.specs.declared.value.Literal.TheVariants.{Number, Bytes}
use Rattle.lo_model.specs.declared.owner.Owner.TheVariants.{Committed}
use Rattle.lo_model.specs.Edit.{Create, Write, edits_by}
use Rattle.lo_machine.specs.Run.{Moment, started}
use Rattle.lo_machine.proofs.WordsOfExamples.{refused, number, ok, begun, rolled_back, committed, saved, made, inserted, updated, id_column, bytes_column, number_column, by_a, by_b, PlaysFrom, with_blocks}

abbrev put : (oid byte : ℕ) → Request
put o byte = LoPut o (pos 0) (byte ∷ [])

-- a page that was written again holds one block, and an open version of it one more
written_over : PlaysFrom (with_blocks 2) (
    by_a (LoCreate 17000) (number 17000)
    ∷ replicate 10 (by_a (put 17000 65) ok)
    ++ by_a Begin begun
    ∷ by_a (put 17000 66) ok
    ∷ by_a (put 17000 67) (refused PoolShort 1)
    ∷ [])
written_over = refl

-- a need of 0 is never refused: an update that keeps its chunks, in a pool that they fill
chunks_kept : PlaysFrom (with_blocks 2) (
    by_a (CreateTable (codes "t") (id_column ∷ bytes_column (codes "body") storages.External ∷ number_column (codes "n") ∷ [])) made
    ∷ by_a (Insert (codes "t") (Number (pos 1) ∷ Bytes (replicate 1997 98) ∷ Number (pos 7) ∷ [])) inserted
    ∷ by_a Begin begun
    ∷ by_a (Update (codes "t") (pos 1) (record { column = codes "n"; value = Number (pos 8) } ∷ [])) updated
    ∷ by_a (Update (codes "t") (pos 1) (record { column = codes "n"; value = Number (pos 9) } ∷ [])) updated
    ∷ by_a Rollback rolled_back
    ∷ by_a Vacuum (Word words.Vacuum)
    ∷ by_a (Slice (codes "t") (pos 1) (codes "body") (pos 1996) (pos 1)) (Content (98 ∷ []))
    ∷ by_a (Update (codes "t") (pos 1) (record { column = codes "body"; value = Bytes (replicate 1997 98) } ∷ [])) (refused PoolShort 2)
    ∷ by_a (Update (codes "t") (pos 1) (record { column = codes "body"; value = Bytes (replicate 1996 98) } ∷ [])) (refused PoolShort 1)
    ∷ by_a (Update (codes "t") (pos 1) (record { column = codes "body"; value = Bytes (replicate 1900 98) } ∷ [])) updated
    ∷ by_a (LoFromBytea 5 (replicate 2049 1)) (number 5)
    ∷ [])
chunks_kept = refl

-- no blocks at all
no_blocks : PlaysFrom (with_blocks 0) (
    by_a (LoCreate 17000) (number 17000)
    ∷ by_a (LoPut 17000 (pos 5000) []) ok
    ∷ by_a (put 17000 1) (refused PoolShort 1)
    ∷ by_a (CreateTable (codes "t") (id_column ∷ bytes_column (codes "body") storages.External ∷ [])) made
    ∷ by_a (Insert (codes "t") (Number (pos 1) ∷ Bytes (replicate 1996 1) ∷ [])) inserted
    ∷ by_a (Rewrite (codes "t") (bytes_column (codes "body") storages.Main ∷ [])) (Counted words.Rewrite 1)
    ∷ by_a (Delete (codes "t") (pos 1)) (Word words.Delete)
    ∷ by_a (LoUnlink 17000) (number 1)
    ∷ [])
no_blocks = refl

-- a descriptor that reads alone keeps the old version until it is closed, by itself or with its transaction
kept_by_a_reader : PlaysFrom (with_blocks 2) (
    by_a (LoFromBytea 17000 (1 ∷ [])) (number 17000)
    ∷ by_a Begin begun
    ∷ by_a (LoOpen 17000 (pos 262144)) (number 0)
    ∷ by_b (put 17000 2) ok
    ∷ by_b (put 17000 3) (refused PoolShort 1)
    ∷ by_a (LoClose (pos 0)) (number 0)
    ∷ by_b (put 17000 3) ok
    ∷ by_a (LoOpen 17000 (pos 393216)) (number 0)
    ∷ by_b (put 17000 4) ok
    ∷ by_b (put 17000 5) ok
    ∷ by_a (LoOpen 17000 (pos 262144)) (number 1)
    ∷ by_a (LoOpen 17000 (pos 262144)) (number 2)
    ∷ by_b (put 17000 6) ok
    ∷ by_b (put 17000 7) (refused PoolShort 1)
    ∷ by_a Commit committed
    ∷ by_b (put 17000 7) ok
    ∷ [])
kept_by_a_reader = refl

-- and so does an object that another session unlinked
unlinked_and_kept : PlaysFrom (with_blocks 1) (
    by_a (LoFromBytea 17000 (1 ∷ [])) (number 17000)
    ∷ by_b Begin begun
    ∷ by_b (LoUnlink 17000) (number 1)
    ∷ by_a (LoFromBytea 5 (1 ∷ [])) (refused PoolShort 1)
    ∷ by_b Commit committed
    ∷ by_a (LoFromBytea 5 (1 ∷ [])) (number 5)
    ∷ by_b Begin begun
    ∷ by_b (LoOpen 5 (pos 262144)) (number 0)
    ∷ by_a (LoUnlink 5) (number 1)
    ∷ by_a (LoFromBytea 6 (1 ∷ [])) (refused PoolShort 1)
    ∷ by_b Rollback rolled_back
    ∷ by_a (LoFromBytea 6 (1 ∷ [])) (number 6)
    ∷ [])
unlinked_and_kept = refl

-- Each level keeps what a rollback to it would bring back, in a failed block too. A version that several views have is one
kept_by_levels : PlaysFrom (with_blocks 3) (
    by_a (LoFromBytea 17000 (1 ∷ [])) (number 17000)
    ∷ by_a Begin begun
    ∷ replicate 4 (by_a (put 17000 2) ok)
    ++ by_a (Savepoint (codes "s")) saved
    ∷ by_a (put 17000 3) ok
    ∷ by_a (put 17000 4) (refused PoolShort 1)
    ∷ by_b (LoFromBytea 5 (1 ∷ [])) (number 5)
    ∷ by_b (put 5 2) (refused PoolShort 1)
    ∷ by_a (RollbackTo (codes "s")) rolled_back
    ∷ by_a (put 17000 3) (refused PoolShort 1)
    ∷ by_b (put 5 2) (refused PoolShort 1)
    ∷ by_a Rollback rolled_back
    ∷ by_b (put 5 2) ok
    ∷ [])
kept_by_levels = refl

released_levels : PlaysFrom (with_blocks 3) (
    by_a (LoFromBytea 17000 (1 ∷ [])) (number 17000)
    ∷ by_a Begin begun
    ∷ by_a (put 17000 2) ok
    ∷ by_a (Savepoint (codes "s")) saved
    ∷ by_a (put 17000 3) ok
    ∷ by_a (Release (codes "s")) (Word words.Release)
    ∷ by_a (put 17000 4) ok
    ∷ by_a Commit committed
    ∷ by_a (LoFromBytea 5 (replicate 4096 1)) (number 5)
    ∷ by_a (put 17000 5) (refused PoolShort 1)
    ∷ [])
released_levels = refl

-- a cut holds the page that the new end falls into, though no byte may lie there, until that page is written or the object is
-- gone; what it took away is held no more
cut_down : PlaysFrom (with_blocks 4) (
    by_a (LoFromBytea 17000 (replicate 6145 1)) (number 17000)
    ∷ by_a Begin begun
    ∷ by_a (LoOpen 17000 (pos 131072)) (number 0)
    ∷ by_a (LoTruncate (pos 0) (pos 2048)) (refused PoolShort 1)
    ∷ by_a Rollback rolled_back
    ∷ by_a (LoUnlink 17000) (number 1)
    ∷ by_a (LoFromBytea 17000 (replicate 4097 1)) (number 17000)
    ∷ by_a Begin begun
    ∷ by_a (LoOpen 17000 (pos 131072)) (number 0)
    ∷ by_a (LoTruncate (pos 0) (pos 2048)) (number 0)
    ∷ by_a Commit committed
    ∷ by_a (LoFromBytea 5 (replicate 4097 1)) (refused PoolShort 3)
    ∷ by_a (LoFromBytea 5 (replicate 4096 1)) (number 5)
    ∷ by_a (put 5 2) (refused PoolShort 1)
    ∷ by_a (LoUnlink 5) (number 1)
    ∷ by_a (LoPut 17000 (pos 2048) (1 ∷ [])) ok
    ∷ by_a (LoFromBytea 5 (replicate 4097 1)) (refused PoolShort 3)
    ∷ by_a (LoFromBytea 5 (replicate 4096 1)) (number 5)
    ∷ [])
cut_down = refl

cut_to_nothing : PlaysFrom (with_blocks 2) (
    by_a (LoCreate 17000) (number 17000)
    ∷ by_a Begin begun
    ∷ by_a (LoOpen 17000 (pos 131072)) (number 0)
    ∷ by_a (LoTruncate (pos 0) (pos 0)) (number 0)
    ∷ by_a Commit committed
    ∷ by_a (LoFromBytea 5 (replicate 2049 1)) (refused PoolShort 2)
    ∷ by_a (put 17000 1) ok
    ∷ by_a (LoFromBytea 5 (1 ∷ [])) (number 5)
    ∷ by_a (LoFromBytea 6 (1 ∷ [])) (refused PoolShort 1)
    ∷ by_a (LoUnlink 17000) (number 1)
    ∷ by_a (LoFromBytea 6 (1 ∷ [])) (number 6)
    ∷ [])
cut_to_nothing = refl

-- a cursor keeps the chunks of its row, which is gone; a rewrite needs a block for each chunk of all rows
chunks_kept_by_a_cursor : PlaysFrom (with_blocks 4) (
    by_a (CreateTable (codes "t") (id_column ∷ bytes_column (codes "body") storages.External ∷ [])) made
    ∷ by_a (Insert (codes "t") (Number (pos 1) ∷ Bytes (replicate 1997 98) ∷ [])) inserted
    ∷ by_a (Rewrite (codes "t") (bytes_column (codes "body") storages.Extended ∷ [])) (Counted words.Rewrite 1)
    ∷ by_b Begin begun
    ∷ by_b (Declare (codes "c") (codes "t") (pos 1)) (Word words.Declare)
    ∷ by_a (Delete (codes "t") (pos 1)) (Word words.Delete)
    ∷ by_a (Insert (codes "t") (Number (pos 2) ∷ Bytes (replicate 3993 98) ∷ [])) (refused PoolShort 3)
    ∷ by_a (Insert (codes "t") (Number (pos 2) ∷ Bytes (replicate 3992 98) ∷ [])) inserted
    ∷ by_a (put 5 1) (refused NoObject 5)
    ∷ by_a (LoFromBytea 5 (1 ∷ [])) (refused PoolShort 1)
    ∷ by_b (Close (codes "c")) (Word words.Close)
    ∷ by_a (LoFromBytea 5 (1 ∷ [])) (number 5)
    ∷ by_a (Rewrite (codes "t") (bytes_column (codes "body") storages.External ∷ [])) (refused PoolShort 2)
    ∷ by_a (Rewrite (codes "t") (bytes_column (codes "body") storages.Main ∷ [])) (Counted words.Rewrite 1)
    ∷ by_a (LoFromBytea 6 (replicate 4097 1)) (number 6)
    ∷ [])
chunks_kept_by_a_cursor = refl

-- where more is held than there are blocks, what needs none is still granted
abbrev overfull : Moment
overfull = started (Some 0) (record { edits = edits_by 0 (Committed 0) (Create 5 ∷ Write 5 0 (1 ∷ []) ∷ []); tables = []; counter = 16384 })

granted_without_need : PlaysFrom overfull (
    by_a (LoCreate 0) (number 16384)
    ∷ by_a (LoPut 5 (pos 9) []) ok
    ∷ by_a (put 5 2) (refused PoolShort 1)
    ∷ by_a (LoUnlink 5) (number 1)
    ∷ [])
granted_without_need = refl
