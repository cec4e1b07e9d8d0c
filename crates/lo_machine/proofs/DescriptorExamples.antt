-- Worked examples of the requests on descriptors, each computed by the checker: a wrong one fails the crate.
use Rattle.std.proofs.Common.{◌≡◌, refl, ℕ, pos, negsuc, [], ◌∷◌, ◌++◌, None, replicate}
use Rattle.std.specs.Prelude.{codes, map}
use Rattle.std.specs.List.{range_with_len}
use Rattle.lo_base.specs.declared.refusal.Cause.TheVariants.{Failed, NoObject, NoDescriptor, BadMode, NotWritable, BadWhence, BadSeek, BadTruncate, BadWrite, PositionRange, TooManyDescriptors, Busy, PoolShort}
use Rattle.lo_base.specs.declared.reply.Reply.TheVariants.{Word, Content}
use Rattle.lo_base.specs.declared.reply.Word.TheVariants as words
use Rattle.lo_base.specs.declared.request.Request.TheVariants.{Begin, Commit, Rollback, Savepoint, Release, RollbackTo, LoCreate, LoOpen, LoClose, LoRead, LoWrite, LoLseek, LoLseek64, LoTell, LoTell64, LoTruncate, LoTruncate64, LoUnlink, LoGet, LoPut, LoFromBytea}
use Rattle.lo_model.specs.declared.owner.Owner.TheVariants.{Committed}
use Rattle.lo_model.specs.Descriptor.{Current}
use Rattle.lo_model.specs.Edit.{Create, edits_by}
use Rattle.lo_model.specs.Transaction.{new_transaction}
use Rattle.lo_machine.specs.State.{State}
use Rattle.lo_machine.specs.Step.{reply_to}
use Rattle.lo_machine.proofs.WordsOfExamples.{refused, refused_for, number, ok, begun, rolled_back, committed, saved, by_a, by_b, by_c, Plays, PlaysFrom, with_blocks}

-- up to the largest size, and no further
at_the_end_of_all : Plays (
    by_a Begin begun
    ∷ by_a (LoCreate 17000) (number 17000)
    ∷ by_a (LoOpen 17000 (pos 393216)) (number 0)
    ∷ by_a (LoLseek (pos 0) (pos 10240) (pos 0)) (number 10240)
    ∷ by_a (LoWrite (pos 0) (88 ∷ [])) (number 1)
    ∷ by_a (LoLseek (pos 0) (pos 0) (pos 2)) (number 10241)
    ∷ by_a (LoLseek (pos 0) (pos 2047) (pos 0)) (number 2047)
    ∷ by_a (LoRead (pos 0) (pos 3)) (Content (0 ∷ 0 ∷ 0 ∷ []))
    ∷ by_a (LoLseek64 (pos 0) (pos 4398046509055) (pos 0)) (number 4398046509055)
    ∷ by_a (LoWrite (pos 0) (89 ∷ [])) (number 1)
    ∷ by_a (LoWrite (pos 0) (90 ∷ [])) (refused BadWrite 1)
    ∷ by_a Commit rolled_back
    ∷ [])
at_the_end_of_all = refl

-- cut down and up again
cut_down_and_up : Plays (
    by_a (LoFromBytea 17000 (replicate 5000 97)) (number 17000)
    ∷ by_a Begin begun
    ∷ by_a (LoOpen 17000 (pos 393216)) (number 0)
    ∷ by_a (LoTruncate (pos 0) (pos 2048)) (number 0)
    ∷ by_a (LoTruncate (pos 0) (pos 5000)) (number 0)
    ∷ by_a (LoLseek (pos 0) (pos 2040) (pos 0)) (number 2040)
    ∷ by_a (LoRead (pos 0) (pos 16)) (Content (replicate 8 97 ++ replicate 8 0))
    ∷ [])
cut_down_and_up = refl

-- a descriptor that reads alone stands in the view of its opening
old_and_new : Plays (
    by_a (LoFromBytea 17000 (codes "old")) (number 17000)
    ∷ by_a Begin begun
    ∷ by_a (LoOpen 17000 (pos 262144)) (number 0)
    ∷ by_a (LoOpen 17000 (pos 393216)) (number 1)
    ∷ by_b (LoPut 17000 (pos 0) (codes "new")) ok
    ∷ by_a (LoRead (pos 0) (pos 10)) (Content (codes "old"))
    ∷ by_a (LoRead (pos 1) (pos 10)) (Content (codes "new"))
    ∷ [])
old_and_new = refl

-- which has the own edits made before it was opened, and none made after
own_edits : Plays (
    by_a Begin begun
    ∷ by_a (LoFromBytea 17000 (codes "old")) (number 17000)
    ∷ by_a (LoOpen 17000 (pos 262144)) (number 0)
    ∷ by_a (LoOpen 17000 (pos 131072)) (number 1)
    ∷ by_a (LoPut 17000 (pos 0) (codes "newer")) ok
    ∷ by_a (LoLseek (pos 0) (pos 0) (pos 2)) (number 3)
    ∷ by_a (LoLseek (pos 1) (pos 0) (pos 2)) (number 5)
    ∷ by_a (LoLseek (pos 0) (negsuc 2) (pos 1)) (number 0)
    ∷ by_a (LoRead (pos 0) (pos 10)) (Content (codes "old"))
    ∷ by_a (LoLseek64 (pos 1) (negsuc 4) (pos 2)) (number 0)
    ∷ by_a (LoRead (pos 1) (pos 10)) (Content (codes "newer"))
    ∷ [])
own_edits = refl

-- levels of descriptors: closed with their level, given down at a release
closed_with_their_level : Plays (
    by_a Begin begun
    ∷ by_a (LoCreate 17000) (number 17000)
    ∷ by_a (LoOpen 17000 (pos 262144)) (number 0)
    ∷ by_a (Savepoint (codes "o")) saved
    ∷ by_a (Savepoint (codes "s")) saved
    ∷ by_a (LoOpen 17000 (pos 262144)) (number 1)
    ∷ by_a (RollbackTo (codes "s")) rolled_back
    ∷ by_a (LoOpen 17000 (pos 262144)) (number 1)
    ∷ by_a (Release (codes "s")) (Word words.Release)
    ∷ by_a (LoTell (pos 1)) (number 0)
    ∷ by_a (RollbackTo (codes "o")) rolled_back
    ∷ by_a (LoTell (pos 1)) (refused NoDescriptor 1)
    ∷ by_a (RollbackTo (codes "o")) rolled_back
    ∷ by_a (LoTell (pos 0)) (number 0)
    ∷ [])
closed_with_their_level = refl

-- a refusal closes those of the top level, and none below it
closed_by_a_refusal : Plays (
    by_a Begin begun
    ∷ by_a (LoCreate 17000) (number 17000)
    ∷ by_a (LoOpen 17000 (pos 262144)) (number 0)
    ∷ by_a (Savepoint (codes "s")) saved
    ∷ by_a (LoOpen 17000 (pos 262144)) (number 1)
    ∷ by_a (LoTell (pos 2)) (refused NoDescriptor 2)
    ∷ by_a (LoTell (pos 0)) (refused Failed 0)
    ∷ by_a (RollbackTo (codes "s")) rolled_back
    ∷ by_a (LoTell (pos 0)) (number 0)
    ∷ by_a (LoTell (pos 1)) (refused NoDescriptor 1)
    ∷ [])
closed_by_a_refusal = refl

lowest_free_number : Plays (
    by_a (LoCreate 17000) (number 17000)
    ∷ by_a Begin begun
    ∷ by_a (LoOpen 17000 (pos 262144)) (number 0)
    ∷ by_a (LoOpen 17000 (pos 262144)) (number 1)
    ∷ by_a (LoOpen 17000 (pos 262144)) (number 2)
    ∷ by_a (LoClose (pos 1)) (number 0)
    ∷ by_a (LoOpen 17000 (pos 262144)) (number 1)
    ∷ by_a (LoRead (pos 7) (pos 1)) (refused NoDescriptor 7)
    ∷ by_a Rollback rolled_back
    ∷ by_a Begin begun
    ∷ by_a (LoOpen 17000 (pos 262144)) (number 0)
    ∷ by_a (LoWrite (pos 0) (65 ∷ [])) (refused NotWritable 0)
    ∷ [])
lowest_free_number = refl

-- outside a transaction block a descriptor is closed again at once
closed_at_once : Plays (
    by_a (LoCreate 17000) (number 17000)
    ∷ by_a (LoOpen 17000 (pos 262144)) (number 0)
    ∷ by_a (LoRead (pos 0) (pos 1)) (refused NoDescriptor 0)
    ∷ by_a (LoOpen 17000 (pos 1)) (refused BadMode 1)
    ∷ by_a Begin begun
    ∷ by_a (LoOpen 17000 (pos 393216)) (number 0)
    ∷ by_a Commit committed
    ∷ by_a (LoWrite (pos 0) (1 ∷ [])) (refused NoDescriptor 0)
    ∷ by_a Begin begun
    ∷ by_a (LoTell (pos 0)) (refused NoDescriptor 0)
    ∷ [])
closed_at_once = refl

-- an object that another session unlinked, and created again
unlinked_by_another : Plays (
    by_a (LoFromBytea 17000 (codes "old")) (number 17000)
    ∷ by_a Begin begun
    ∷ by_a (LoOpen 17000 (pos 262144)) (number 0)
    ∷ by_a (LoOpen 17000 (pos 393216)) (number 1)
    ∷ by_b Begin begun
    ∷ by_b (LoUnlink 17000) (number 1)
    ∷ by_b (LoCreate 17000) (number 17000)
    ∷ by_b Commit committed
    ∷ by_a (LoRead (pos 0) (pos 3)) (Content (codes "old"))
    ∷ by_a (LoRead (pos 1) (pos 3)) (Content [])
    ∷ by_a (LoWrite (pos 1) (7 ∷ [])) (number 1)
    ∷ by_a (LoGet 17000 (pos 0) None) (Content (7 ∷ []))
    ∷ [])
unlinked_by_another = refl

-- the own unlink closes the session's descriptors on the object, those of other levels too, which no rollback brings back;
-- it leaves those on other objects and those of other sessions
closed_by_an_unlink : Plays (
    by_a (LoFromBytea 17000 (codes "old")) (number 17000)
    ∷ by_a (LoCreate 17001) (number 17001)
    ∷ by_b Begin begun
    ∷ by_b (LoOpen 17000 (pos 393216)) (number 0)
    ∷ by_a Begin begun
    ∷ by_a (LoOpen 17000 (pos 262144)) (number 0)
    ∷ by_a (LoOpen 17001 (pos 262144)) (number 1)
    ∷ by_a (LoOpen 17000 (pos 393216)) (number 2)
    ∷ by_a (Savepoint (codes "s")) saved
    ∷ by_a (LoOpen 17000 (pos 393216)) (number 3)
    ∷ by_a (LoUnlink 17000) (number 1)
    ∷ by_a (LoTell (pos 1)) (number 0)
    ∷ by_a (LoOpen 17001 (pos 262144)) (number 0)
    ∷ by_a (LoTell (pos 3)) (refused NoDescriptor 3)
    ∷ by_a (RollbackTo (codes "s")) rolled_back
    ∷ by_a (LoTell (pos 0)) (refused NoDescriptor 0)
    ∷ by_a (RollbackTo (codes "s")) rolled_back
    ∷ by_a (LoTell (pos 2)) (refused NoDescriptor 2)
    ∷ by_a (RollbackTo (codes "s")) rolled_back
    ∷ by_a (LoTell (pos 1)) (number 0)
    ∷ by_b (LoRead (pos 0) (pos 9)) (Content (codes "old"))
    ∷ [])
closed_by_an_unlink = refl

-- positions above what the calls without 64 answer
past_int4 : Plays (
    by_a Begin begun
    ∷ by_a (LoCreate 0) (number 16384)
    ∷ by_a (LoOpen 16384 (pos 393216)) (number 0)
    ∷ by_a (LoLseek64 (pos 0) (pos 2147483648) (pos 0)) (number 2147483648)
    ∷ by_a (LoTell64 (pos 0)) (number 2147483648)
    ∷ by_a (LoTell (pos 0)) (refused PositionRange 0)
    ∷ [])
past_int4 = refl

positions_in_range : Plays (
    by_a (LoCreate 17000) (number 17000)
    ∷ by_a Begin begun
    ∷ by_a (LoOpen 17000 (pos 262144)) (number 0)
    ∷ by_a (LoOpen 17000 (pos 262144)) (number 1)
    ∷ by_a (Savepoint (codes "s")) saved
    ∷ by_a (LoLseek (pos 1) (pos 2147483647) (pos 0)) (number 2147483647)
    ∷ by_a (LoTell (pos 1)) (number 2147483647)
    ∷ by_a (LoTell (pos 0)) (number 0)
    ∷ by_a (LoLseek (pos 1) (pos 1) (pos 1)) (refused PositionRange 1)
    ∷ by_a (RollbackTo (codes "s")) rolled_back
    ∷ by_a (LoTell (pos 1)) (number 2147483647)
    ∷ by_a (LoLseek64 (pos 1) (pos 1) (pos 1)) (number 2147483648)
    ∷ by_a (LoLseek (pos 1) (negsuc 0) (pos 1)) (number 2147483647)
    ∷ by_a (LoLseek64 (pos 1) (pos 4398046509056) (pos 0)) (number 4398046509056)
    ∷ by_a (LoLseek (pos 1) (pos 1) (pos 1)) (refused BadSeek 1)
    ∷ by_a (RollbackTo (codes "s")) rolled_back
    ∷ by_a (LoLseek64 (pos 1) (pos 1) (pos 1)) (refused BadSeek 1)
    ∷ by_a (RollbackTo (codes "s")) rolled_back
    ∷ by_a (LoLseek64 (pos 1) (pos 4398046509057) (pos 0)) (refused BadSeek 4398046509057)
    ∷ by_a (RollbackTo (codes "s")) rolled_back
    ∷ by_a (LoTell64 (pos 1)) (number 4398046509056)
    ∷ by_a (LoTell (pos 1)) (refused PositionRange 1)
    ∷ by_a (RollbackTo (codes "s")) rolled_back
    ∷ by_a (LoTell (pos 0)) (number 0)
    ∷ [])
positions_in_range = refl

-- seeking: a number without a descriptor, then the whence, then the target, whose refusal names the offset that was given
seeks_refused : Plays (
    by_a (LoFromBytea 17000 (codes "abcdef")) (number 17000)
    ∷ by_a Begin begun
    ∷ by_a (LoOpen 17000 (pos 262144)) (number 0)
    ∷ by_a (Savepoint (codes "s")) saved
    ∷ by_a (LoLseek (pos 1) (negsuc 0) (pos 3)) (refused NoDescriptor 1)
    ∷ by_a (RollbackTo (codes "s")) rolled_back
    ∷ by_a (LoLseek64 (negsuc 0) (negsuc 0) (pos 3)) (refused_for NoDescriptor (negsuc 0))
    ∷ by_a (RollbackTo (codes "s")) rolled_back
    ∷ by_a (LoLseek (pos 0) (negsuc 0) (pos 3)) (refused BadWhence 3)
    ∷ by_a (RollbackTo (codes "s")) rolled_back
    ∷ by_a (LoLseek64 (pos 0) (pos 4398046509057) (negsuc 1)) (refused_for BadWhence (negsuc 1))
    ∷ by_a (RollbackTo (codes "s")) rolled_back
    ∷ by_a (LoLseek (pos 0) (pos 2) (pos 0)) (number 2)
    ∷ by_a (LoLseek (pos 0) (negsuc 2) (pos 1)) (refused_for BadSeek (negsuc 2))
    ∷ by_a (RollbackTo (codes "s")) rolled_back
    ∷ by_a (LoLseek64 (pos 0) (negsuc 6) (pos 2)) (refused_for BadSeek (negsuc 6))
    ∷ by_a (RollbackTo (codes "s")) rolled_back
    ∷ by_a (LoTell (pos 0)) (number 2)
    ∷ by_a (LoLseek (pos 0) (negsuc 0) (pos 1)) (number 1)
    ∷ by_a (LoLseek (pos 0) (negsuc 0) (pos 2)) (number 5)
    ∷ by_a (LoLseek (pos 0) (pos 3) (pos 2)) (number 9)
    ∷ by_a (LoRead (pos 0) (pos 3)) (Content [])
    ∷ [])
seeks_refused = refl

-- reading moves the position by what was read; neither a refusal nor a rollback moves it
positions_stay : Plays (
    by_a (LoFromBytea 17000 (codes "abcdef")) (number 17000)
    ∷ by_a Begin begun
    ∷ by_a (LoOpen 17000 (pos 393216)) (number 0)
    ∷ by_a (LoRead (pos 0) (pos 2)) (Content (codes "ab"))
    ∷ by_a (Savepoint (codes "s")) saved
    ∷ by_a (LoWrite (pos 0) (codes "CD")) (number 2)
    ∷ by_a (LoRead (pos 0) (negsuc 4)) (Content [])
    ∷ by_a (LoTell (pos 0)) (number 4)
    ∷ by_a (LoWrite (pos 0) []) (number 0)
    ∷ by_a (RollbackTo (codes "s")) rolled_back
    ∷ by_a (LoTell64 (pos 0)) (number 4)
    ∷ by_a (LoRead (pos 0) (pos 9)) (Content (codes "ef"))
    ∷ by_a (LoTell (pos 0)) (number 6)
    ∷ by_a (LoRead (pos 0) (pos 9)) (Content [])
    ∷ by_a (LoTell (pos 0)) (number 6)
    ∷ by_a (LoGet 17000 (pos 0) None) (Content (codes "abcdef"))
    ∷ by_a (LoClose (pos 1)) (refused NoDescriptor 1)
    ∷ by_a (RollbackTo (codes "s")) rolled_back
    ∷ by_a (LoRead (negsuc 0) (pos 1)) (refused_for NoDescriptor (negsuc 0))
    ∷ by_a (RollbackTo (codes "s")) rolled_back
    ∷ by_a (LoTell64 (pos 1)) (refused NoDescriptor 1)
    ∷ [])
positions_stay = refl

-- Opening: an object that is not there, then the mode, of which two bits count, then the number of those open

modes : Plays (
    by_a (LoCreate 17000) (number 17000)
    ∷ by_a (LoOpen 17001 (pos 0)) (refused NoObject 17001)
    ∷ by_a (LoOpen 17000 (pos 0)) (refused BadMode 0)
    ∷ by_a (LoOpen 17000 (pos 524288)) (refused BadMode 524288)
    ∷ by_a (LoOpen 17000 (negsuc 2147483647)) (refused_for BadMode (negsuc 2147483647))
    ∷ by_a Begin begun
    ∷ by_a (LoOpen 17000 (pos 131073)) (number 0)
    ∷ by_a (LoOpen 17000 (negsuc 0)) (number 1)
    ∷ by_a (LoOpen 17000 (pos 786433)) (number 2)
    ∷ by_a (LoWrite (pos 0) (1 ∷ [])) (number 1)
    ∷ by_a (LoWrite (pos 1) (2 ∷ [])) (number 1)
    ∷ by_a (LoRead (pos 0) (pos 9)) (Content [])
    ∷ by_a (LoRead (pos 2) (pos 9)) (Content [])
    ∷ by_a (LoWrite (pos 2) (1 ∷ [])) (refused NotWritable 2)
    ∷ [])
modes = refl

-- a session in a block with so many descriptors on object 5
abbrev with_descriptors : (count : ℕ) → State
with_descriptors count = record {
  advances = 900;
  database = record { edits = edits_by 1 (Committed 1) (Create 5 ∷ []); tables = []; counter = 16384 };
  blocks = None;
  players = λ s. record {
    session = record {
      transaction = new_transaction;
      descriptors = map (λ n. record { number = n; oid = 5; position = 0; level = 1; reading = Current }) (range_with_len 0 count);
      cursors = [];
    };
    variables = [];
    sweep = None;
  };
}

last_descriptor : reply_to (with_descriptors 255) 1 (LoOpen 5 (pos 262144)) ≡ number 255
last_descriptor = refl

too_many : reply_to (with_descriptors 256) 1 (LoOpen 5 (pos 262144)) ≡ refused TooManyDescriptors 256
too_many = refl

too_many_in_a_mode : reply_to (with_descriptors 256) 1 (LoOpen 5 (pos 1)) ≡ refused BadMode 1
too_many_in_a_mode = refl

too_many_without_object : reply_to (with_descriptors 256) 1 (LoOpen 6 (pos 262144)) ≡ refused NoObject 6
too_many_without_object = refl

-- Writing and cutting: a number without a descriptor, one that may not write, an object that is gone, the end or the size,
-- who holds the bytes, the pool

writes_refused : PlaysFrom (with_blocks 1) (
    by_a (LoFromBytea 17000 (codes "abc")) (number 17000)
    ∷ by_a Begin begun
    ∷ by_a (LoOpen 17000 (pos 393216)) (number 0)
    ∷ by_a (LoOpen 17000 (pos 262144)) (number 1)
    ∷ by_a (Savepoint (codes "s")) saved
    ∷ by_a (LoWrite (pos 0) (1 ∷ [])) (refused PoolShort 1)
    ∷ by_a (RollbackTo (codes "s")) rolled_back
    ∷ by_a (LoTruncate (pos 0) (pos 3)) (refused PoolShort 1)
    ∷ by_a (RollbackTo (codes "s")) rolled_back
    ∷ by_a (LoWrite (pos 0) []) (number 0)
    ∷ by_b Begin begun
    ∷ by_b (LoUnlink 17000) (number 1)
    ∷ by_a (LoWrite (pos 0) (1 ∷ [])) (refused Busy 2)
    ∷ by_a (RollbackTo (codes "s")) rolled_back
    ∷ by_a (LoTruncate64 (pos 0) (pos 3)) (refused Busy 2)
    ∷ by_a (RollbackTo (codes "s")) rolled_back
    ∷ by_a (LoWrite (pos 0) []) (number 0)
    ∷ by_a (LoTell (pos 0)) (number 0)
    ∷ by_a (LoTruncate (pos 0) (negsuc 8)) (refused_for BadTruncate (negsuc 8))
    ∷ by_a (RollbackTo (codes "s")) rolled_back
    ∷ by_a (LoTruncate64 (pos 0) (pos 4398046509057)) (refused BadTruncate 4398046509057)
    ∷ by_a (RollbackTo (codes "s")) rolled_back
    ∷ by_a (LoTruncate64 (pos 0) (pos 4398046509056)) (refused Busy 2)
    ∷ by_a (RollbackTo (codes "s")) rolled_back
    ∷ by_a (LoLseek64 (pos 0) (pos 4398046509055) (pos 0)) (number 4398046509055)
    ∷ by_a (LoWrite (pos 0) (1 ∷ 2 ∷ [])) (refused BadWrite 2)
    ∷ by_a (RollbackTo (codes "s")) rolled_back
    ∷ by_a (LoTell64 (pos 0)) (number 4398046509055)
    ∷ by_b Commit committed
    ∷ by_a (LoWrite (pos 0) (1 ∷ 2 ∷ [])) (refused NoObject 17000)
    ∷ by_a (RollbackTo (codes "s")) rolled_back
    ∷ by_a (LoWrite (pos 0) []) (refused NoObject 17000)
    ∷ by_a (RollbackTo (codes "s")) rolled_back
    ∷ by_a (LoTruncate64 (pos 0) (pos 4398046509057)) (refused NoObject 17000)
    ∷ by_a (RollbackTo (codes "s")) rolled_back
    ∷ by_a (LoLseek64 (pos 0) (pos 0) (pos 2)) (number 0)
    ∷ by_a (LoRead (pos 0) (pos 9)) (Content [])
    ∷ by_a (LoWrite (pos 1) (1 ∷ [])) (refused NotWritable 1)
    ∷ by_a (RollbackTo (codes "s")) rolled_back
    ∷ by_a (LoTruncate (pos 1) (negsuc 0)) (refused NotWritable 1)
    ∷ by_a (RollbackTo (codes "s")) rolled_back
    ∷ by_a (LoRead (pos 1) (pos 9)) (Content (codes "abc"))
    ∷ by_a (LoWrite (pos 2) (1 ∷ [])) (refused NoDescriptor 2)
    ∷ by_a (RollbackTo (codes "s")) rolled_back
    ∷ by_a (LoTruncate (pos 2) (negsuc 0)) (refused NoDescriptor 2)
    ∷ by_a (RollbackTo (codes "s")) rolled_back
    ∷ by_a (LoTruncate64 (negsuc 1) (pos 0)) (refused_for NoDescriptor (negsuc 1))
    ∷ [])
writes_refused = refl

-- a cut holds the page that the new end falls into and all above; a write holds the pages of its bytes
cut_beside_a_writer : Plays (
    by_a (LoFromBytea 17000 (replicate 8193 1)) (number 17000)
    ∷ by_a Begin begun
    ∷ by_a (LoOpen 17000 (pos 131072)) (number 0)
    ∷ by_a (Savepoint (codes "s")) saved
    ∷ by_b Begin begun
    ∷ by_b (LoPut 17000 (pos 6143) (2 ∷ [])) ok
    ∷ by_a (LoTruncate (pos 0) (pos 6143)) (refused Busy 2)
    ∷ by_a (RollbackTo (codes "s")) rolled_back
    ∷ by_a (LoTruncate (pos 0) (pos 0)) (refused Busy 2)
    ∷ by_a (RollbackTo (codes "s")) rolled_back
    ∷ by_a (LoTruncate64 (pos 0) (pos 6144)) (number 0)
    ∷ by_c (LoPut 17000 (pos 6144) (3 ∷ [])) (refused Busy 1)
    ∷ by_c (LoPut 17000 (pos 9000) (3 ∷ [])) (refused Busy 1)
    ∷ by_c (LoPut 17000 (pos 6143) (3 ∷ 4 ∷ [])) (refused Busy 1)
    ∷ by_c (LoPut 17000 (pos 4095) (3 ∷ [])) ok
    ∷ by_a (LoTell (pos 0)) (number 0)
    ∷ by_a (LoLseek (pos 0) (pos 0) (pos 2)) (number 6144)
    ∷ by_a Commit committed
    ∷ by_b (LoGet 17000 (pos 6142) None) (Content (1 ∷ 2 ∷ []))
    ∷ [])
cut_beside_a_writer = refl
