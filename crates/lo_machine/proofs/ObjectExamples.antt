-- Worked examples of the requests that name large objects, each computed by the checker: a wrong one fails the crate.
use Rattle.std.proofs.Common.{◌≡◌, refl, ℕ, pos, negsuc, [], ◌∷◌, None, Some, replicate}
use Rattle.std.specs.Prelude.{codes}
use Rattle.lo_base.specs.declared.refusal.Cause.TheVariants.{Failed, NoOids, NoObject, ObjectExists, BadSeek, BadWrite, BadLength, TooMuch, Busy, PoolShort}
use Rattle.lo_base.specs.declared.reply.Reply.TheVariants.{Word, Content}
use Rattle.lo_base.specs.declared.reply.Word.TheVariants as words
use Rattle.lo_base.specs.declared.request.Request.TheVariants.{Begin, Commit, Rollback, Savepoint, RollbackTo, LoCreat, LoCreate, LoUnlink, LoGet, LoPut, LoFromBytea, Vacuum}
use Rattle.lo_calls.specs.Terms.{too_much}
use Rattle.lo_machine.specs.Run.{Moment, started}
use Rattle.lo_machine.specs.Terms.{refusal}
use Rattle.lo_machine.proofs.WordsOfExamples.{refused, refused_for, number, ok, begun, rolled_back, committed, saved, by_a, by_b, by_c, by_d, Plays, PlaysFrom, with_blocks}

-- bytes from one page into the next
across_two_pages : Plays (
    by_a (LoCreate 17000) (number 17000)
    ∷ by_a (LoPut 17000 (pos 2047) (65 ∷ 66 ∷ [])) ok
    ∷ by_a (LoGet 17000 (pos 2046) (Some (pos 3))) (Content (0 ∷ 65 ∷ 66 ∷ []))
    ∷ [])
across_two_pages = refl

-- two transactions that write to one page, and two that write to neighbouring pages
one_page_and_two : Plays (
    by_a (LoCreate 17000) (number 17000)
    ∷ by_a Begin begun
    ∷ by_b Begin begun
    ∷ by_a (LoPut 17000 (pos 0) (65 ∷ [])) ok
    ∷ by_b (LoPut 17000 (pos 1) (66 ∷ [])) (refused Busy 1)
    ∷ by_b (LoGet 17000 (pos 0) None) (refused Failed 0)
    ∷ by_b Commit rolled_back
    ∷ by_a Commit committed
    ∷ by_c Begin begun
    ∷ by_d Begin begun
    ∷ by_c (LoPut 17000 (pos 0) (67 ∷ [])) ok
    ∷ by_d (LoPut 17000 (pos 2048) (68 ∷ [])) ok
    ∷ by_c Commit committed
    ∷ by_d Commit committed
    ∷ by_a (LoGet 17000 (pos 0) (Some (pos 1))) (Content (67 ∷ []))
    ∷ by_a (LoGet 17000 (pos 2046) (Some (pos 3))) (Content (0 ∷ 0 ∷ 68 ∷ []))
    ∷ [])
one_page_and_two = refl

-- what a savepoint and a transaction undo comes back, though another session cleans up between
undone_behind_a_vacuum : Plays (
    by_a (LoFromBytea 17000 (codes "one")) (number 17000)
    ∷ by_a Begin begun
    ∷ by_a (LoPut 17000 (pos 0) (codes "two")) ok
    ∷ by_a (Savepoint (codes "s")) saved
    ∷ by_a (LoPut 17000 (pos 0) (codes "six")) ok
    ∷ by_b Vacuum (Word words.Vacuum)
    ∷ by_a (RollbackTo (codes "s")) rolled_back
    ∷ by_a (LoGet 17000 (pos 0) None) (Content (codes "two"))
    ∷ by_a Rollback rolled_back
    ∷ by_a (LoGet 17000 (pos 0) None) (Content (codes "one"))
    ∷ [])
undone_behind_a_vacuum = refl

-- Numbers. A picked one is the least from the counter on that is free; the counter then stands behind it, and no rollback
-- and no named number moves it

picked_in_turn : Plays (
    by_a (LoCreate 16385) (number 16385)
    ∷ by_a (LoCreate 20000) (number 20000)
    ∷ by_a Begin begun
    ∷ by_a (LoCreate 0) (number 16384)
    ∷ by_a (LoCreat (negsuc 0)) (number 16386)
    ∷ by_a Rollback rolled_back
    ∷ by_a (LoGet 16386 (pos 0) None) (refused NoObject 16386)
    ∷ by_a (LoFromBytea 0 (7 ∷ 8 ∷ [])) (number 16387)
    ∷ by_a (LoGet 16387 (pos 0) None) (Content (7 ∷ 8 ∷ []))
    ∷ by_b (LoCreat (pos 5)) (number 16388)
    ∷ by_b (LoGet 5 (pos 0) None) (refused NoObject 5)
    ∷ by_b (LoCreate 0) (number 16389)
    ∷ [])
picked_in_turn = refl

-- numbers that another session's open transaction has an edit on are passed over: of an object created, and of one unlinked;
-- so are those of the own transaction. One whose object was unlinked and committed is free
held_numbers : Plays (
    by_a (LoCreate 16385) (number 16385)
    ∷ by_a (LoCreate 16388) (number 16388)
    ∷ by_a (LoUnlink 16388) (number 1)
    ∷ by_b Begin begun
    ∷ by_b (LoCreate 16384) (number 16384)
    ∷ by_b (LoUnlink 16385) (number 1)
    ∷ by_a Begin begun
    ∷ by_a (LoCreate 16386) (number 16386)
    ∷ by_a (LoUnlink 16386) (number 1)
    ∷ by_a (LoCreate 0) (number 16387)
    ∷ by_a (LoCreate 0) (number 16388)
    ∷ [])
held_numbers = refl

-- the counter's end. A number that is named is not picked
abbrev at_counter : (counter : ℕ) → Moment
at_counter counter = started None (record { edits = []; tables = []; counter = counter })

last_number : PlaysFrom (at_counter 4294967295) (
    by_a (LoFromBytea 0 (1 ∷ [])) (number 4294967295)
    ∷ by_a (LoCreate 0) (refused NoOids 0)
    ∷ by_a (LoCreat (pos 0)) (refused NoOids 0)
    ∷ by_a (LoFromBytea 0 (1 ∷ [])) (refused NoOids 0)
    ∷ by_a (LoCreate 5) (number 5)
    ∷ by_a (LoUnlink 4294967295) (number 1)
    ∷ by_a (LoCreate 0) (refused NoOids 0)
    ∷ [])
last_number = refl

last_number_held : PlaysFrom (at_counter 4294967294) (
    by_b Begin begun
    ∷ by_b (LoCreate 4294967294) (number 4294967294)
    ∷ by_b (LoCreate 4294967295) (number 4294967295)
    ∷ by_a (LoCreate 0) (refused NoOids 0)
    ∷ [])
last_number_held = refl

-- Refusals of creations: an object that is there before one that is held, and that before the pool

created_twice : Plays (
    by_a (LoCreate 17000) (number 17000)
    ∷ by_a (LoCreate 17000) (refused ObjectExists 17000)
    ∷ by_a (LoFromBytea 17000 (1 ∷ [])) (refused ObjectExists 17000)
    ∷ by_a (LoGet 17000 (pos 0) None) (Content [])
    ∷ by_b Begin begun
    ∷ by_b (LoUnlink 17000) (number 1)
    ∷ by_b (LoCreate 17001) (number 17001)
    ∷ by_c (LoCreate 17000) (refused ObjectExists 17000)
    ∷ by_c (LoCreate 17001) (refused Busy 2)
    ∷ by_c (LoFromBytea 17001 (1 ∷ [])) (refused Busy 2)
    ∷ by_b (LoCreate 17000) (number 17000)
    ∷ by_b Commit committed
    ∷ by_c (LoFromBytea 17001 (1 ∷ [])) (refused ObjectExists 17001)
    ∷ [])
created_twice = refl

-- a picked number that the pool refuses is picked again
created_in_a_small_pool : PlaysFrom (with_blocks 2) (
    by_a (LoFromBytea 0 (replicate 4097 1)) (refused PoolShort 3)
    ∷ by_a (LoFromBytea 0 (replicate 4096 1)) (number 16384)
    ∷ by_a (LoFromBytea 0 (1 ∷ [])) (refused PoolShort 1)
    ∷ by_a (LoFromBytea 16384 (1 ∷ [])) (refused ObjectExists 16384)
    ∷ by_a (LoFromBytea 0 []) (number 16385)
    ∷ by_b Begin begun
    ∷ by_b (LoCreate 17000) (number 17000)
    ∷ by_a (LoFromBytea 17000 (1 ∷ [])) (refused Busy 2)
    ∷ by_a (LoUnlink 16384) (number 1)
    ∷ by_a (LoFromBytea 0 (1 ∷ [])) (number 16386)
    ∷ [])
created_in_a_small_pool = refl

-- Unlinking. An object that is not there comes before one that is held

unlinked : Plays (
    by_a (LoUnlink 17000) (refused NoObject 17000)
    ∷ by_a (LoFromBytea 17000 (1 ∷ 2 ∷ [])) (number 17000)
    ∷ by_b Begin begun
    ∷ by_b (LoPut 17000 (pos 5000) (3 ∷ [])) ok
    ∷ by_b (LoCreate 17001) (number 17001)
    ∷ by_a (LoUnlink 17000) (refused Busy 2)
    ∷ by_a (LoUnlink 17001) (refused NoObject 17001)
    ∷ by_b Rollback rolled_back
    ∷ by_a (LoUnlink 17000) (number 1)
    ∷ by_a (LoUnlink 17000) (refused NoObject 17000)
    ∷ by_a (LoCreate 17000) (number 17000)
    ∷ by_a (LoGet 17000 (pos 0) None) (Content [])
    ∷ [])
unlinked = refl

-- an unlink is seen by its own transaction alone, which a rollback undoes
unlinked_and_undone : Plays (
    by_a (LoFromBytea 17000 (1 ∷ 2 ∷ [])) (number 17000)
    ∷ by_a Begin begun
    ∷ by_a (Savepoint (codes "s")) saved
    ∷ by_a (LoUnlink 17000) (number 1)
    ∷ by_b (LoGet 17000 (pos 0) None) (Content (1 ∷ 2 ∷ []))
    ∷ by_a (LoGet 17000 (pos 0) None) (refused NoObject 17000)
    ∷ by_a (RollbackTo (codes "s")) rolled_back
    ∷ by_a (LoGet 17000 (pos 0) None) (Content (1 ∷ 2 ∷ []))
    ∷ by_b (LoUnlink 17000) (number 1)
    ∷ by_a (LoGet 17000 (pos 0) None) (refused NoObject 17000)
    ∷ [])
unlinked_and_undone = refl

-- Reading: an object that is not there, then the offset, then the length

gets_refused : Plays (
    by_a (LoGet 17000 (negsuc 0) (Some (negsuc 0))) (refused NoObject 17000)
    ∷ by_a (LoFromBytea 17000 (1 ∷ 2 ∷ 3 ∷ [])) (number 17000)
    ∷ by_a (LoGet 17000 (negsuc 6) (Some (negsuc 0))) (refused_for BadSeek (negsuc 6))
    ∷ by_a (LoGet 17000 (pos 4398046509057) (Some (negsuc 0))) (refused BadSeek 4398046509057)
    ∷ by_a (LoGet 17000 (pos 4398046509056) (Some (negsuc 3))) (refused_for BadLength (negsuc 3))
    ∷ by_a (LoGet 17000 (pos 3) (Some (pos 1))) (Content [])
    ∷ by_a (LoGet 17000 (pos 1) (Some (pos 0))) (Content [])
    ∷ by_a (LoGet 17000 (pos 1) (Some (pos 9))) (Content (2 ∷ 3 ∷ []))
    ∷ [])
gets_refused = refl

most_bytes_read : too_much 16777216 ≡ None
most_bytes_read = refl

one_byte_more : too_much 16777217 ≡ Some (refusal TooMuch (pos 16777217))
one_byte_more = refl

-- Writing: an object that is not there, then the offset, then the end, then who holds the bytes, then the pool

puts_refused : PlaysFrom (with_blocks 2) (
    by_a (LoPut 17000 (negsuc 0) (1 ∷ [])) (refused NoObject 17000)
    ∷ by_a (LoFromBytea 17000 (9 ∷ [])) (number 17000)
    ∷ by_a (LoPut 17000 (negsuc 4) (1 ∷ [])) (refused_for BadSeek (negsuc 4))
    ∷ by_a (LoPut 17000 (negsuc 4) []) (refused_for BadSeek (negsuc 4))
    ∷ by_a (LoPut 17000 (pos 4398046509057) (1 ∷ [])) (refused BadSeek 4398046509057)
    ∷ by_a (LoPut 17000 (pos 4398046509057) []) (refused BadSeek 4398046509057)
    ∷ by_a (LoPut 17000 (pos 4398046509056) []) ok
    ∷ by_b Begin begun
    ∷ by_b (LoUnlink 17000) (number 1)
    ∷ by_a (LoPut 17000 (pos 4398046509056) (1 ∷ [])) (refused BadWrite 1)
    ∷ by_a (LoPut 17000 (pos 4398046509054) (1 ∷ 2 ∷ 3 ∷ [])) (refused BadWrite 3)
    ∷ by_a (LoPut 17000 (pos 0) (replicate 2049 1)) (refused Busy 2)
    ∷ by_a (LoPut 17000 (pos 0) []) ok
    ∷ by_b Rollback rolled_back
    ∷ by_a (LoPut 17000 (pos 0) (replicate 2049 1)) (refused PoolShort 2)
    ∷ by_a (LoPut 17000 (pos 2047) (1 ∷ 2 ∷ [])) (refused PoolShort 2)
    ∷ by_a (LoPut 17000 (pos 2048) (7 ∷ [])) ok
    ∷ by_a (LoPut 17000 (pos 2048) []) ok
    ∷ by_a (LoGet 17000 (pos 2047) None) (Content (0 ∷ 7 ∷ []))
    ∷ by_a (LoGet 17000 (pos 0) (Some (pos 2))) (Content (9 ∷ 0 ∷ []))
    ∷ [])
puts_refused = refl
