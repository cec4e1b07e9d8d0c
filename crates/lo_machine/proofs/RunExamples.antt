-- Worked examples of how runs begin and end, and of which schedules are whole, each computed by the checker: a wrong one fails
-- the crate.
use Rattle.std.proofs.Common.{◌≡◌, refl, sym, ap, arith, false, ℕ, ◌==◌, pos, negsuc, List, [], ◌∷◌, Option, None, replicate}
use Rattle.std.specs.Prelude.{codes, is_some}
use Rattle.std.proofs.lemmas.Bool.{false≢true}
use Rattle.lo_base.specs.declared.column.Storage.TheVariants as storages
use Rattle.lo_base.specs.declared.refusal.Cause.TheVariants.{PoolShort}
use Rattle.lo_base.specs.declared.reply.Reply.TheVariants.{Word, Content, Ids as IdsReply}
use Rattle.lo_base.specs.declared.reply.Word.TheVariants as words
use Rattle.lo_base.specs.declared.request.Request.{Request}
use Rattle.lo_base.specs.declared.request.Request.TheVariants.{Begin, Commit, LoCreate, LoUnlink, LoGet, LoPut, LoFromBytea, CreateTable, Insert, Delete, Ids, Slice, Vacuumlo, Finish}
use Rattle.lo_base.specs.declared.value.Literal.TheVariants as literals
use Rattle.lo_base.specs.declared.value.Value.TheVariants.{Null, Int, Oid, Bytes}
use Rattle.lo_model.specs.Opening.{Opening}
use Rattle.lo_machine.specs.Committed.{committed_opening}
use Rattle.lo_machine.specs.Run.{IsOrderOf, IsWhole, blocks_of, end_from, schedule_of, start, start_of}
use Rattle.lo_machine.proofs.WordsOfExamples.{refused, number, ok, begun, made, inserted, id_column, bytes_column, oid_column, Turn, by_a, by_b, Plays, PlaysFrom, programs_in, schedule_in}

-- an opening with a row whose value is in two chunks, an object of a page, and one whose size is cut
abbrev image : (blocks : ℕ) → Opening
image blocks = record {
  blocks = blocks;
  counter = 16390;
  tables = record {
    name = codes "t";
    columns = id_column ∷ bytes_column (codes "b") storages.External ∷ [];
    rows = (Int (negsuc 0) ∷ Bytes (replicate 1997 7) ∷ []) ∷ (Int (pos 2) ∷ Null ∷ []) ∷ [];
  } ∷ [];
  objects = record { oid = 5; bytes = codes "abc" } ∷ record { oid = 6; bytes = 0 ∷ [] } ∷ [];
}

as_many_as_it_holds : blocks_of (image 1) ≡ 4
as_many_as_it_holds = refl

as_many_as_it_says : blocks_of (image 5) ≡ 5
as_many_as_it_says = refl

opened_and_full : PlaysFrom (start_of (image 1)) (
    by_a (LoGet 5 (pos 0) None) (Content (codes "abc"))
    ∷ by_a (LoGet 6 (pos 0) None) (Content (0 ∷ []))
    ∷ by_a (Ids (codes "t")) (IdsReply (negsuc 0 ∷ pos 2 ∷ []))
    ∷ by_a (Slice (codes "t") (negsuc 0) (codes "b") (pos 1995) (pos 9)) (Content (7 ∷ 7 ∷ []))
    ∷ by_a (LoCreate 0) (number 16390)
    ∷ by_a (LoPut 16390 (pos 0) (1 ∷ [])) (refused PoolShort 1)
    ∷ by_a (LoUnlink 6) (number 1)
    ∷ by_a (LoPut 16390 (pos 0) (1 ∷ [])) ok
    ∷ by_a (LoPut 16390 (pos 0) (1 ∷ [])) (refused PoolShort 1)
    ∷ by_a (Delete (codes "t") (negsuc 0)) (Word words.Delete)
    ∷ by_a (LoPut 16390 (pos 0) (replicate 4096 1)) ok
    ∷ [])
opened_and_full = refl

-- What is committed at the end, in order: tables by name with their rows by id, and objects by number. What is open is not in it,
-- but for the counter and the storages of columns, which no transaction takes back
abbrev ended : List Turn
ended =
    by_a (CreateTable (codes "u") (id_column ∷ oid_column (codes "o") ∷ [])) made
    ∷ by_a (CreateTable (codes "t") (id_column ∷ bytes_column (codes "b") storages.External ∷ [])) made
    ∷ by_a (Insert (codes "t") (literals.Number (pos 2) ∷ literals.Null ∷ [])) inserted
    ∷ by_a (Insert (codes "t") (literals.Number (negsuc 0) ∷ literals.Bytes (codes "xy") ∷ [])) inserted
    ∷ by_a (Insert (codes "u") (literals.Number (pos 1) ∷ literals.Number (pos 5) ∷ [])) inserted
    ∷ by_a (LoFromBytea 6 (codes "six")) (number 6)
    ∷ by_a (LoCreate 5) (number 5)
    ∷ by_b Begin begun
    ∷ by_b (LoCreate 0) (number 16384)
    ∷ by_b (LoUnlink 5) (number 1)
    ∷ by_b (Insert (codes "t") (literals.Number (pos 9) ∷ literals.Null ∷ [])) inserted
    ∷ by_b (Delete (codes "u") (pos 1)) (Word words.Delete)
    ∷ []

played_to_the_end : Plays ended
played_to_the_end = refl

committed_at_the_end : committed_opening 77 (end_from (programs_in ended) start (schedule_in ended)).state ≡ record {
  blocks = 77;
  counter = 16385;
  tables = record {
    name = codes "t";
    columns = id_column ∷ bytes_column (codes "b") storages.External ∷ [];
    rows = (Int (negsuc 0) ∷ Bytes (codes "xy") ∷ []) ∷ (Int (pos 2) ∷ Null ∷ []) ∷ [];
  } ∷ record {
    name = codes "u";
    columns = id_column ∷ oid_column (codes "o") ∷ [];
    rows = (Int (pos 1) ∷ Oid 5 ∷ []) ∷ [];
  } ∷ [];
  objects = record { oid = 5; bytes = [] } ∷ record { oid = 6; bytes = codes "six" } ∷ [];
}
committed_at_the_end = refl

-- what an opening holds is what is committed at its beginning
opened_and_committed : committed_opening 1 (start_of (image 1)).state ≡ image 1
opened_and_committed = refl

-- Schedules: one that leaves a line, one that goes on behind the last line, one that leaves a finish before its report

abbrev two_lines : List (List Request)
two_lines = (Begin ∷ Commit ∷ []) ∷ (Begin ∷ []) ∷ []

left_a_line : IsWhole two_lines (1 ∷ 2 ∷ []) → ⊥
left_a_line whole = false≢true (sym (ap (λ (line : Option Request). is_some line) (whole.complete 1 (omega (arith)))))

behind_the_last : IsWhole two_lines (1 ∷ 2 ∷ 1 ∷ 2 ∷ []) → ⊥
behind_the_last whole = false≢true whole.playable.1.1.1.0

abbrev a_sweep : List (List Request)
a_sweep = (LoCreate 5 ∷ Vacuumlo false 0 ∷ Finish ∷ []) ∷ []

left_a_finish : IsWhole a_sweep (1 ∷ 1 ∷ 1 ∷ 1 ∷ 1 ∷ []) → ⊥
left_a_finish whole = false≢true (sym (ap (λ (line : Option Request). is_some line) (whole.complete 1 (omega (arith)))))

finished_in_four : schedule_of a_sweep (1 ∷ 1 ∷ 1 ∷ []) ≡ replicate 6 1
finished_in_four = refl

-- Orders: one that names a session too often, and one too seldom

named_too_often : IsOrderOf two_lines (1 ∷ 2 ∷ 1 ∷ 2 ∷ []) → ⊥
named_too_often order = false≢true (sym (ap (λ n. n == 1) (order.lines 2 (omega (arith)))))

named_too_seldom : IsOrderOf two_lines (2 ∷ 1 ∷ []) → ⊥
named_too_seldom order = false≢true (sym (ap (λ n. n == 2) (order.lines 1 (omega (arith)))))
