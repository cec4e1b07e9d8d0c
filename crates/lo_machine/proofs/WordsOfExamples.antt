-- Words that the worked examples share: a run is written as a list of turns, each with its session, its request and its reply.
use Rattle.std.specs.Prelude.{◌≡◌, ℕ, ℤ, pos, ◌==◌, List, [], ◌∷◌, Some, codes, map, filter}
use Rattle.std.specs.List.{flat_map}
use Rattle.lo_base.specs.declared.column.Column.{Column}
use Rattle.lo_base.specs.declared.column.ColType.{ColType}
use Rattle.lo_base.specs.declared.column.ColType.TheVariants as types
use Rattle.lo_base.specs.declared.column.Storage.{Storage}
use Rattle.lo_base.specs.declared.column.Storage.TheVariants as storages
use Rattle.lo_base.specs.declared.refusal.Cause.{Cause}
use Rattle.lo_base.specs.declared.reply.Reply.{Reply}
use Rattle.lo_base.specs.declared.reply.Reply.TheVariants.{Word, Number, Refused}
use Rattle.lo_base.specs.declared.reply.Word.TheVariants as words
use Rattle.lo_base.specs.declared.request.Request.{Request}
use Rattle.lo_machine.specs.Run.{Moment, replies_from, schedule_of, start, started, empty_database}

-- replies
abbrev pub refused : Cause → (subject : ℕ) → Reply
refused cause subject = Refused (record { cause = cause; subject = pos subject })

abbrev pub refused_for : Cause → (subject : ℤ) → Reply
refused_for cause subject = Refused (record { cause = cause; subject = subject })

abbrev pub number : ℕ → Reply
number n = Number (pos n)

abbrev pub ok : Reply
ok = Word words.Ok

abbrev pub begun : Reply
begun = Word words.Begin

abbrev pub rolled_back : Reply
rolled_back = Word words.Rollback

abbrev pub committed : Reply
committed = Word words.Commit

abbrev pub saved : Reply
saved = Word words.Savepoint

abbrev pub made : Reply
made = Word words.CreateTable

abbrev pub inserted : Reply
inserted = Word words.Insert

abbrev pub updated : Reply
updated = Word words.Update

-- columns
abbrev pub column : (name : List ℕ) → ColType → Storage → Column
column name kind storage = record { name = name; kind = kind; storage = storage }

abbrev pub id_column : Column
id_column = column (codes "id") types.Int8 storages.Plain

abbrev pub bytes_column : (name : List ℕ) → Storage → Column
bytes_column name storage = column name types.Bytea storage

abbrev pub array_column : (name : List ℕ) → Column
array_column name = column name types.Int4Array storages.Extended

abbrev pub number_column : (name : List ℕ) → Column
number_column name = column name types.Int8 storages.Plain

abbrev pub oid_column : (name : List ℕ) → Column
oid_column name = column name types.Oid storages.Plain

abbrev pub lo_column : (name : List ℕ) → Column
lo_column name = column name types.Lo storages.Plain

-- One advance of a run: whose it is, the line that is its session's next one, or none where the line before goes on, and what
-- is answered.
pub record Turn : Type 0 where
  pub session : ℕ
  pub line : List Request
  pub reply : Reply

abbrev pub by_a : Request → Reply → Turn
by_a request reply = record { session = 1; line = request ∷ []; reply = reply }

abbrev pub by_a_still : Reply → Turn
by_a_still reply = record { session = 1; line = []; reply = reply }

abbrev pub by_b : Request → Reply → Turn
by_b request reply = record { session = 2; line = request ∷ []; reply = reply }

abbrev pub by_c : Request → Reply → Turn
by_c request reply = record { session = 3; line = request ∷ []; reply = reply }

abbrev pub by_d : Request → Reply → Turn
by_d request reply = record { session = 4; line = request ∷ []; reply = reply }

-- the lines of a session among turns
abbrev pub lines_of : (session : ℕ) → List Turn → List Request
lines_of s turns = flat_map (λ (t : Turn). t.line) (filter (λ (t : Turn). t.session == s) turns)

abbrev pub programs_in : List Turn → List (List Request)
programs_in turns = lines_of 1 turns ∷ lines_of 2 turns ∷ lines_of 3 turns ∷ lines_of 4 turns ∷ []

abbrev pub schedule_in : List Turn → List ℕ
schedule_in turns = map (λ (t : Turn). t.session) turns

-- the session of each line, in the order of the lines
abbrev pub order_in : List Turn → List ℕ
order_in turns = flat_map (λ (t : Turn). map (λ request. t.session) t.line) turns

abbrev pub answer_of : Turn → ℕ × Reply
answer_of t = (t.session, t.reply)

-- The run of these lines in this order, from a moment on, gives these replies.
abbrev pub PlaysFrom : Moment → List Turn → Type 0
PlaysFrom moment turns = replies_from (programs_in turns) moment (schedule_in turns) ≡ map answer_of turns

-- A script of these lines in this order is run so.
abbrev pub IsScheduleOfScript : List Turn → Type 0
IsScheduleOfScript turns = schedule_of (programs_in turns) (order_in turns) ≡ schedule_in turns

-- from the empty database, in which blocks are not counted, and with so many blocks
abbrev pub Plays : List Turn → Type 0
Plays turns = PlaysFrom start turns

abbrev pub with_blocks : (blocks : ℕ) → Moment
with_blocks blocks = started (Some blocks) empty_database
