-- Worked examples of the grammar and of printed replies, each computed by the checker: a wrong one fails the crate.
use Rattle.std.proofs.Common.{◌≡◌, ℕ, refl, pos, negsuc, List, [], ◌∷◌, ◌++◌, Some, None, replicate}
use Rattle.std.specs.Prelude.{codes}
use Rattle.std.specs.Fmt.{digits}
use Rattle.hex.specs.Hex.{encode_with, decode_pairs}
use Rattle.lo_base.specs.declared.refusal.Cause.TheVariants.{NoObject, ObjectExists}
use Rattle.lo_base.specs.declared.reply.Reply.TheVariants.{Word, Number, Content, Nothing, Row, Ids, Text, Counted, Stopped, Refused}
use Rattle.lo_base.specs.declared.reply.Word.TheVariants as words
use Rattle.lo_base.specs.declared.value.Cell.TheVariants as cells
use Rattle.lo_base.specs.declared.request.Request.{Request}
use Rattle.lo_base.specs.declared.request.Request.TheVariants.{Begin, Commit, Rollback, Savepoint, Release, RollbackTo, LoCreat, LoCreate, LoOpen, LoClose, LoRead, LoWrite, LoLseek, LoLseek64, LoTell, LoTell64, LoTruncate, LoTruncate64, LoUnlink, LoGet, LoPut, LoFromBytea, Vacuum}
use Rattle.lo_script.specs.Reading.{Reading, Read, BadAt}
use Rattle.lo_script.specs.Token.{int8_of, int4_of, oid_of, bytes_of, name_of, session_of}
use Rattle.lo_script.specs.Script.{script_of, script_with, entry_behind, IsFirstBad, InLine}
use Rattle.lo_script.specs.ReplyText.{text_of, line_of, lines_of}

-- the programs of session 1 and of fifteen sessions with no line
abbrev alone : List Request → List (List Request)
alone program = program ∷ replicate 15 []

-- a line behind no other
abbrev pub entry_of : (line : List ℕ) → Reading (ℕ × Request)
entry_of line = entry_behind [] line

-- Scripts

-- an object is made, written behind a hole, and read
three_requests : script_of (codes "A: lo_create 17000\nA: lo_put 17000 3 \\x41\nA: lo_get 17000\n")
    ≡ Some (script_with (alone (LoCreate 17000 ∷ LoPut 17000 (pos 3) (65 ∷ []) ∷ LoGet 17000 (pos 0) None ∷ [])) (1 ∷ 1 ∷ 1 ∷ []))
unfolding digits decode_pairs
three_requests = refl

-- comments and empty lines are skipped, a carriage return before a line feed is dropped, and the last line feed may be missing
skipped_lines : script_of (codes "# a note\n\r\nA: lo_get 5\r\n\nA: lo_get 0")
    ≡ Some (script_with (alone (LoGet 5 (pos 0) None ∷ LoGet 0 (pos 0) None ∷ [])) (1 ∷ 1 ∷ []))
unfolding digits
skipped_lines = refl

-- two sessions in turn, each with its own program
first_and_last : script_of (codes "A: begin\nP: savepoint s\nA: rollback to s\nP: vacuum\n")
    ≡ Some (script_with ((Begin ∷ RollbackTo (codes "s") ∷ []) ∷ replicate 14 [] ++ (Savepoint (codes "s") ∷ Vacuum ∷ []) ∷ []) (1 ∷ 16 ∷ 1 ∷ 16 ∷ []))
first_and_last = refl

no_lines : script_of [] ≡ Some (script_with (replicate 16 []) [])
no_lines = refl

-- where one line is outside the grammar the script is, too
one_bad_line : script_of (codes "A: lo_get 5\nA: lo_get\n") ≡ None
unfolding digits
one_bad_line = refl

-- a last line without a line feed keeps its carriage return, and of two the second is no part of the line's end
kept_return : script_of (codes "A: lo_get 5\r") ≡ None
unfolding digits
kept_return = refl

second_return : script_of (codes "A: lo_get 5\r\r\n") ≡ None
unfolding digits
second_return = refl

-- Lines

two_spaces : entry_of (codes "A:  lo_get 5") ≡ BadAt 4
unfolding digits
two_spaces = refl

space_at_the_end : entry_of (codes "A: lo_get 5 ") ≡ BadAt 13
unfolding digits
space_at_the_end = refl

space_at_the_front : entry_of (codes " A: lo_get 5") ≡ BadAt 1
space_at_the_front = refl

second_session : entry_of (codes "B: commit") ≡ Read (2, Commit)
second_session = refl

seventeenth_letter : entry_of (codes "Q: begin") ≡ BadAt 1
seventeenth_letter = refl

before_the_first_letter : entry_of (codes "@: begin") ≡ BadAt 1
before_the_first_letter = refl

two_letters : entry_of (codes "AA: begin") ≡ BadAt 1
two_letters = refl

no_session : entry_of (codes "lo_get 5") ≡ BadAt 1
no_session = refl

no_word : entry_of (codes "A:") ≡ BadAt 3
no_word = refl

unknown_word : entry_of (codes "A: lo_greet 5") ≡ BadAt 4
unknown_word = refl

unknown_other_word : entry_of (codes "A: create_table 5") ≡ BadAt 4
unknown_other_word = refl

rolled_back : entry_of (codes "A: rollback") ≡ Read (1, Rollback)
rolled_back = refl

-- `to` can be a savepoint's name
rolled_back_to : entry_of (codes "A: rollback to to") ≡ Read (1, RollbackTo (codes "to"))
rolled_back_to = refl

rolled_back_elsewhere : entry_of (codes "A: rollback s") ≡ BadAt 13
rolled_back_elsewhere = refl

rolled_back_to_nothing : entry_of (codes "A: rollback to") ≡ BadAt 15
rolled_back_to_nothing = refl

rolled_back_to_two : entry_of (codes "A: rollback to s t") ≡ BadAt 18
rolled_back_to_two = refl

released : entry_of (codes "C: release _1") ≡ Read (3, Release (codes "_1"))
released = refl

block_of_a_kind : entry_of (codes "A: begin repeatable read") ≡ BadAt 10
block_of_a_kind = refl

-- Tokens

last_mark : session_of (codes "P:") ≡ Some 16
last_mark = refl

longest_name : name_of (replicate 63 97) ≡ Some (replicate 63 97)
longest_name = refl

name_too_long : name_of (replicate 64 97) ≡ None
name_too_long = refl

capital_letter : name_of (codes "aB") ≡ None
capital_letter = refl

digit_first : name_of (codes "1a") ≡ None
digit_first = refl

no_name : name_of [] ≡ None
no_name = refl

zero_token : int8_of (codes "0") ≡ Some (pos 0)
unfolding digits
zero_token = refl

leading_zero : int8_of (codes "05") ≡ None
unfolding digits
leading_zero = refl

plus_sign : int8_of (codes "+5") ≡ None
unfolding digits
plus_sign = refl

minus_sign : int8_of (codes "-5") ≡ Some (negsuc 4)
unfolding digits
minus_sign = refl

minus_before_zero : int8_of (codes "-0") ≡ None
unfolding digits
minus_before_zero = refl

minus_alone : int8_of (codes "-") ≡ None
unfolding digits
minus_alone = refl

no_digits : int8_of [] ≡ None
unfolding digits
no_digits = refl

letters : int8_of (codes "5a") ≡ None
unfolding digits
letters = refl

either_case : bytes_of 3 (codes "\\x4aBCd0") ≡ Some (74 ∷ 188 ∷ 208 ∷ [])
unfolding decode_pairs
either_case = refl

no_bytes : bytes_of 3 (codes "\\x") ≡ Some []
unfolding decode_pairs
no_bytes = refl

odd_digits : bytes_of 3 (codes "\\x4") ≡ None
unfolding decode_pairs
odd_digits = refl

no_hexadecimal_digit : bytes_of 3 (codes "\\x4g") ≡ None
unfolding decode_pairs
no_hexadecimal_digit = refl

capital_x : bytes_of 3 (codes "\\X41") ≡ None
capital_x = refl

too_many_bytes : bytes_of 3 (codes "\\x41414141") ≡ None
unfolding decode_pairs
too_many_bytes = refl

-- Ranges

least_int4 : int4_of (codes "-2147483648") ≡ Some (negsuc 2147483647)
unfolding digits
least_int4 = refl

below_int4 : int4_of (codes "-2147483649") ≡ None
unfolding digits
below_int4 = refl

greatest_int4 : int4_of (codes "2147483647") ≡ Some (pos 2147483647)
unfolding digits
greatest_int4 = refl

above_int4 : int4_of (codes "2147483648") ≡ None
unfolding digits
above_int4 = refl

least_int8 : int8_of (codes "-9223372036854775808") ≡ Some (negsuc 9223372036854775807)
unfolding digits
least_int8 = refl

below_int8 : int8_of (codes "-9223372036854775809") ≡ None
unfolding digits
below_int8 = refl

greatest_int8 : int8_of (codes "9223372036854775807") ≡ Some (pos 9223372036854775807)
unfolding digits
greatest_int8 = refl

above_int8 : int8_of (codes "9223372036854775808") ≡ None
unfolding digits
above_int8 = refl

least_oid : oid_of (codes "0") ≡ Some 0
unfolding digits
least_oid = refl

below_oid : oid_of (codes "-1") ≡ None
unfolding digits
below_oid = refl

greatest_oid : oid_of (codes "4294967295") ≡ Some 4294967295
unfolding digits
greatest_oid = refl

above_oid : oid_of (codes "4294967296") ≡ None
unfolding digits
above_oid = refl

-- Forms on large objects

read_creat : entry_of (codes "A: lo_creat -1") ≡ Read (1, LoCreat (negsuc 0))
unfolding digits
read_creat = refl

read_create : entry_of (codes "A: lo_create 0") ≡ Read (1, LoCreate 0)
unfolding digits
read_create = refl

read_open : entry_of (codes "A: lo_open 5 262144") ≡ Read (1, LoOpen 5 (pos 262144))
unfolding digits
read_open = refl

read_close : entry_of (codes "A: lo_close 0") ≡ Read (1, LoClose (pos 0))
unfolding digits
read_close = refl

read_read : entry_of (codes "A: lo_read 0 -1") ≡ Read (1, LoRead (pos 0) (negsuc 0))
unfolding digits
read_read = refl

read_write : entry_of (codes "A: lo_write 3 \\x41") ≡ Read (1, LoWrite (pos 3) (65 ∷ []))
unfolding digits decode_pairs
read_write = refl

read_lseek : entry_of (codes "A: lo_lseek 0 -7 2") ≡ Read (1, LoLseek (pos 0) (negsuc 6) (pos 2))
unfolding digits
read_lseek = refl

read_lseek64 : entry_of (codes "A: lo_lseek64 0 4398046511103 0") ≡ Read (1, LoLseek64 (pos 0) (pos 4398046511103) (pos 0))
unfolding digits
read_lseek64 = refl

read_tell : entry_of (codes "A: lo_tell 1") ≡ Read (1, LoTell (pos 1))
unfolding digits
read_tell = refl

read_tell64 : entry_of (codes "A: lo_tell64 1") ≡ Read (1, LoTell64 (pos 1))
unfolding digits
read_tell64 = refl

read_truncate : entry_of (codes "A: lo_truncate 0 9") ≡ Read (1, LoTruncate (pos 0) (pos 9))
unfolding digits
read_truncate = refl

read_truncate64 : entry_of (codes "A: lo_truncate64 0 4398046511104") ≡ Read (1, LoTruncate64 (pos 0) (pos 4398046511104))
unfolding digits
read_truncate64 = refl

read_unlink : entry_of (codes "A: lo_unlink 5") ≡ Read (1, LoUnlink 5)
unfolding digits
read_unlink = refl

read_get : entry_of (codes "A: lo_get 5") ≡ Read (1, LoGet 5 (pos 0) None)
unfolding digits
read_get = refl

read_part : entry_of (codes "A: lo_get 5 1 2") ≡ Read (1, LoGet 5 (pos 1) (Some (pos 2)))
unfolding digits
read_part = refl

read_put : entry_of (codes "A: lo_put 0 -1 \\x") ≡ Read (1, LoPut 0 (negsuc 0) [])
unfolding digits decode_pairs
read_put = refl

read_from_bytea : entry_of (codes "A: lo_from_bytea 5 \\xAb") ≡ Read (1, LoFromBytea 5 (171 ∷ []))
unfolding digits decode_pairs
read_from_bytea = refl

-- a part has an offset and a length
part_without_length : entry_of (codes "A: lo_get 5 1") ≡ BadAt 14
unfolding digits
part_without_length = refl

third_argument_missing : entry_of (codes "A: lo_lseek 0 0") ≡ BadAt 16
unfolding digits
third_argument_missing = refl

fourth_argument : entry_of (codes "A: lo_lseek 0 0 0 0") ≡ BadAt 19
unfolding digits
fourth_argument = refl

second_argument_wrong : entry_of (codes "A: lo_lseek 0 00 0") ≡ BadAt 15
unfolding digits
second_argument_wrong = refl

-- the second line is skipped, and the third lacks a token
first_bad_line : IsFirstBad (codes "A: lo_get 5\n#\nA: lo_get\nB:\n") 3 10
unfolding digits
first_bad_line = InLine (record {
  before = codes "A: lo_get 5" ∷ codes "#" ∷ [];
  line = codes "A: lo_get";
  after = codes "B:" ∷ [];
  so_far = script_with (alone (LoGet 5 (pos 0) None ∷ [])) (1 ∷ []);
  split = refl;
  counted = refl;
  allowed = refl;
  request = refl;
  bad = refl;
})

-- Replies

printed_replies : lines_of ((1, Number (pos 17000)) ∷ (1, Word words.Ok) ∷ (1, Content (0 ∷ 0 ∷ 0 ∷ 65 ∷ [])) ∷ [])
    ≡ codes "A: 17000\nA: OK\nA: \\x00000041\n"
unfolding digits encode_with
printed_replies = refl

transaction_words : lines_of ((1, Word words.Begin) ∷ (2, Word words.Commit) ∷ (15, Word words.Rollback) ∷ (16, Word words.Savepoint) ∷ (16, Word words.Release) ∷ [])
    ≡ codes "A: BEGIN\nB: COMMIT\nO: ROLLBACK\nP: SAVEPOINT\nP: RELEASE\n"
transaction_words = refl

table_words : lines_of ((1, Word words.CreateTable) ∷ (1, Word words.Insert) ∷ (1, Word words.Update) ∷ (1, Word words.Delete) ∷ (1, Word words.Vacuum) ∷ [])
    ≡ codes "A: CREATE TABLE\nA: INSERT 1\nA: UPDATE 1\nA: DELETE 1\nA: VACUUM\n"
table_words = refl

other_words : lines_of ((2, Word words.Declare) ∷ (2, Word words.Close) ∷ (2, Word words.Idle) ∷ [])
    ≡ codes "B: DECLARE\nB: CLOSE\nB: IDLE\n"
other_words = refl

printed_null : line_of 3 Nothing ≡ codes "C: null\n"
printed_null = refl

-- an id, a null, the number of a large object, a bytea, and arrays, one with a lower bound of its own
printed_row : line_of 1 (Row (cells.Int (negsuc 6) ∷ cells.Null ∷ cells.Oid 17000 ∷ cells.Inline (0 ∷ 171 ∷ []) ∷ cells.Text (codes "{}") ∷ cells.Text (codes "[0:1]={NULL,-3}") ∷ []))
    ≡ codes "A: ROW -7 null 17000 \\x00ab {} [0:1]={NULL,-3}\n"
unfolding digits encode_with
printed_row = refl

empty_bytes_in_a_row : text_of (Row (cells.Int (pos 1) ∷ cells.Inline [] ∷ [])) ≡ codes "ROW 1 \\x"
unfolding digits encode_with
empty_bytes_in_a_row = refl

printed_ids : text_of (Ids (negsuc 1 ∷ pos 0 ∷ pos 30 ∷ [])) ≡ codes "IDS -2 0 30"
unfolding digits
printed_ids = refl

no_ids : text_of (Ids []) ≡ codes "IDS"
no_ids = refl

printed_array : text_of (Text (codes "{1,NULL}")) ≡ codes "{1,NULL}"
printed_array = refl

counts : lines_of ((1, Counted words.Listed 12) ∷ (1, Counted words.Scanned 3) ∷ (1, Counted words.Removed 2) ∷ (1, Counted words.WouldRemove 0) ∷ (1, Counted words.Rewrite 1000) ∷ [])
    ≡ codes "A: LISTED 12\nA: SCANNED 3\nA: REMOVED 2\nA: WOULD REMOVE 0\nA: REWRITE 1000\n"
unfolding digits
counts = refl

printed_stop : text_of (Stopped 4294967295 12) ≡ codes "STOPPED 4294967295 12"
unfolding digits
printed_stop = refl

printed_refusal : line_of 1 (Refused (record { cause = NoObject; subject = pos 7 })) ≡ codes "A: ERROR 42704: large object 7 does not exist\n"
unfolding digits
printed_refusal = refl

other_refusal : line_of 1 (Refused (record { cause = ObjectExists; subject = pos 5 })) ≡ codes "A: ERROR 23505: large object 5 already exists\n"
unfolding digits
other_refusal = refl

negative_number : text_of (Number (negsuc 0)) ≡ codes "-1"
unfolding digits
negative_number = refl

lower_case : text_of (Content (171 ∷ 255 ∷ [])) ≡ codes "\\xabff"
unfolding encode_with
lower_case = refl

no_replies : lines_of [] ≡ []
no_replies = refl
