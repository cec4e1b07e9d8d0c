-- How replies are printed.
use Rattle.std.specs.Prelude.{◌≢◌, ℕ, ℤ, All, List, [], ◌∷◌, ◌++◌, codes}
use Rattle.std.specs.Fmt.{decimal, signed_decimal}
use Rattle.hex.specs.Hex.{encode_lower}
use Rattle.lo_base.specs.declared.refusal.Refusal.{Refusal}
use Rattle.lo_base.specs.declared.reply.Reply.{Reply}
use Rattle.lo_base.specs.declared.reply.Reply.TheVariants.{Word, Number, Content, Nothing, Row, Ids, Text, Counted, Stopped, Refused}
use Rattle.lo_base.specs.declared.reply.Word.{Word as FixedWord}
use Rattle.lo_base.specs.declared.reply.Word.TheVariants as words
use Rattle.lo_base.specs.declared.value.Cell.{Cell}
use Rattle.lo_base.specs.declared.value.Cell.TheVariants as cells
use Rattle.lo_base.specs.Cause.{code_of}
use Rattle.lo_base.specs.Code.{sqlstate_of}
use Rattle.lo_base.specs.Refusal.{text_of as refusal_text}
use Rattle.lo_script.specs.Token.{mark_of}

abbrev pub word_text : FixedWord → List ℕ
word_text words.Begin = codes "BEGIN"
word_text words.Commit = codes "COMMIT"
word_text words.Rollback = codes "ROLLBACK"
word_text words.Savepoint = codes "SAVEPOINT"
word_text words.Release = codes "RELEASE"
word_text words.CreateTable = codes "CREATE TABLE"
word_text words.Insert = codes "INSERT 1"
word_text words.Update = codes "UPDATE 1"
word_text words.Delete = codes "DELETE 1"
word_text words.Declare = codes "DECLARE"
word_text words.Close = codes "CLOSE"
word_text words.Vacuum = codes "VACUUM"
word_text words.Idle = codes "IDLE"
word_text words.Ok = codes "OK"
word_text words.Listed = codes "LISTED"
word_text words.Scanned = codes "SCANNED"
word_text words.Removed = codes "REMOVED"
word_text words.WouldRemove = codes "WOULD REMOVE"
word_text words.Rewrite = codes "REWRITE"

-- bytes are printed in PostgreSQL's hex format of bytea, with lower case digits
abbrev pub bytes_text : List ℕ → List ℕ
bytes_text bytes = codes "\\x" ++ encode_lower bytes

-- a value in a row. A value that was moved out of its row stands in no reply, and has no text
abbrev pub cell_text : Cell → List ℕ
cell_text cells.Null = codes "null"
cell_text (cells.Int n) = signed_decimal n
cell_text (cells.Oid oid) = decimal oid
cell_text (cells.Inline bytes) = bytes_text bytes
cell_text (cells.Text text) = text
cell_text (cells.Outside length value) = []

abbrev pub after_space : List ℕ → List ℕ
after_space text = codes " " ++ text

-- the texts of some values, each after a space
abbrev pub spaced : {A : Type 0} → (text : A → List ℕ) → List A → List ℕ
spaced text [] = []
spaced text (a ∷ more) = after_space (text a) ++ spaced text more

-- a row: its values
abbrev pub row_text : List Cell → List ℕ
row_text row = codes "ROW" ++ spaced cell_text row

-- the ids of a table's rows
abbrev pub ids_text : List ℤ → List ℕ
ids_text ids = codes "IDS" ++ spaced signed_decimal ids

-- a word and a number
abbrev pub counted_text : FixedWord → (count : ℕ) → List ℕ
counted_text what count = word_text what ++ after_space (decimal count)

-- the object whose removal was refused, and how many were removed before
abbrev pub stopped_text : (oid removed : ℕ) → List ℕ
stopped_text oid removed = codes "STOPPED" ++ after_space (decimal oid) ++ after_space (decimal removed)

-- a refusal names its SQLSTATE code and its cause's text
abbrev pub error_text : Refusal → List ℕ
error_text refusal = codes "ERROR " ++ sqlstate_of (code_of refusal.cause) ++ codes ": " ++ refusal_text refusal

abbrev pub text_of : Reply → List ℕ
text_of (Word word) = word_text word
text_of (Number n) = signed_decimal n
text_of (Content bytes) = bytes_text bytes
text_of Nothing = codes "null"
text_of (Row row) = row_text row
text_of (Ids ids) = ids_text ids
text_of (Text text) = text
text_of (Counted what count) = counted_text what count
text_of (Stopped oid removed) = stopped_text oid removed
text_of (Refused refusal) = error_text refusal

-- a reply's line: its session's letter, a colon, a space, the text and a line feed
abbrev pub line_of : (session : ℕ) → Reply → List ℕ
line_of session reply = mark_of session ++ codes " " ++ text_of reply ++ codes "\n"

-- the lines of replies, each with its session, in order
abbrev pub lines_of : List (ℕ × Reply) → List ℕ
lines_of [] = []
lines_of (reply ∷ replies) = line_of reply.0 reply.1 ++ lines_of replies

-- no line feed stands in the text
abbrev pub IsOneLine : List ℕ → Type 0
IsOneLine text = All (λ b. b ≢ 10) text
