-- No text of a reply holds a line feed.
use Rattle.std.proofs.Common.{◌≡◌, ◌≢◌, ℕ, zero, suc, ◌/◌, ◌%◌, ◌==◌, ◌&&◌, not, true, false, Bool, List, [], ◌∷◌, ◌++◌, length, refl, inl, inr, arith}
use Rattle.std.specs.Prelude.{Option, Some, None, ℤ, pos, negsuc, codes, slice_index, nat_lt}
use Rattle.std.specs.Fmt.{decimal, signed_decimal, digits, digits_onto, digit_glyph}
use Rattle.std.proofs.lemmas.Bool.Decides.{nat_tests}
use Rattle.std.specs.List.{AllByRecursion}
use Rattle.std.proofs.lemmas.List.{get_or_past}
use Rattle.std.proofs.lemmas.List.Elements.{All-nil, All-cons, All-append}
use Rattle.hex.specs.Hex.{encode_with, encode_lower, lower_digits}
use Rattle.lo_base.specs.declared.refusal.Cause.{Cause}
use Rattle.lo_base.specs.declared.refusal.Cause.TheVariants.{Failed}
use Rattle.lo_base.specs.declared.refusal.Code.{Code}
use Rattle.lo_base.specs.declared.refusal.Code.TheVariants.{C25P02}
use Rattle.lo_base.specs.declared.refusal.Refusal.{Refusal}
use Rattle.lo_base.specs.declared.reply.Reply.{Reply}
use Rattle.lo_base.specs.declared.reply.Reply.TheVariants.{Word, Number, Content, Nothing, Row, Ids, Text, Counted, Stopped, Refused}
use Rattle.lo_base.specs.declared.value.Cell.{Cell}
use Rattle.lo_base.specs.declared.value.Cell.TheVariants as cells
use Rattle.lo_base.specs.declared.reply.Word.{Word as FixedWord}
use Rattle.lo_base.specs.declared.reply.Word.TheVariants.{Ok}
use Rattle.lo_base.specs.Cause.{code_of, opening_of, ending_of}
use Rattle.lo_base.specs.Code.{sqlstate_of}
use Rattle.lo_base.specs.Refusal.{numbered}
use Rattle.lo_script.specs.ReplyText.{word_text, bytes_text, cell_text, after_space, spaced, counted_text, stopped_text, text_of, error_text, IsOneLine}
use Rattle.lo_script.proofs.DecimalsAndBytes.{tested}

-- no array's text in a reply holds a line feed

abbrev pub IsOneLineCell : Cell → Type 0
IsOneLineCell (cells.Text text) = IsOneLine text
IsOneLineCell _ = Unit {0}

abbrev pub HasOneLineArrays : Reply → Type 0
HasOneLineArrays (Row row) = AllByRecursion IsOneLineCell row
HasOneLineArrays (Text text) = IsOneLine text
HasOneLineArrays _ = Unit {0}

-- a test that computes
abbrev is_one_line : List ℕ → Bool
is_one_line [] = true
is_one_line (b ∷ bs) = not (b == 10) && is_one_line bs

pub from_test : (text : List ℕ) → is_one_line text ≡ true → IsOneLine text
from_test [] h = All-nil (λ b. b ≢ 10)
from_test (b ∷ bs) h =
    let other : b ≢ 10 = grind (arith, nat_tests) in
    let more : is_one_line bs ≡ true = grind (arith, nat_tests) in
    All-cons (λ c. c ≢ 10) b bs other (from_test bs more)

pub both : (a b : List ℕ) → IsOneLine a → IsOneLine b → IsOneLine (a ++ b)
both a b h k = All-append (λ c. c ≢ 10) a b h k

-- digits
glyph : (n : ℕ) → digit_glyph false n ≢ 10
glyph n = elim (tested (nat_lt n 10)) [
  | inl small ↦ rw small (omega arith)
  | inr large ↦ rw large (omega arith)
]

digits_onto-one_line : (k n : ℕ) (after : List ℕ) → IsOneLine after → IsOneLine (digits_onto k 10 false n after)
digits_onto-one_line zero n after h = h
digits_onto-one_line (suc k) n after h = elim (tested (n / 10 == 0)) [
  | inl last ↦ rw last (All-cons (λ c. c ≢ 10) _ after (glyph (n % 10)) h)
  | inr more ↦ rw more (digits_onto-one_line k (n / 10) (digit_glyph false (n % 10) ∷ after) (All-cons (λ c. c ≢ 10) _ after (glyph (n % 10)) h))
]

decimal-one_line : (n : ℕ) → IsOneLine (decimal n)
unfolding digits
decimal-one_line n = digits_onto-one_line 64 n [] (All-nil (λ b. b ≢ 10))

pub signed_decimal-one_line : (n : ℤ) → IsOneLine (signed_decimal n)
signed_decimal-one_line (pos n) = decimal-one_line n
signed_decimal-one_line (negsuc n) = All-cons (λ c. c ≢ 10) 45 (decimal (suc n)) (omega arith) (decimal-one_line (suc n))

default_one_line : (text : List ℕ) → IsOneLine text → (k : ℕ) → slice_index text k ≢ 10
default_one_line text h k = elim (tested (nat_lt k (length text))) [
  | inl within ↦ h k 0 (grind (arith, nat_tests))
  | inr beyond ↦
      let past : slice_index text k ≡ 0 = get_or_past text k 0 (grind (arith, nat_tests)) in
      rw past (omega arith)
]

hex_digit : (d : ℕ) → slice_index lower_digits d ≢ 10
hex_digit d = default_one_line lower_digits (from_test lower_digits refl) d

encode-one_line : (bytes : List ℕ) → IsOneLine (encode_with lower_digits bytes)
unfolding encode_with
encode-one_line [] = All-nil (λ b. b ≢ 10)
encode-one_line (b ∷ bytes) = All-cons (λ c. c ≢ 10) (slice_index lower_digits (b / 16)) (slice_index lower_digits (b % 16) ∷ encode_with lower_digits bytes) (hex_digit (b / 16)) (All-cons (λ c. c ≢ 10) (slice_index lower_digits (b % 16)) (encode_with lower_digits bytes) (hex_digit (b % 16)) (encode-one_line bytes))

-- the table of causes, tried entry by entry
word-one_line : (word : FixedWord) → is_one_line (word_text word) ≡ true
word-one_line Ok = refl
word-one_line other = refl

code-one_line : (code : Code) → is_one_line (sqlstate_of code) ≡ true
code-one_line C25P02 = refl
code-one_line other = refl

opening-one_line : (cause : Cause) → is_one_line (opening_of cause) ≡ true
opening-one_line Failed = refl
opening-one_line other = refl

abbrev ending_is_one_line : Option (List ℕ) → Bool
ending_is_one_line None = true
ending_is_one_line (Some ending) = is_one_line ending

ending-one_line : (cause : Cause) → ending_is_one_line (ending_of cause) ≡ true
ending-one_line Failed = refl
ending-one_line other = refl

numbered-one_line : (n : ℤ) (ending : Option (List ℕ)) → ending_is_one_line ending ≡ true → IsOneLine (numbered n ending)
numbered-one_line n None h = All-nil (λ b. b ≢ 10)
numbered-one_line n (Some ending) h = both (signed_decimal n) ending (signed_decimal-one_line n) (from_test ending h)

refusal-one_line : (refusal : Refusal) → IsOneLine (error_text refusal)
refusal-one_line refusal =
    let code = from_test (sqlstate_of (code_of refusal.cause)) (code-one_line (code_of refusal.cause)) in
    let opening = from_test (opening_of refusal.cause) (opening-one_line refusal.cause) in
    let ending = numbered-one_line refusal.subject (ending_of refusal.cause) (ending-one_line refusal.cause) in
    let before = both (codes "ERROR ") (sqlstate_of (code_of refusal.cause)) (from_test (codes "ERROR ") refl) code in
    let coded = both (codes "ERROR " ++ sqlstate_of (code_of refusal.cause)) (codes ": ") before (from_test (codes ": ") refl) in
    let text = both (opening_of refusal.cause) (numbered refusal.subject (ending_of refusal.cause)) opening ending in
    both (codes "ERROR " ++ sqlstate_of (code_of refusal.cause) ++ codes ": ") (opening_of refusal.cause ++ numbered refusal.subject (ending_of refusal.cause)) coded text

word_text-one_line : (word : FixedWord) → IsOneLine (word_text word)
word_text-one_line word = from_test (word_text word) (word-one_line word)

bytes_text-one_line : (bytes : List ℕ) → IsOneLine (bytes_text bytes)
bytes_text-one_line bytes = both (codes "\\x") (encode_lower bytes) (from_test (codes "\\x") refl) (encode-one_line bytes)

cell_text-one_line : (cell : Cell) → IsOneLineCell cell → IsOneLine (cell_text cell)
cell_text-one_line cells.Null h = from_test (codes "null") refl
cell_text-one_line (cells.Int n) h = signed_decimal-one_line n
cell_text-one_line (cells.Oid oid) h = decimal-one_line oid
cell_text-one_line (cells.Inline bytes) h = bytes_text-one_line bytes
cell_text-one_line (cells.Text text) h = h
cell_text-one_line (cells.Outside length value) h = All-nil (λ b. b ≢ 10)

-- a word before more
pub after_word : (word more : List ℕ) → is_one_line word ≡ true → IsOneLine more → IsOneLine (word ++ more)
after_word word more h k = both word more (from_test word h) k

row-one_line : (row : List Cell) → AllByRecursion IsOneLineCell row → IsOneLine (spaced cell_text row)
row-one_line [] h = All-nil (λ b. b ≢ 10)
row-one_line (cell ∷ more) h =
    after_word (codes " ") (cell_text cell ++ spaced cell_text more) refl
    (both (cell_text cell) (spaced cell_text more) (cell_text-one_line cell h.0) (row-one_line more h.1))

ids-one_line : (ids : List ℤ) → IsOneLine (spaced signed_decimal ids)
ids-one_line [] = All-nil (λ b. b ≢ 10)
ids-one_line (n ∷ more) =
    after_word (codes " ") (signed_decimal n ++ spaced signed_decimal more) refl
    (both (signed_decimal n) (spaced signed_decimal more) (signed_decimal-one_line n) (ids-one_line more))

after_space-one_line : (text : List ℕ) → IsOneLine text → IsOneLine (after_space text)
after_space-one_line text h = after_word (codes " ") text refl h

counted-one_line : (what : FixedWord) (count : ℕ) → IsOneLine (counted_text what count)
counted-one_line what count =
    both (word_text what) (after_space (decimal count)) (word_text-one_line what) (after_space-one_line (decimal count) (decimal-one_line count))

stopped-one_line : (oid removed : ℕ) → IsOneLine (stopped_text oid removed)
stopped-one_line oid removed =
    after_word (codes "STOPPED ") (decimal oid ++ after_space (decimal removed)) refl
    (both (decimal oid) (after_space (decimal removed)) (decimal-one_line oid) (after_space-one_line (decimal removed) (decimal-one_line removed)))

pub text_of-one_line : (reply : Reply) → HasOneLineArrays reply → IsOneLine (text_of reply)
text_of-one_line (Word word) h = word_text-one_line word
text_of-one_line (Number n) h = signed_decimal-one_line n
text_of-one_line (Content bytes) h = bytes_text-one_line bytes
text_of-one_line Nothing h = from_test (codes "null") refl
text_of-one_line (Row row) h = after_word (codes "ROW") (spaced cell_text row) refl (row-one_line row h)
text_of-one_line (Ids ids) h = after_word (codes "IDS") (spaced signed_decimal ids) refl (ids-one_line ids)
text_of-one_line (Text text) h = h
text_of-one_line (Counted what count) h = counted-one_line what count
text_of-one_line (Stopped oid removed) h = stopped-one_line oid removed
text_of-one_line (Refused refusal) h = refusal-one_line refusal
