-- Every reply of the machine is one line: each text in it is an array's, and no array's text holds a line feed.
use Rattle.std.proofs.Common.{◌≢◌, ℕ, true, false, Bool, List, [], ◌∷◌, ◌++◌, length, refl}
use Rattle.std.specs.Prelude.{Option, Some, None, ℤ, pos, codes, if◌then◌else◌}
use Rattle.std.specs.Fmt.{signed_decimal}
use Rattle.std.specs.List.{AllByRecursion}
use Rattle.std.specs.Ordering.{int_eq}
use Rattle.std.proofs.lemmas.List.Elements.{All-nil}
use Rattle.expanded_array.specs.Array.{Array, Empty, Bounded, elements_of, last_of}
use Rattle.expanded_array.specs.Text.{element_text, with_commas, joined, explicit_bounds, bounds_of, array_text}
use Rattle.lo_base.specs.declared.reply.Reply.{Reply}
use Rattle.lo_base.specs.declared.reply.Reply.TheVariants.{Row, Text}
use Rattle.lo_base.specs.declared.request.Request.{Request}
use Rattle.lo_base.specs.declared.value.Cell.{Cell}
use Rattle.lo_base.specs.declared.value.Cell.TheVariants as cells
use Rattle.lo_machine.specs.Replies.{IsArrayText, HasArrayText, HasArrayTexts}
use Rattle.lo_machine.specs.State.{State}
use Rattle.lo_machine.specs.Step.{reply_to}
use Rattle.lo_machine.proofs.ArrayReplies.{reply_to-printed}
use Rattle.lo_script.specs.ReplyText.{text_of, IsOneLine}
use Rattle.lo_script.proofs.OneLineReplies.{HasOneLineArrays, IsOneLineCell, after_word, both, from_test, signed_decimal-one_line, text_of-one_line}

element_text-one_line : (e : Option ℤ) → IsOneLine (element_text e)
element_text-one_line None = from_test (codes "NULL") refl
element_text-one_line (Some z) = signed_decimal-one_line z

with_commas-one_line : (elements : List (Option ℤ)) → IsOneLine (with_commas elements)
with_commas-one_line [] = All-nil (λ b. b ≢ 10)
with_commas-one_line (e ∷ elements) =
    after_word (codes ",") (element_text e ++ with_commas elements) refl
    (both (element_text e) (with_commas elements) (element_text-one_line e) (with_commas-one_line elements))

joined-one_line : (elements : List (Option ℤ)) → IsOneLine (joined elements)
joined-one_line [] = All-nil (λ b. b ≢ 10)
joined-one_line (e ∷ elements) =
    both (element_text e) (with_commas elements) (element_text-one_line e) (with_commas-one_line elements)

explicit_bounds-one_line : (lower : ℤ) (count : ℕ) → IsOneLine (explicit_bounds lower count)
explicit_bounds-one_line lower count =
    let first = after_word (codes "[") (signed_decimal lower) refl (signed_decimal-one_line lower) in
    let colon = both (codes "[" ++ signed_decimal lower) (codes ":") first (from_test (codes ":") refl) in
    let last =
    both (codes "[" ++ signed_decimal lower ++ codes ":") (signed_decimal (last_of lower count)) colon
    (signed_decimal-one_line (last_of lower count)) in
    both (codes "[" ++ signed_decimal lower ++ codes ":" ++ signed_decimal (last_of lower count)) (codes "]=") last
    (from_test (codes "]=") refl)

if-one_line : (b : Bool) (x y : List ℕ) → IsOneLine x → IsOneLine y → IsOneLine (if b then x else y)
if-one_line true x y h k = h
if-one_line false x y h k = k

bounds_of-one_line : (a : Array) → IsOneLine (bounds_of a)
bounds_of-one_line Empty = All-nil (λ b. b ≢ 10)
bounds_of-one_line (Bounded lower elements) =
    if-one_line (int_eq lower (pos 1)) [] (explicit_bounds lower (length elements)) (All-nil (λ b. b ≢ 10))
    (explicit_bounds-one_line lower (length elements))

array_text-one_line : (a : Array) → IsOneLine (array_text a)
array_text-one_line a =
    let opened = both (bounds_of a) (codes "{") (bounds_of-one_line a) (from_test (codes "{") refl) in
    let filled = both (bounds_of a ++ codes "{") (joined (elements_of a)) opened (joined-one_line (elements_of a)) in
    both (bounds_of a ++ codes "{" ++ joined (elements_of a)) (codes "}") filled (from_test (codes "}") refl)

-- texts of replies

text-one_line : (text : List ℕ) → IsArrayText text → IsOneLine text
text-one_line text is = rw is.printed (array_text-one_line is.array)

cell-one_line : (cell : Cell) → HasArrayText cell → IsOneLineCell cell
cell-one_line (cells.Text text) is = text-one_line text is
cell-one_line other is = tt

cells-one_line : (row : List Cell) → AllByRecursion HasArrayText row → AllByRecursion IsOneLineCell row
cells-one_line [] are = tt
cells-one_line (cell ∷ row) are = (cell-one_line cell are.0, cells-one_line row are.1)

arrays-one_line : (reply : Reply) → HasArrayTexts reply → HasOneLineArrays reply
arrays-one_line (Row row) are = cells-one_line row are
arrays-one_line (Text text) is = text-one_line text is
arrays-one_line other are = tt

pub reply_to-one_line : (st : State) (s : ℕ) (request : Request) → IsOneLine (text_of (reply_to st s request))
reply_to-one_line st s request =
    text_of-one_line (reply_to st s request) (arrays-one_line (reply_to st s request) (reply_to-printed st s request))
