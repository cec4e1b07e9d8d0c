-- The tokens of a line and the values that they spell.
use Rattle.std.specs.Borrow.{Bor}
use Rattle.std.specs.Prelude.{ℕ, ℤ, pos, negsuc, ◌+◌, ◌-◌, ◌^◌, ◌==◌, ◌&&◌, Bool, false, nat_le, nat_lt, List, [], ◌∷◌, length, take, drop, Option, Some, None, option_map, option_and_then, if◌then◌else◌, codes, bytes_eq}
use Rattle.std.specs.Fmt.{signed_decimal}
use Rattle.std.specs.Int.Signed.{mag}
use Rattle.std.specs.List.{slice_split, list_all, find, range_with_len}
use Rattle.std.specs.Option.{option_map_or}
use Rattle.std.specs.Result.{result_ok}
use Rattle.std.specs.Str.Parse.{signed_digits_value}
use Rattle.hex.specs.Hex.{decode_of}
use Rattle.lo_base.specs.Name.{starts_name, continues_name}
use Rattle.lo_machine.specs.Spelled.{sweep_limit}

-- the pieces of a text that is cut at every such byte
abbrev pub pieces_of : (at : ℕ) → (text : List ℕ) → List (List ℕ)
pieces_of at text = slice_split (λ b. b == at) text

-- the pieces of what a cut has left, if anything
abbrev pub pieces_left : (at : ℕ) → Option (Bor (List ℕ)) → List (List ℕ)
pieces_left at left = option_map_or (λ (r : Bor (List ℕ)). pieces_of at r.now) left []

-- the byte that a text was cut at, and the bytes after it
abbrev pub length_left : Option (Bor (List ℕ)) → ℕ
length_left left = option_map_or (λ (r : Bor (List ℕ)). 1 + length r.now) left 0

-- what stands before the first such byte, and what stands after it
abbrev pub cut_at : (at : ℕ) → (token : List ℕ) → Option (List ℕ × List ℕ)
cut_at at [] = None
cut_at at (b ∷ token) = if b == at then Some ([], token) else option_map (λ cut. (b ∷ cut.0, cut.1)) (cut_at at token)

-- the same, of a cut that was made
abbrev pub cut_in : (front : List ℕ) → (left : Option (Bor (List ℕ))) → Option (List ℕ × List ℕ)
cut_in front left = option_map (λ (r : Bor (List ℕ)). (front, r.now)) left

abbrev pub TokenList : Type 0
TokenList = List (List ℕ)

-- a line is cut at every space, so two spaces enclose an empty token
abbrev pub tokens_of : (line : List ℕ) → TokenList
tokens_of line = pieces_of 32 line

-- What is left of a line: its tokens, and the column where the first of them begins. Where no token is left, that is the line's
-- length plus 1.
pub record Rest : Type 0 where
  pub tokens : TokenList
  pub column : ℕ

abbrev pub rest_of : (line : List ℕ) → (left : Option (Bor (List ℕ))) → Rest
rest_of line left = record { tokens = pieces_left 32 left; column = length line - option_map_or (λ (r : Bor (List ℕ)). length r.now) left 0 + 1 }

-- the column after a token: a space follows it, if a token does
abbrev pub column_after : (column : ℕ) → (token : List ℕ) → (others : TokenList) → ℕ
column_after column token [] = column + length token
column_after column token (next ∷ others) = column + length token + 1

-- the number that prints as this token: its value by digits, if that number prints so. Hence no leading zero, no plus sign, and
-- no sign before 0
abbrev pub integer_of : (token : List ℕ) → Option ℤ
integer_of token = if bytes_eq (signed_decimal (signed_digits_value 10 token)) token then Some (signed_digits_value 10 token) else None

-- the number, if it is in the range from -half to half - 1: `mag` is n of n, and of -(n + 1)
abbrev pub in_range : (half : ℕ) → ℤ → Option ℤ
in_range half n = if nat_lt (mag n) half then Some n else None

-- a decimal in the range of i64
abbrev pub int8_of : (token : List ℕ) → Option ℤ
int8_of token = option_and_then (in_range (2 ^ 63)) (integer_of token)

-- a decimal in the range of i32
abbrev pub int4_of : (token : List ℕ) → Option ℤ
int4_of token = option_and_then (in_range (2 ^ 31)) (int8_of token)

-- the greatest number of a large object
abbrev pub oid_limit : ℕ
oid_limit = 4294967295

abbrev pub natural_to : (most : ℕ) → ℤ → Option ℕ
natural_to most (pos n) = if nat_le n most then Some n else None
natural_to most (negsuc n) = None

-- a decimal from 0 to the greatest number of a large object
abbrev pub oid_of : (token : List ℕ) → Option ℕ
oid_of token = option_and_then (natural_to oid_limit) (int8_of token)

-- a decimal from 0 to the greatest limit of a clean-up
abbrev pub limit_of : (token : List ℕ) → Option ℕ
limit_of token = option_and_then (natural_to sweep_limit) (int8_of token)

abbrev pub of_at_most : (most : ℕ) → List ℕ → Option (List ℕ)
of_at_most most bytes = if nat_le (length bytes) most then Some bytes else None

-- at most so many bytes, spelled as `\x` and two hexadecimal digits of either case for each (PostgreSQL manual, Binary Data
-- Types, bytea Hex Format)
abbrev pub bytes_of : (most : ℕ) → (token : List ℕ) → Option (List ℕ)
bytes_of most token =
    if bytes_eq (take 2 token) (codes "\\x") then option_and_then (of_at_most most) (result_ok (decode_of (drop 2 token))) else None

-- a name: at most 63 bytes, the first a small letter or `_`, the others these or digits
abbrev pub is_name : (token : List ℕ) → Bool
is_name [] = false
is_name (first ∷ others) = starts_name first && list_all continues_name others && nat_le (length others) 62

abbrev pub name_of : (token : List ℕ) → Option (List ℕ)
name_of token = if is_name token then Some token else None

abbrev pub begins : (front token : List ℕ) → Bool
begins front token = bytes_eq front (take (length front) token)

-- a word of the grammar, which stands for nothing else
abbrev pub keyword_of : (word token : List ℕ) → Option (Unit {0})
keyword_of word token = if bytes_eq token word then Some tt else None

-- a session's mark is its letter, `A` for 1, and a colon
abbrev pub mark_of : (session : ℕ) → List ℕ
mark_of session = (session + 64) ∷ codes ":"

-- the session whose mark the token is, of all sixteen
abbrev pub session_of : (token : List ℕ) → Option ℕ
session_of token = find (λ session. bytes_eq token (mark_of session)) (range_with_len 1 16)
