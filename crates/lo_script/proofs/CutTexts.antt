-- Lines and tokens: parts of a cut text.
use Rattle.std.proofs.Common.{◌≡◌, ℕ, ◌+◌, ◌<◌, ◌≤◌, ◌==◌, Bool, Some, None, List, [], ◌∷◌, length, take, drop, get_or, not, true, false, ◌-◌, length-drop, zero, suc, refl, sym, ◌∙◌, arith}
use Rattle.std.specs.Prelude.{Option, IsTrue}
use Rattle.std.specs.Option.{is_some, option_map_or}
use Rattle.std.specs.Borrow.{Bor}
use Rattle.std.specs.List.{slice_split, position, position_or_len}
use Rattle.std.specs.Str.Lines.{lines, lines_of_parts, strip_carriage_return}
use Rattle.std.proofs.lemmas.List.Splits.{length-slice_split, slice_split_first, slice_split_none}
use Rattle.std.proofs.lemmas.List.Quantifiers.{position-Some}
use Rattle.std.proofs.lemmas.List.Sums.{position_or_len_is, fails_before_first}
use Rattle.std.proofs.lemmas.List.Elements.{All-from_get_or}
use Rattle.std.proofs.lemmas.List.{take_all}
use Rattle.std.proofs.lemmas.Bool.Decides.{nat_tests}
use Rattle.lo_script.specs.Token.{cut_at, column_after, length_left, pieces_of, pieces_left, rest_of}

-- a cut gives one part or more
pub slice_split-some : {X : Type 0} (p : X → Bool) (xs : List X) → 0 < length (slice_split p xs)
slice_split-some p xs = let e = length-slice_split p xs in omega (arith, e)

pub lines_of_parts-more : (x : List ℕ) (parts : List (List ℕ)) → 0 < length parts → lines_of_parts (x ∷ parts) ≡ strip_carriage_return x ∷ lines_of_parts parts
lines_of_parts-more x [] some = absurd (omega arith)
lines_of_parts-more x (y ∷ more) some = refl

-- the first part of a cut, by the first index at which the test passes
pub slice_split-at_position : {X : Type 0} (p : X → Bool) (xs : List X) (i : ℕ) (d : X) → position p xs ≡ Some i → slice_split p xs ≡ take i xs ∷ slice_split p (drop (i + 1) xs)
slice_split-at_position p xs i d h =
    let found = position-Some p xs i d h in
    let at : position_or_len p xs ≡ i = position_or_len_is p xs i d (omega (arith, found.0)) found.2 (λ _. found.1) in
    let within : position_or_len p xs < length xs = rw at found.0 in
    slice_split_first p xs d within ∙ rw at refl

-- the same, with the rest as a slice up to the end
pub slice_split-sliced : {X : Type 0} (p : X → Bool) (xs : List X) (i : ℕ) (d : X) → position p xs ≡ Some i → slice_split p xs ≡ take i xs ∷ slice_split p (take (length xs - (i + 1)) (drop (i + 1) xs))
slice_split-sliced p xs i d h =
    let len = length-drop (i + 1) xs in
    let whole : take (length xs - (i + 1)) (drop (i + 1) xs) ≡ drop (i + 1) xs = take_all (length xs - (i + 1)) (drop (i + 1) xs) (omega (arith, len)) in
    rw whole (slice_split-at_position p xs i d h)

none_before_end : {X : Type 0} (p : X → Bool) (xs : List X) → position p xs ≡ None → (d : X) → (i : ℕ) → i < length xs → p (get_or xs i d) ≡ false
none_before_end p xs h d i within = fails_before_first p xs i d (grind (arith, nat_tests))

pub slice_split-at_none : {X : Type 0} (p : X → Bool) (xs : List X) → position p xs ≡ None → slice_split p xs ≡ xs ∷ []
slice_split-at_none p [] h = refl
slice_split-at_none p (x ∷ xs) h = slice_split_none p (x ∷ xs) (All-from_get_or (λ y. p y ≡ false) (x ∷ xs) x (none_before_end p (x ∷ xs) h x))

-- the cut at the first such byte, by its index
cut_at-index : (at : ℕ) (text : List ℕ) (i : ℕ) → i < length text → (get_or text i 0 == at) ≡ true → ((k : ℕ) → k < i → (get_or text k 0 == at) ≡ false) → cut_at at text ≡ Some (take i text, drop (i + 1) text)
cut_at-index at [] i within here before = absurd (omega (arith, within))
cut_at-index at (b ∷ text) zero within here before = rw here refl
cut_at-index at (b ∷ text) (suc i) within here before =
    let other : (b == at) ≡ false = before 0 (omega arith) in
    let more : cut_at at text ≡ Some (take i text, drop (i + 1) text) = cut_at-index at text i (omega (arith, within)) here (λ k low. before (suc k) (omega (arith, low))) in
    let behind : suc i + 1 ≡ suc (i + 1) = omega arith in
    rw (other, more, behind) refl

cut_at-absent : (at : ℕ) (text : List ℕ) → ((i : ℕ) → i < length text → (get_or text i 0 == at) ≡ false) → cut_at at text ≡ None
cut_at-absent at [] other = refl
cut_at-absent at (b ∷ text) other =
    let here : (b == at) ≡ false = other 0 (omega arith) in
    let more : cut_at at text ≡ None = cut_at-absent at text (λ i within. other (suc i) (omega (arith, within))) in
    rw (here, more) refl

pub cut_at-sliced : (at : ℕ) (text : List ℕ) (i : ℕ) → position (λ b. b == at) text ≡ Some i → cut_at at text ≡ Some (take i text, take (length text - (i + 1)) (drop (i + 1) text))
cut_at-sliced at text i h =
    let found = position-Some (λ b. b == at) text i 0 h in
    let len = length-drop (i + 1) text in
    let whole : take (length text - (i + 1)) (drop (i + 1) text) ≡ drop (i + 1) text = take_all (length text - (i + 1)) (drop (i + 1) text) (omega (arith, len)) in
    rw whole (cut_at-index at text i found.0 found.1 found.2)

pub cut_at-none : (at : ℕ) (text : List ℕ) → position (λ b. b == at) text ≡ None → cut_at at text ≡ None
cut_at-none at text h = cut_at-absent at text (none_before_end (λ b. b == at) text h 0)

-- no cut gives no part
pub slice_split-not_nil : {X : Type 0} (p : X → Bool) (xs : List X) → slice_split p xs ≡ [] → ⊥
slice_split-not_nil p xs h = let some = slice_split-some p xs in let none : length (slice_split p xs) ≡ 0 = rw h refl in omega (arith, some, none)

-- the first line of a text, whose line feed stands at the first cut
pub first_of_lines : (text line after : List ℕ) → slice_split (λ b. b == 10) text ≡ line ∷ slice_split (λ b. b == 10) after → lines text ≡ strip_carriage_return line ∷ lines after
first_of_lines text line after h = rw h (lines_of_parts-more line (slice_split (λ b. b == 10) after) (slice_split-some (λ b. b == 10) after))

-- no token is left exactly where no rest of the line is left, since a rest has one token or more
pub no_rest : {A : Type 0} (tokens : A → List (List ℕ)) (rest : Option A) (left : List (List ℕ)) (r : Bool) → ((a : A) → tokens a ≡ [] → ⊥) → option_map_or tokens rest [] ≡ left → is_some rest ≡ not r → (IsTrue r → left ≡ []) × (left ≡ [] → IsTrue r)
no_rest tokens None left true some is h = (λ _. sym is, λ _. refl)
no_rest tokens None left false some is h = cc h
no_rest tokens (Some a) left true some is h = cc h
no_rest tokens (Some a) left false some is h = (λ e. cc e, λ none. absurd (some a (is ∙ none)))

-- the column after a token that others follow
after_token : (column : ℕ) (token : List ℕ) (others : List (List ℕ)) → 0 < length others → column_after column token others ≡ column + length token + 1
after_token column token [] some = absurd (omega (arith, some))
after_token column token (next ∷ others) some = refl

-- where the rest of a line was cut, the column is that after the token before the cut
pub cut_column : (line rest token : List ℕ) (after : Option (Bor (List ℕ))) → length rest ≤ length line → length token + length_left after ≡ length rest → (rest_of line after).column ≡ column_after (length line - length rest + 1) token (pieces_left 32 after)
cut_column line rest token None within whole = omega (arith, within, whole)
cut_column line rest token (Some r) within whole =
    let next = after_token (length line - length rest + 1) token (pieces_of 32 r.now) (slice_split-some (λ b. b == 32) r.now) in
    omega (arith, within, whole, next)
