-- What a form is made of: readers of tokens, one after the other.
use Rattle.std.specs.Prelude.{ℕ, List, [], ◌∷◌, ◌++◌, Option, if◌then◌else◌, bytes_eq}
use Rattle.lo_base.specs.declared.request.Request.{Request}
use Rattle.lo_script.specs.Reading.{Reading, Read, BadAt, read_at, read_and}
use Rattle.lo_script.specs.Token.{TokenList, column_after}

-- what tokens spell, the first of which begins at a column
abbrev pub Reader : Type 0 → Type 0
Reader R = (column : ℕ) → (tokens : TokenList) → Reading R

-- the first token spells a value, and the others go on with it
abbrev pub first_token : {A R : Type 0} → (value : List ℕ → Option A) → (others : A → Reader R) → Reader R
first_token value others column [] = BadAt column
first_token value others column (token ∷ tokens) = read_and (λ a. others a (column_after column token tokens) tokens) (read_at column (value token))

abbrev pub no_token : {R : Type 0} → R → Reader R
no_token r column [] = Read r
no_token r column (token ∷ tokens) = BadAt column

-- one token and no more
abbrev pub one_token : {A R : Type 0} → (value : List ℕ → Option A) → (A → R) → Reader R
one_token value make = first_token value (λ a. no_token (make a))

-- two tokens and no more
abbrev pub two_tokens : {A B R : Type 0} → (first : List ℕ → Option A) → (second : List ℕ → Option B) → (A → B → R) → Reader R
two_tokens first second make = first_token first (λ a. one_token second (make a))

-- three tokens and no more
abbrev pub three_tokens : {A B C R : Type 0} → (first : List ℕ → Option A) → (second : List ℕ → Option B) → (third : List ℕ → Option C) → (A → B → C → R) → Reader R
three_tokens first second third make = first_token first (λ a. two_tokens second third (make a))

-- four tokens and no more
abbrev pub four_tokens : {A B C D R : Type 0} → (first : List ℕ → Option A) → (second : List ℕ → Option B) → (third : List ℕ → Option C) → (fourth : List ℕ → Option D) → (A → B → C → D → R) → Reader R
four_tokens first second third fourth make = first_token first (λ a. three_tokens second third fourth (make a))

-- that value where no token is left, and otherwise what the tokens spell
abbrev pub none_or : {R : Type 0} → R → (others : Reader R) → Reader R
none_or r others column [] = Read r
none_or r others column (token ∷ tokens) = others column (token ∷ tokens)

-- what stands behind that word, and where the first token is no such word, what the tokens spell
abbrev pub behind_word_or : {R : Type 0} → (word : List ℕ) → (behind others : Reader R) → Reader R
behind_word_or word behind others column [] = others column []
behind_word_or word behind others column (token ∷ tokens) =
    if bytes_eq token word then behind (column_after column token tokens) tokens else others column (token ∷ tokens)

-- Items, one for each token that is left, after those of the tokens before. What a token spells may depend on the items so far.
abbrev pub more_tokens : {A R : Type 0} → (item : List A → List ℕ → Option A) → (List A → R) → (so_far : List A) → Reader R
more_tokens item make so_far column [] = Read (make so_far)
more_tokens item make so_far column (token ∷ tokens) =
    read_and (λ a. more_tokens item make (so_far ++ a ∷ []) (column_after column token tokens) tokens) (read_at column (item so_far token))

-- one token or more, each of which spells an item
abbrev pub list_of_tokens : {A R : Type 0} → (first : List ℕ → Option A) → (item : List A → List ℕ → Option A) → (List A → R) → Reader R
list_of_tokens first item make = first_token first (λ a. more_tokens item make (a ∷ []))

-- a form: its word, and the request that the tokens after it spell
pub record Form : Type 0 where
  pub word : List ℕ
  pub request : Reader Request

abbrev pub form : (word : List ℕ) → (request : Reader Request) → Form
form word request = record { word = word; request = request }
