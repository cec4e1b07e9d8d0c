-- What it says of the tokens that a reader read a value from them.
use Rattle.std.proofs.Common.{◌≡◌, ℕ, List, [], ◌∷◌, ◌++◌, Some, None, refl, ap, inl, inr}
use Rattle.std.specs.Prelude.{Option, bytes_eq}
use Rattle.std.proofs.lemmas.Slice.Eq.{bytes_eq-Decides}
use Rattle.lo_script.specs.Reader.{Reader, first_token, no_token, one_token, two_tokens, three_tokens, four_tokens, none_or, behind_word_or, more_tokens}
use Rattle.lo_script.specs.Reading.{Reading, Read, BadAt, read_at, read_and, value_of}
use Rattle.lo_script.specs.Token.{TokenList, column_after}
use Rattle.lo_script.proofs.DecimalsAndBytes.{tested, some_injective}

abbrev read_or : {A : Type 0} → A → Reading A → A
read_or other (Read a) = a
read_or other (BadAt column) = other

pub read_injective : {A : Type 0} (a b : A) → Read a ≡ Read b → a ≡ b
read_injective a b h = ap (read_or a) h

pub read_and-some : {A B : Type 0} (f : A → Reading B) (o : Reading A) (b : B) → read_and f o ≡ Read b → (a : A) × (o ≡ Read a) × (f a ≡ Read b)
read_and-some f (BadAt column) b h = cc h
read_and-some f (Read a) b h = (a, refl, h)

pub read_at-some : {A : Type 0} (column : ℕ) (o : Option A) (a : A) → read_at column o ≡ Read a → o ≡ Some a
read_at-some column None a h = cc h
read_at-some column (Some b) a h = ap Some (read_injective b a h)

pub value_of-some : {A : Type 0} (o : Reading A) (a : A) → value_of o ≡ Some a → o ≡ Read a
value_of-some (BadAt column) a h = cc h
value_of-some (Read b) a h = ap Read (some_injective b a h)

-- a first token that spells a value
pub record First {A R : Type 0} (value : List ℕ → Option A) (others : A → Reader R) (column : ℕ) (tokens : TokenList) (r : R) : Type 0 where
  pub token : List ℕ
  pub more : TokenList
  pub a : A
  pub is : tokens ≡ token ∷ more
  pub spells : value token ≡ Some a
  pub left : others a (column_after column token more) more ≡ Read r

pub first_token-some : {A R : Type 0} (value : List ℕ → Option A) (others : A → Reader R) (column : ℕ) (tokens : TokenList) (r : R) → first_token value others column tokens ≡ Read r → First value others column tokens r
first_token-some value others column [] r h = cc h
first_token-some value others column (token ∷ more) r h =
    let found = read_and-some (λ a. others a (column_after column token more) more) (read_at column (value token)) r h in
    record { token = token; more = more; a = found.0; is = refl; spells = read_at-some column (value token) found.0 found.1; left = found.2 }

-- Each value that a reader finds has a property, together with the tokens that it was read from.
abbrev pub Finds : {R : Type 0} → (reader : Reader R) → (Has : TokenList → R → Type 0) → Type 0
Finds reader Has = (column : ℕ) (tokens : TokenList) (r : _) → reader column tokens ≡ Read r → Has tokens r

pub no_token-finds : {R : Type 0} (Has : TokenList → R → Type 0) (made : R) → Has [] made → Finds (no_token made) Has
no_token-finds Has made h column [] r e = rw (← read_injective made r e) h
no_token-finds Has made h column (token ∷ more) r e = cc e

pub none_or-finds : {R : Type 0} (Has : TokenList → R → Type 0) (made : R) (others : Reader R) → Has [] made → Finds others Has → Finds (none_or made others) Has
none_or-finds Has made others h k column [] r e = rw (← read_injective made r e) h
none_or-finds Has made others h k column (token ∷ more) r e = k column (token ∷ more) r e

pub behind_word_or-finds : {R : Type 0} (Has : TokenList → R → Type 0) (word : List ℕ) (behind others : Reader R) → Finds behind (λ more. Has (word ∷ more)) → Finds others Has
    → Finds (behind_word_or word behind others) Has
behind_word_or-finds Has word behind others h k column [] r e = k column [] r e
behind_word_or-finds Has word behind others h k column (token ∷ more) r e = elim (tested (bytes_eq token word)) [
  | inl same ↦
      let is : token ≡ word = (bytes_eq-Decides token word).0 same in
      rw is (h (column_after column token more) more r (rw same at e))
  | inr other ↦ k column (token ∷ more) r (rw other at e)
]

pub first_token-finds : {A R : Type 0} (Has : TokenList → R → Type 0) (value : List ℕ → Option A) (others : A → Reader R)
    → ((token : List ℕ) (a : A) → value token ≡ Some a → Finds (others a) (λ more. Has (token ∷ more))) → Finds (first_token value others) Has
first_token-finds Has value others h column tokens r e =
    let f = first_token-some value others column tokens r e in
    rw f.is (h f.token f.a f.spells (column_after column f.token f.more) f.more r f.left)

pub one_token-finds : {A R : Type 0} (Has : TokenList → R → Type 0) (value : List ℕ → Option A) (make : A → R)
    → ((token : List ℕ) (a : A) → value token ≡ Some a → Has (token ∷ []) (make a)) → Finds (one_token value make) Has
one_token-finds Has value make h =
    first_token-finds Has value (λ a. no_token (make a)) (λ token a is. no_token-finds (λ more. Has (token ∷ more)) (make a) (h token a is))

pub two_tokens-finds : {A B R : Type 0} (Has : TokenList → R → Type 0) (first : List ℕ → Option A) (second : List ℕ → Option B) (make : A → B → R)
    → ((t u : List ℕ) (a : A) (b : B) → first t ≡ Some a → second u ≡ Some b → Has (t ∷ u ∷ []) (make a b)) → Finds (two_tokens first second make) Has
two_tokens-finds Has first second make h =
    first_token-finds Has first (λ a. one_token second (make a)) (λ t a is. one_token-finds (λ more. Has (t ∷ more)) second (make a) (λ u b. h t u a b is))

pub three_tokens-finds : {A B C R : Type 0} (Has : TokenList → R → Type 0) (first : List ℕ → Option A) (second : List ℕ → Option B) (third : List ℕ → Option C) (make : A → B → C → R)
    → ((t u v : List ℕ) (a : A) (b : B) (c : C) → first t ≡ Some a → second u ≡ Some b → third v ≡ Some c → Has (t ∷ u ∷ v ∷ []) (make a b c)) → Finds (three_tokens first second third make) Has
three_tokens-finds Has first second third make h =
    first_token-finds Has first (λ a. two_tokens second third (make a)) (λ t a is. two_tokens-finds (λ more. Has (t ∷ more)) second third (make a) (λ u v b c. h t u v a b c is))

pub four_tokens-finds : {A B C D R : Type 0} (Has : TokenList → R → Type 0) (first : List ℕ → Option A) (second : List ℕ → Option B) (third : List ℕ → Option C) (fourth : List ℕ → Option D) (make : A → B → C → D → R)
    → ((t u v w : List ℕ) (a : A) (b : B) (c : C) (d : D) → first t ≡ Some a → second u ≡ Some b → third v ≡ Some c → fourth w ≡ Some d → Has (t ∷ u ∷ v ∷ w ∷ []) (make a b c d)) → Finds (four_tokens first second third fourth make) Has
four_tokens-finds Has first second third fourth make h =
    first_token-finds Has first (λ a. three_tokens second third fourth (make a)) (λ t a is. three_tokens-finds (λ more. Has (t ∷ more)) second third fourth (make a) (λ u v w b c d. h t u v w a b c d is))

-- The first token was read: the others go on with its value.
pub first_read : {A R : Type 0} (value : List ℕ → Option A) (others : A → Reader R) {before after : TokenList} {column next start : ℕ} {token : List ℕ} {a : A}
    → before ≡ token ∷ after → start ≡ column → next ≡ column_after start token after → read_at start (value token) ≡ Read a
    → others a next after ≡ first_token value others column before
first_read value others {before} {after} {column} {next} {start} {token} {a} is here there read =
    let spells : value token ≡ Some a = read_at-some start (value token) a read in
    rw (is, spells, there, here) refl

-- One token more of a list was read.
pub more_read : {A R : Type 0} (item : List A → List ℕ → Option A) (make : List A → R) (so_far : List A) {longer : List A} {before after : TokenList} {column next start : ℕ} {token : List ℕ} {a : A}
    → before ≡ token ∷ after → start ≡ column → next ≡ column_after start token after → read_at start (item so_far token) ≡ Read a → longer ≡ so_far ++ a ∷ []
    → more_tokens item make longer next after ≡ more_tokens item make so_far column before
more_read item make so_far {longer} {before} {after} {column} {next} {start} {token} {a} is here there read pushed =
    let spells : item so_far token ≡ Some a = read_at-some start (item so_far token) a read in
    rw (is, spells, pushed, there, here) refl
