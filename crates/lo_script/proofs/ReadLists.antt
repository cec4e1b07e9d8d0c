-- Lists that are read from tokens: what the reader found, and that spelled lists are read.
use Rattle.std.proofs.Common.{◌≡◌, ℕ, ◌<◌, List, [], ◌∷◌, ◌++◌, length, map, Some, true, false, refl, sym, ap, subst, ◌∙◌, inl, inr, append_assoc, append-nil, arith}
use Rattle.std.specs.Prelude.{◌≢◌, Option, bytes_eq, ◌||◌, Bool}
use Rattle.std.specs.List.{AllByRecursion}
use Rattle.std.proofs.lemmas.Slice.Eq.{bytes_eq-Decides}
use Rattle.toast_plan.specs.Columns.{AreDistinct}
use Rattle.lo_script.specs.Reader.{more_tokens, list_of_tokens}
use Rattle.lo_script.specs.Reading.{Read, read_at}
use Rattle.lo_script.specs.SpelledValues.{SpellAll}
use Rattle.lo_script.specs.Token.{TokenList, column_after}
use Rattle.lo_script.specs.ValueToken.{is_among, if_new}
use Rattle.lo_script.proofs.DecimalsAndBytes.{tested, some_injective}
use Rattle.lo_script.proofs.Readers.{Finds, first_token-finds, read_and-some, read_at-some, read_injective}

-- One item more

pub AllByRecursion-push : {A : Type 0} (P : A → Type 0) (items : List A) (a : A) → AllByRecursion P items → P a → AllByRecursion P (items ++ a ∷ [])
AllByRecursion-push P [] a all one = (one, tt)
AllByRecursion-push P (b ∷ items) a all one = (all.0, AllByRecursion-push P items a all.1 one)

pub SpellAll-push : {A : Type 0} (Spell : List ℕ → A → Type 0) (tokens : TokenList) (items : List A) (token : List ℕ) (a : A) → SpellAll Spell tokens items → Spell token a → SpellAll Spell (tokens ++ token ∷ []) (items ++ a ∷ [])
SpellAll-push Spell [] [] token a all one = (one, tt)
SpellAll-push Spell [] (b ∷ items) token a all one = absurd all
SpellAll-push Spell (t ∷ tokens) [] token a all one = absurd all
SpellAll-push Spell (t ∷ tokens) (b ∷ items) token a all one = (all.0, SpellAll-push Spell tokens items token a all.1 one)

pub some_more : {A : Type 0} (items : List A) (a : A) → 0 < length (items ++ a ∷ [])
some_more [] a = omega arith
some_more (b ∷ items) a = omega arith

-- What is found

-- the items that make the value have the property, together with the tokens
pub record FoundList {A R : Type 0} (Has : TokenList → List A → Type 0) (make : List A → R) (tokens : TokenList) (r : R) : Type 0 where
  pub items : List A
  pub is : make items ≡ r
  pub has : Has tokens items

more_tokens-finds : {A R : Type 0} (Has : TokenList → List A → Type 0) (item : List A → List ℕ → Option A) (make : List A → R)
    → ((tokens : TokenList) (so_far : List A) (token : List ℕ) (a : A) → Has tokens so_far → item so_far token ≡ Some a → Has (tokens ++ token ∷ []) (so_far ++ a ∷ []))
    → (before : TokenList) (so_far : List A) → Has before so_far
    → (column : ℕ) (tokens : TokenList) (r : R) → more_tokens item make so_far column tokens ≡ Read r → FoundList Has make (before ++ tokens) r
more_tokens-finds Has item make step before so_far has column [] r h =
    record { items = so_far; is = read_injective (make so_far) r h; has = subst (λ tokens. Has tokens so_far) (sym (append-nil before)) has }
more_tokens-finds Has item make step before so_far has column (token ∷ tokens) r h =
    let found = read_and-some (λ a. more_tokens item make (so_far ++ a ∷ []) (column_after column token tokens) tokens) (read_at column (item so_far token)) r h in
    let more = more_tokens-finds Has item make step (before ++ token ∷ []) (so_far ++ found.0 ∷ []) (step before so_far token found.0 has (read_at-some column (item so_far token) found.0 found.1)) (column_after column token tokens) tokens r found.2 in
    subst (λ ts. FoundList Has make ts r) (append_assoc before (token ∷ []) tokens) more

pub list_of_tokens-finds : {A R : Type 0} (Has : TokenList → List A → Type 0) (first : List ℕ → Option A) (item : List A → List ℕ → Option A) (make : List A → R)
    → ((token : List ℕ) (a : A) → first token ≡ Some a → Has (token ∷ []) (a ∷ []))
    → ((tokens : TokenList) (so_far : List A) (token : List ℕ) (a : A) → Has tokens so_far → item so_far token ≡ Some a → Has (tokens ++ token ∷ []) (so_far ++ a ∷ []))
    → Finds (list_of_tokens first item make) (FoundList Has make)
list_of_tokens-finds Has first item make start step =
    first_token-finds (FoundList Has make) first (λ a. more_tokens item make (a ∷ []))
    (λ token a is. more_tokens-finds Has item make step (token ∷ []) (a ∷ []) (start token a is))

-- What is read

-- spelled items are read, where each next one is, given that the list so far with it and those after it is allowed
pub more_tokens-read : {A R : Type 0} (item : List A → List ℕ → Option A) (make : List A → R) (Spell : List ℕ → A → Type 0) (Each : A → Type 0) (Whole : List A → Type 0)
    → ((so_far : List A) (token : List ℕ) (a : A) (after : List A) → Spell token a → Each a → Whole (so_far ++ a ∷ after) → item so_far token ≡ Some a)
    → (so_far : List A) (column : ℕ) (tokens : TokenList) (items : List A) → SpellAll Spell tokens items → AllByRecursion Each items → Whole (so_far ++ items)
    → more_tokens item make so_far column tokens ≡ Read (make (so_far ++ items))
more_tokens-read item make Spell Each Whole next so_far column [] [] spelled each whole = ap (λ items. Read (make items)) (sym (append-nil so_far))
more_tokens-read item make Spell Each Whole next so_far column [] (a ∷ items) spelled each whole = absurd spelled
more_tokens-read item make Spell Each Whole next so_far column (token ∷ tokens) [] spelled each whole = absurd spelled
more_tokens-read item make Spell Each Whole next so_far column (token ∷ tokens) (a ∷ items) spelled each whole =
    let split = append_assoc so_far (a ∷ []) items in
    let more = more_tokens-read item make Spell Each Whole next (so_far ++ a ∷ []) (column_after column token tokens) tokens items spelled.1 each.1 (subst Whole (sym split) whole) in
    rw (next so_far token a items spelled.0 each.0 whole) (more ∙ ap (λ all. Read (make all)) split)

-- Names that stand once

pub if_new-some : {A : Type 0} (name_in : A → List ℕ) (so_far : List A) (a b : A) → if_new name_in so_far a ≡ Some b → (a ≡ b) × (is_among name_in so_far (name_in a) ≡ false)
if_new-some name_in so_far a b h = elim (tested (is_among name_in so_far (name_in a))) [
  | inl among ↦ let none = rw among at h in cc none
  | inr new ↦ (some_injective a b (rw new at h), new)
]

pub or-none : (a b : Bool) → (a || b) ≡ false → (a ≡ false) × (b ≡ false)
or-none true b h = cc h
or-none false b h = (refl, h)

others_than : {A : Type 0} (name_in : A → List ℕ) (name : List ℕ) (items : List A) (a : A) → AllByRecursion (λ other. other ≢ name) (map name_in items) → name_in a ≢ name → AllByRecursion (λ other. other ≢ name) (map name_in (items ++ a ∷ []))
others_than name_in name [] a all one = (one, tt)
others_than name_in name (b ∷ items) a all one = (all.0, others_than name_in name items a all.1 one)

pub distinct_push : {A : Type 0} (name_in : A → List ℕ) (so_far : List A) (a : A) → AreDistinct (map name_in so_far) → is_among name_in so_far (name_in a) ≡ false → AreDistinct (map name_in (so_far ++ a ∷ []))
distinct_push name_in [] a distinct new = (tt, tt)
distinct_push name_in (b ∷ so_far) a distinct new =
    let tests = or-none (bytes_eq (name_in b) (name_in a)) (is_among name_in so_far (name_in a)) new in
    let other : name_in a ≢ name_in b = λ same. let test = (bytes_eq-Decides (name_in b) (name_in a)).1 (sym same) in cc (test, tests.0) in
    (others_than name_in (name_in b) so_far a distinct.0 other, distinct_push name_in so_far a distinct.1 tests.1)

in_the_middle : {A : Type 0} (name_in : A → List ℕ) (name : List ℕ) (items : List A) (a : A) (after : List A) → AllByRecursion (λ other. other ≢ name) (map name_in (items ++ a ∷ after)) → name_in a ≢ name
in_the_middle name_in name [] a after all = all.0
in_the_middle name_in name (b ∷ items) a after all = in_the_middle name_in name items a after all.1

pub distinct_new : {A : Type 0} (name_in : A → List ℕ) (so_far : List A) (a : A) (after : List A) → AreDistinct (map name_in (so_far ++ a ∷ after)) → is_among name_in so_far (name_in a) ≡ false
distinct_new name_in [] a after distinct = refl
distinct_new name_in (b ∷ so_far) a after distinct = elim (tested (bytes_eq (name_in b) (name_in a))) [
  | inl same ↦ absurd (in_the_middle name_in (name_in b) so_far a after distinct.0 (sym ((bytes_eq-Decides (name_in b) (name_in a)).0 same)))
  | inr other ↦ rw other (distinct_new name_in so_far a after distinct.1)
]

-- A list with its tokens

-- tokens that spell items, each of which has a property, and which together have another
pub record HasItems {A : Type 0} (Spell : List ℕ → A → Type 0) (Each : A → Type 0) (Whole : List A → Type 0) (tokens : TokenList) (items : List A) : Type 0 where
  pub spelled : SpellAll Spell tokens items
  pub each : AllByRecursion Each items
  pub whole : Whole items

has_first : {A : Type 0} (Spell : List ℕ → A → Type 0) (Each : A → Type 0) (Whole : List A → Type 0) (token : List ℕ) (a : A)
    → Spell token a × Each a → Whole (a ∷ []) → HasItems Spell Each Whole (token ∷ []) (a ∷ [])
has_first Spell Each Whole token a one whole = record { spelled = (one.0, tt); each = (one.1, tt); whole = whole }

has_more : {A : Type 0} (Spell : List ℕ → A → Type 0) (Each : A → Type 0) (Whole : List A → Type 0) (tokens : TokenList) (so_far : List A) (token : List ℕ) (a : A)
    → HasItems Spell Each Whole tokens so_far → Spell token a × Each a → Whole (so_far ++ a ∷ []) → HasItems Spell Each Whole (tokens ++ token ∷ []) (so_far ++ a ∷ [])
has_more Spell Each Whole tokens so_far token a has one whole = record {
  spelled = SpellAll-push Spell tokens so_far token a has.spelled one.0;
  each = AllByRecursion-push Each so_far a has.each one.1;
  whole = whole;
}

pub items-finds : {A R : Type 0} (Spell : List ℕ → A → Type 0) (Each : A → Type 0) (Whole : List A → Type 0) (first : List ℕ → Option A) (item : List A → List ℕ → Option A) (make : List A → R)
    → ((token : List ℕ) (a : A) → first token ≡ Some a → (Spell token a × Each a) × Whole (a ∷ []))
    → ((so_far : List A) (token : List ℕ) (a : A) → Whole so_far → item so_far token ≡ Some a → (Spell token a × Each a) × Whole (so_far ++ a ∷ []))
    → Finds (list_of_tokens first item make) (FoundList (HasItems Spell Each Whole) make)
items-finds Spell Each Whole first item make start step =
    list_of_tokens-finds (HasItems Spell Each Whole) first item make
    (λ token a is. let one = start token a is in has_first Spell Each Whole token a one.0 one.1)
    (λ tokens so_far token a has is. let one = step so_far token a has.whole is in has_more Spell Each Whole tokens so_far token a has one.0 one.1)

pub list_of_tokens-read : {A R : Type 0} (first : List ℕ → Option A) (item : List A → List ℕ → Option A) (make : List A → R) (Spell : List ℕ → A → Type 0) (Each : A → Type 0) (Whole : List A → Type 0)
    → ((token : List ℕ) (a : A) (after : List A) → Spell token a → Each a → Whole (a ∷ after) → first token ≡ Some a)
    → ((so_far : List A) (token : List ℕ) (a : A) (after : List A) → Spell token a → Each a → Whole (so_far ++ a ∷ after) → item so_far token ≡ Some a)
    → (column : ℕ) (tokens : TokenList) (items : List A) → SpellAll Spell tokens items → AllByRecursion Each items → Whole items → 0 < length items
    → list_of_tokens first item make column tokens ≡ Read (make items)
list_of_tokens-read first item make Spell Each Whole start next column [] [] spelled each whole some = absurd (omega (arith, some))
list_of_tokens-read first item make Spell Each Whole start next column [] (a ∷ items) spelled each whole some = absurd spelled
list_of_tokens-read first item make Spell Each Whole start next column (token ∷ tokens) [] spelled each whole some = absurd spelled
list_of_tokens-read first item make Spell Each Whole start next column (token ∷ tokens) (a ∷ items) spelled each whole some =
    rw (start token a items spelled.0 each.0 whole) (more_tokens-read item make Spell Each Whole next (a ∷ []) (column_after column token tokens) tokens items spelled.1 each.1 whole)

-- items whose printed forms spell them
pub all_printed : {A : Type 0} (Spell : List ℕ → A → Type 0) (print : A → List ℕ) (Each : A → Type 0) → ((a : A) → Each a → Spell (print a) a) → (items : List A) → AllByRecursion Each items → SpellAll Spell (map print items) items
all_printed Spell print Each printed [] each = tt
all_printed Spell print Each printed (a ∷ items) each = (printed a each.0, all_printed Spell print Each printed items each.1)

pub all_weaker : {A : Type 0} (P Q : A → Type 0) → ((a : A) → P a → Q a) → (items : List A) → AllByRecursion P items → AllByRecursion Q items
all_weaker P Q weaker [] all = tt
all_weaker P Q weaker (a ∷ items) all = (weaker a all.0, all_weaker P Q weaker items all.1)

pub all_both : {A : Type 0} (P Q : A → Type 0) (items : List A) → AllByRecursion P items → AllByRecursion Q items → AllByRecursion (λ a. P a × Q a) items
all_both P Q [] all more = tt
all_both P Q (a ∷ items) all more = ((all.0, more.0), all_both P Q items all.1 more.1)

-- one token spells one item
pub record OneToken {A : Type 0} (Spell : List ℕ → A → Type 0) (tokens : TokenList) (a : A) : Type 0 where
  pub token : List ℕ
  pub is : tokens ≡ token ∷ []
  pub spells : Spell token a

pub one_token_of : {A : Type 0} (Spell : List ℕ → A → Type 0) (tokens : TokenList) (a : A) → SpellAll Spell tokens (a ∷ []) → OneToken Spell tokens a
one_token_of Spell [] a spelled = absurd spelled
one_token_of Spell (token ∷ []) a spelled = record { token = token; is = refl; spells = spelled.0 }
one_token_of Spell (token ∷ other ∷ tokens) a spelled = absurd spelled.1
