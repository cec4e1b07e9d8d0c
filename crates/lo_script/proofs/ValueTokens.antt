-- Tokens of values, of columns and of changes: which tokens spell them.
use Rattle.std.proofs.Common.{◌≡◌, ℕ, ℤ, pos, negsuc, get_or, subst, ◌<◌, ◌≤◌, ◌==◌, List, [], ◌∷◌, ◌++◌, length, drop, Some, None, true, false, refl, sym, ap, ◌∙◌, inl, inr, arith}
use Rattle.std.specs.Prelude.{Option, option_map, option_and_then, bytes_eq, codes, ◌||◌, ◌&&◌, ◌≢◌, not, nat_lt, Bool, if◌then◌else◌}
use Rattle.std.specs.Fmt.{decimal, signed_decimal}
use Rattle.std.specs.List.{AllByRecursion, list_any, list_all}
use Rattle.std.specs.Str.Parse.{AllDigits}
use Rattle.std.proofs.lemmas.Bool.{false≢true}
use Rattle.std.proofs.lemmas.List.Sums.{list_all-from_AllPass}
use Rattle.std.proofs.lemmas.Bool.Decides.{nat_tests}
use Rattle.std.proofs.lemmas.Fmt.{decimal_is_IsNumeral}
use Rattle.std.proofs.lemmas.Str.Parse.{digit_from_value}
use Rattle.std.proofs.lemmas.Slice.Eq.{bytes_eq-Decides}
use Rattle.lo_base.specs.Name.{IsName, continues_name}
use Rattle.lo_base.specs.declared.column.ColType.{ColType}
use Rattle.lo_base.specs.declared.column.ColType.TheVariants as types
use Rattle.lo_base.specs.declared.column.Column.{Column}
use Rattle.lo_base.specs.declared.column.Storage.{Storage}
use Rattle.lo_base.specs.declared.column.Storage.TheVariants.{Plain, External, Extended, Main}
use Rattle.lo_base.specs.declared.request.Assign.{Assign}
use Rattle.lo_base.specs.declared.value.Literal.{Literal}
use Rattle.lo_base.specs.declared.value.Literal.TheVariants.{Null, Number, Bytes, ArrayText, Variable}
use Rattle.lo_machine.specs.Spelled.{bytes_limit, IsToken, OpensArray, IsLiteral}
use Rattle.toast_plan.specs.Columns.{IsPlainIfFixed}
use Rattle.lo_script.specs.Reading.{Read, BadAt, read_at}
use Rattle.lo_script.specs.SpelledValues.{IsInt8, IsElement, IsLiteralInRange, SpellsLiteral, SpellsChange, SpellsStorage, SpellsKind, SpellsColumn, element_text, storage_text}
use Rattle.lo_script.specs.Token.{begins, bytes_of, int4_of, int8_of, name_of, cut_at}
use Rattle.lo_script.specs.ValueToken.{ends_token, is_array_text, array_text_of, element_of, literal_of, named_of, word_among, storage_words, kind_words, column_with, column_of, next_column, column_name, is_among, storage_column, storage_column_of, change_with, change_of}
use Rattle.lo_script.proofs.DecimalsAndBytes.{tested, some_injective, and_then-some, int4_of-prints, int8_of-prints, int4_of-decimal, int8_of-decimal, bytes_of-prints, bytes_of-spelled}
use Rattle.lo_script.proofs.ExactForms.{◌also◌}
use Rattle.lo_script.proofs.Readers.{read_at-some}
use Rattle.lo_script.proofs.MarksAndNames.{name_of-prints, spelled_name}

pub map-some : {A B : Type 0} (f : A → B) (o : Option A) (b : B) → option_map f o ≡ Some b → (a : A) × (o ≡ Some a) × (f a ≡ b)
map-some f None b h = cc h
map-some f (Some a) b h = (a, refl, some_injective (f a) b h)

-- Arrays' texts and elements

pub and-both : (a b : Bool) → (a && b) ≡ true → (a ≡ true) × (b ≡ true)
and-both true b h = (refl, h)
and-both false b h = cc h

pub not-true : (a : Bool) → not a ≡ true → a ≡ false
not-true true h = cc h
not-true false h = refl

-- a token that spells an array's text is that text
pub record PrintsText (token text : List ℕ) : Type 0 where
  pub is : token ≡ text
  pub is_token : IsToken text

is_array_text-token : (text : List ℕ) → is_array_text text ≡ true → IsToken text
is_array_text-token text h =
    let tests = and-both (nat_lt 0 (length text)) (not (list_any ends_token text)) h in
    let some = tests.0 in
    (grind (arith, nat_tests), not-true (list_any ends_token text) tests.1)

pub array_text_of-prints : (token text : List ℕ) → array_text_of token ≡ Some text → PrintsText token text
array_text_of-prints token text h = elim (tested (is_array_text token)) [
  | inl passed ↦
      let is : token ≡ text = some_injective token text (rw passed at h) in
      record { is = is; is_token = rw (← is) (is_array_text-token token passed) }
  | inr other ↦ let none = rw other at h in cc none
]

pub array_text_of-spelled : (text : List ℕ) → IsToken text → array_text_of text ≡ Some text
array_text_of-spelled text h =
    let some : nat_lt 0 (length text) ≡ true = grind (arith, nat_tests, h.0) in
    rw (some, h.1) refl

pub record PrintsElement (token : List ℕ) (element : Option ℤ) : Type 0 where
  pub is : token ≡ element_text element
  pub range : IsElement element

element_of-number : (token : List ℕ) (element : Option ℤ) → option_map Some (int4_of token) ≡ Some element → PrintsElement token element
element_of-number token None h = let found = map-some Some (int4_of token) None h in cc (found.2)
element_of-number token (Some n) h =
    let found = map-some Some (int4_of token) (Some n) h in
    let same : found.0 ≡ n = some_injective found.0 n found.2 in
    let p = int4_of-prints token found.0 found.1 in
    record { is = p.is ∙ ap signed_decimal same; range = rw (← same) p.small }

pub element_of-prints : (token : List ℕ) (element : Option ℤ) → element_of token ≡ Some element → PrintsElement token element
element_of-prints token element h = elim (tested (bytes_eq token (codes "null"))) [
  | inl null ↦
      let same : None ≡ element = some_injective None element (rw null at h) in
      rw (← same) (record { is = (bytes_eq-Decides token (codes "null")).0 null; range = tt })
  | inr other ↦ element_of-number token element (rw other at h)
]

-- the first byte of a number is a digit or a minus sign
abbrev starts_number : List ℕ → Type 0
starts_number [] = ⊥
starts_number (b ∷ token) = (45 ≤ b) × (b ≤ 57)

starts_number-digits : (digits : List ℕ) → 0 < length digits → AllDigits 10 digits → starts_number digits
starts_number-digits [] some all = absurd (omega (arith, some))
starts_number-digits (b ∷ digits) some all = let bounds = digit_from_value b all.0 in (omega (arith, bounds), omega (arith, bounds))

number_starts : (n : ℤ) → IsInt8 n → starts_number (signed_decimal n)
number_starts (pos n) small = let numeral = (decimal_is_IsNumeral n (omega (arith, small))).0 in starts_number-digits (decimal n) numeral.0 numeral.1
number_starts (negsuc n) small = (omega arith, omega arith)

-- Values

begins-one : (c b : ℕ) (token : List ℕ) → b ≢ c → begins (c ∷ []) (b ∷ token) ≡ false
begins-one c b token other = elim (tested (begins (c ∷ []) (b ∷ token))) [
  | inl same ↦ absurd (other (sym (ap (λ (bytes : List ℕ). get_or bytes 0 0) ((bytes_eq-Decides (c ∷ []) (b ∷ [])).0 same))))
  | inr absent ↦ absent
]

begins-is : (c b : ℕ) (token : List ℕ) → begins (c ∷ []) (b ∷ token) ≡ true → b ≡ c
begins-is c b token h = sym (ap (λ (bytes : List ℕ). get_or bytes 0 0) ((bytes_eq-Decides (c ∷ []) (b ∷ [])).0 h))

-- what stands behind the byte that a token begins with
begins-split : (c : ℕ) (token : List ℕ) → begins (c ∷ []) token ≡ true → token ≡ c ∷ drop 1 token
begins-split c [] h = cc h
begins-split c (b ∷ token) h = ap (λ (first : ℕ). first ∷ token) (begins-is c b token h)

opens-array : (token : List ℕ) → (begins (codes "{") token || begins (codes "[") token) ≡ true → OpensArray token
opens-array [] h = cc h
opens-array (b ∷ token) h = elim (tested (begins (codes "{") (b ∷ token))) [
  | inl brace ↦ rw (begins-is 123 b token brace) refl
  | inr other ↦ rw (begins-is 91 b token (rw other at h)) refl
]

array-opens : (token : List ℕ) → OpensArray token → (begins (codes "{") token || begins (codes "[") token) ≡ true
array-opens [] h = absurd h
array-opens (b ∷ token) h = elim (tested (b == 123)) [
  | inl brace ↦ let is : b ≡ 123 = grind (arith, nat_tests, brace) in rw is refl
  | inr other ↦
      let is : b ≡ 91 = grind (arith, nat_tests, other, h) in
      rw is refl
]

-- a token that begins with a number's first byte is no other value
number_no_null : (token : List ℕ) → starts_number token → bytes_eq token (codes "null") ≡ false
number_no_null [] h = absurd h
number_no_null (b ∷ token) h = elim (tested (bytes_eq (b ∷ token) (codes "null"))) [
  | inl same ↦
      let first : b ≡ 110 = ap (λ (bytes : List ℕ). get_or bytes 0 0) ((bytes_eq-Decides (b ∷ token) (codes "null")).0 same) in
      absurd (omega (arith, h, first))
  | inr absent ↦ absent
]

number_literal : (token : List ℕ) → starts_number token → literal_of token ≡ option_map Number (int8_of token)
number_literal [] h = absurd h
number_literal (b ∷ token) h =
    rw (begins-one 92 b token (λ e. omega (arith, h, e)), begins-one 64 b token (λ e. omega (arith, h, e)), begins-one 123 b token (λ e. omega (arith, h, e)), begins-one 91 b token (λ e. omega (arith, h, e)), number_no_null (b ∷ token) h) refl

array_literal : (token : List ℕ) → OpensArray token → literal_of token ≡ option_map ArrayText (array_text_of token)
array_literal [] h = absurd h
array_literal (b ∷ token) h =
    let slash : b ≢ 92 = λ e. absurd (false≢true (rw e at h)) in
    let sign : b ≢ 64 = λ e. absurd (false≢true (rw e at h)) in
    rw (begins-one 92 b token slash, begins-one 64 b token sign, array-opens (b ∷ token) h) refl

-- a value with the token that it was read from
pub record PrintsLiteral (token : List ℕ) (literal : Literal) : Type 0 where
  pub spells : SpellsLiteral token literal
  pub is_literal : IsLiteral literal
  pub range : IsLiteralInRange literal

bytes-prints : (token : List ℕ) (literal : Literal) → option_map Bytes (bytes_of bytes_limit token) ≡ Some literal → PrintsLiteral token literal
bytes-prints token literal h =
    let found = map-some Bytes (bytes_of bytes_limit token) literal h in
    let p = bytes_of-prints bytes_limit token found.0 found.1 in
    rw (← found.2) (record { spells = record { digits = p.digits; is = p.is; stands_for = p.stands_for }; is_literal = p.few; range = p.within })

variable-prints : (token : List ℕ) (literal : Literal) → begins (codes "@") token ≡ true → option_map Variable (name_of (drop 1 token)) ≡ Some literal → PrintsLiteral token literal
variable-prints token literal sign h =
    let found = map-some Variable (name_of (drop 1 token)) literal h in
    let p = name_of-prints (drop 1 token) found.0 found.1 in
    rw (← found.2) (record { spells = begins-split 64 token sign ∙ ap (λ (name : List ℕ). codes "@" ++ name) p.is; is_literal = p.named; range = tt })

text-prints : (token : List ℕ) (literal : Literal) → (begins (codes "{") token || begins (codes "[") token) ≡ true → option_map ArrayText (array_text_of token) ≡ Some literal → PrintsLiteral token literal
text-prints token literal opens h =
    let found = map-some ArrayText (array_text_of token) literal h in
    let p = array_text_of-prints token found.0 found.1 in
    rw (← found.2) (record { spells = p.is; is_literal = (p.is_token, subst OpensArray p.is (opens-array token opens)); range = tt })

number-prints : (token : List ℕ) (literal : Literal) → option_map Number (int8_of token) ≡ Some literal → PrintsLiteral token literal
number-prints token literal h =
    let found = map-some Number (int8_of token) literal h in
    let p = int8_of-prints token found.0 found.1 in
    rw (← found.2) (record { spells = p.is; is_literal = tt; range = p.small })

null_or_number-prints : (token : List ℕ) (literal : Literal) → (if bytes_eq token (codes "null") then Some Null else option_map Number (int8_of token)) ≡ Some literal → PrintsLiteral token literal
null_or_number-prints token literal h = elim (tested (bytes_eq token (codes "null"))) [
  | inl null ↦
      let same : Null ≡ literal = some_injective Null literal (rw null at h) in
      rw (← same) (record { spells = (bytes_eq-Decides token (codes "null")).0 null; is_literal = tt; range = tt })
  | inr other ↦ number-prints token literal (rw other at h)
]

pub literal_of-prints : (token : List ℕ) (literal : Literal) → literal_of token ≡ Some literal → PrintsLiteral token literal
literal_of-prints token literal h = elim (tested (begins (codes "\\") token)) [
  | inl slash ↦ bytes-prints token literal (rw slash at h)
  | inr no_slash ↦ elim (tested (begins (codes "@") token)) [
    | inl sign ↦ variable-prints token literal sign (rw (no_slash, sign) at h)
    | inr no_sign ↦ elim (tested (begins (codes "{") token || begins (codes "[") token)) [
      | inl opens ↦ text-prints token literal opens (rw (no_slash, no_sign, opens) at h)
      | inr closed ↦ null_or_number-prints token literal (rw (no_slash, no_sign, closed) at h)
    ]
  ]
]

pub literal_of-spelled : (token : List ℕ) (literal : Literal) → SpellsLiteral token literal → IsLiteral literal → IsLiteralInRange literal → literal_of token ≡ Some literal
literal_of-spelled token Null h is range = rw h refl
literal_of-spelled token (Number n) h is range = rw (h, number_literal (signed_decimal n) (number_starts n range), int8_of-decimal n range) refl
literal_of-spelled token (Bytes bytes) h is range = rw (h.is, bytes_of-spelled bytes_limit h.digits bytes h.stands_for is) refl
literal_of-spelled token (ArrayText text) h is range = rw (h, array_literal text is.1, array_text_of-spelled text is.0) refl
literal_of-spelled token (Variable name) h is range = rw (h, spelled_name name is) refl

-- Names with what is said of them

cut_at-joined : (at : ℕ) (token : List ℕ) (cut : List ℕ × List ℕ) → cut_at at token ≡ Some cut → token ≡ cut.0 ++ at ∷ cut.1
cut_at-joined at [] cut h = cc h
cut_at-joined at (b ∷ token) cut h = elim (tested (b == at)) [
  | inl here ↦
      let is : b ≡ at = grind (arith, nat_tests, here) in
      rw (← some_injective ([], token) cut (rw here at h), is) refl
  | inr other ↦
      let found = map-some (λ (c : List ℕ × List ℕ). (b ∷ c.0, c.1)) (cut_at at token) cut (rw other at h) in
      rw (← found.2) (ap (λ (bytes : List ℕ). b ∷ bytes) (cut_at-joined at token found.0 found.1))
]

cut_at-found : (at : ℕ) (front after : List ℕ) → AllByRecursion (λ b. (b == at) ≡ false) front → cut_at at (front ++ at ∷ after) ≡ Some (front, after)
cut_at-found at [] after lacks = let here : (at == at) ≡ true = grind (arith, nat_tests) in rw here refl
cut_at-found at (b ∷ front) after lacks = rw (lacks.0, cut_at-found at front after lacks.1) refl

others_lack : (at : ℕ) → continues_name at ≡ false → (others : List ℕ) → list_all continues_name others ≡ true → AllByRecursion (λ b. (b == at) ≡ false) others
others_lack at outside [] all = tt
others_lack at outside (b ∷ others) all =
    let tests = and-both (continues_name b) (list_all continues_name others) all in (
      elim (tested (b == at)) [
        | inl same ↦ let is : b ≡ at = grind (arith, nat_tests, same) in absurd (false≢true (sym outside ∙ (rw is at tests.0)))
        | inr other ↦ other
      ],
      others_lack at outside others tests.1,
    )

-- such a byte stands in no name
name_lacks : (at : ℕ) → continues_name at ≡ false → (name : List ℕ) → IsName name → AllByRecursion (λ b. (b == at) ≡ false) name
name_lacks at outside [] named = absurd named
name_lacks at outside (first ∷ others) named =
    let begins : continues_name first ≡ true = rw named.0 refl in
    others_lack at outside (first ∷ others) (rw (begins, list_all-from_AllPass continues_name others named.1) refl)

pub record PrintsNamed {A B : Type 0} (at : ℕ) (value : List ℕ → Option A) (make : List ℕ → A → B) (token : List ℕ) (b : B) : Type 0 where
  pub name : List ℕ
  pub text : List ℕ
  pub a : A
  pub is : token ≡ name ++ at ∷ text
  pub named : IsName name
  pub spells : value text ≡ Some a
  pub made : make name a ≡ b

named_of-prints : {A B : Type 0} (at : ℕ) (value : List ℕ → Option A) (make : List ℕ → A → B) (token : List ℕ) (b : B) → named_of at value make token ≡ Some b → PrintsNamed at value make token b
named_of-prints at value make token b h =
    let cut = and_then-some (λ (cut : List ℕ × List ℕ). option_and_then (λ name. option_map (make name) (value cut.1)) (name_of cut.0)) (cut_at at token) b h in
    let name = and_then-some (λ name. option_map (make name) (value cut.0.1)) (name_of cut.0.0) b cut.2 in
    let said = map-some (make name.0) (value cut.0.1) b name.2 in
    let p = name_of-prints cut.0.0 name.0 name.1 in
    record {
      name = name.0;
      text = cut.0.1;
      a = said.0;
      is = cut_at-joined at token cut.0 cut.1 ∙ ap (λ (front : List ℕ). front ++ at ∷ cut.0.1) p.is;
      named = p.named;
      spells = said.1;
      made = said.2;
    }

named_of-spelled : {A B : Type 0} (at : ℕ) (value : List ℕ → Option A) (make : List ℕ → A → B) (name text : List ℕ) (a : A)
    → continues_name at ≡ false → IsName name → value text ≡ Some a → named_of at value make (name ++ at ∷ text) ≡ Some (make name a)
named_of-spelled at value make name text a outside named spells = rw (cut_at-found at name text (name_lacks at outside name named), spelled_name name named, spells) refl

-- words

word_among-some : {A : Type 0} (P : List ℕ → A → Type 0) (words : List (List ℕ × A)) → AllByRecursion (λ (word : List ℕ × A). P word.0 word.1) words → (text : List ℕ) (a : A) → word_among words text ≡ Some a → P text a
word_among-some P [] facts text a h = cc h
word_among-some P (word ∷ words) facts text a h = elim (tested (bytes_eq text word.0)) [
  | inl same ↦
      let is : text ≡ word.0 = (bytes_eq-Decides text word.0).0 same in
      let value : word.1 ≡ a = some_injective word.1 a (rw same at h) in
      rw (is, ← value) facts.0
  | inr other ↦ word_among-some P words facts.1 text a (rw other at h)
]

storage-prints : (text : List ℕ) (storage : Storage) → word_among storage_words text ≡ Some storage → text ≡ storage_text storage
storage-prints = word_among-some (λ text storage. text ≡ storage_text storage) storage_words (refl also refl also refl also refl also tt)

storage-spelled : (storage : Storage) → word_among storage_words (storage_text storage) ≡ Some storage
storage-spelled Plain = refl
storage-spelled External = refl
storage-spelled Extended = refl
storage-spelled Main = refl

abbrev IsKind : (text : List ℕ) → ColType × Storage → Type 0
IsKind text kind = SpellsKind text kind.0 kind.1 × IsPlainIfFixed kind.0 kind.1

kind-prints : (text : List ℕ) (kind : ColType × Storage) → word_among kind_words text ≡ Some kind → IsKind text kind
kind-prints = word_among-some IsKind kind_words (
    (refl, refl) also (refl, refl) also (refl, refl) also
    (inr (refl, refl), tt) also (inl refl, tt) also (inl refl, tt) also (inl refl, tt) also (inl refl, tt) also
    (inr (refl, refl), tt) also (inl refl, tt) also (inl refl, tt) also (inl refl, tt) also (inl refl, tt) also tt)

kind-spelled : (text : List ℕ) (kind : ColType) (storage : Storage) → SpellsKind text kind storage → IsPlainIfFixed kind storage → word_among kind_words text ≡ Some (kind, storage)
kind-spelled text types.Int8 storage h fixed = rw (h, fixed) refl
kind-spelled text types.Oid storage h fixed = rw (h, fixed) refl
kind-spelled text types.Lo storage h fixed = rw (h, fixed) refl
kind-spelled text types.Bytea Plain (inl h) fixed = rw h refl
kind-spelled text types.Bytea External (inl h) fixed = rw h refl
kind-spelled text types.Bytea Extended (inl h) fixed = rw h refl
kind-spelled text types.Bytea Main (inl h) fixed = rw h refl
kind-spelled text types.Bytea storage (inr h) fixed = rw (h.0, h.1) refl
kind-spelled text types.Int4Array Plain (inl h) fixed = rw h refl
kind-spelled text types.Int4Array External (inl h) fixed = rw h refl
kind-spelled text types.Int4Array Extended (inl h) fixed = rw h refl
kind-spelled text types.Int4Array Main (inl h) fixed = rw h refl
kind-spelled text types.Int4Array storage (inr h) fixed = rw (h.0, h.1) refl

-- Changes, storages and columns, each with its token

abbrev pub IsChange : Assign → Type 0
IsChange change = IsName change.column × IsLiteral change.value × IsLiteralInRange change.value

pub change_of-prints : (token : List ℕ) (change : Assign) → change_of token ≡ Some change → SpellsChange token change × IsChange change
change_of-prints token change h =
    let p = named_of-prints 61 literal_of change_with token change h in
    let q = literal_of-prints p.text p.a p.spells in
    rw (← p.made) (record { text = p.text; is = p.is; spells = q.spells }, (p.named, q.is_literal, q.range))

pub change_of-spelled : (token : List ℕ) (change : Assign) → SpellsChange token change → IsChange change → change_of token ≡ Some change
change_of-spelled token change h is =
    rw h.is (named_of-spelled 61 literal_of change_with change.column h.text change.value refl is.0 (literal_of-spelled h.text change.value h.spells is.1 is.2))

abbrev pub IsStorageColumn : Column → Type 0
IsStorageColumn column = IsName column.name × (column.kind ≡ types.Bytea)

pub storage_column_of-prints : (token : List ℕ) (column : Column) → storage_column_of token ≡ Some column → SpellsStorage token column × IsStorageColumn column
storage_column_of-prints token column h =
    let p = named_of-prints 58 (word_among storage_words) storage_column token column h in
    rw (← p.made) (record { text = p.text; is = p.is; spells = storage-prints p.text p.a p.spells }, (p.named, refl))

-- a column is its parts
pub column_parts : (column : Column) (kind : ColType) → column.kind ≡ kind → column_with column.name (kind, column.storage) ≡ column
column_parts column kind h = rw (← h) refl

pub storage_column_of-spelled : (token : List ℕ) (column : Column) → SpellsStorage token column → IsStorageColumn column → storage_column_of token ≡ Some column
storage_column_of-spelled token column h is =
    let read = named_of-spelled 58 (word_among storage_words) storage_column column.name h.text column.storage refl is.0 (rw h.spells (storage-spelled column.storage)) in
    rw h.is (read ∙ ap (λ (c : Column). Some c) (column_parts column types.Bytea is.1))

abbrev pub IsTableColumn : Column → Type 0
IsTableColumn column = IsName column.name × IsPlainIfFixed column.kind column.storage

pub column_of-prints : (token : List ℕ) (column : Column) → column_of token ≡ Some column → SpellsColumn token column × IsTableColumn column
column_of-prints token column h =
    let p = named_of-prints 58 (word_among kind_words) column_with token column h in
    let q = kind-prints p.text p.a p.spells in
    rw (← p.made) (record { text = p.text; is = p.is; spells = q.0 }, (p.named, q.1))

pub column_of-spelled : (token : List ℕ) (column : Column) → SpellsColumn token column → IsTableColumn column → column_of token ≡ Some column
column_of-spelled token column h is =
    rw h.is (named_of-spelled 58 (word_among kind_words) column_with column.name h.text (column.kind, column.storage) refl is.0 (kind-spelled h.text column.kind column.storage h.spells is.1))

-- an element's text is read
pub element_of-spelled : (element : Option ℤ) → IsElement element → element_of (element_text element) ≡ Some element
element_of-spelled None range = refl
element_of-spelled (Some n) range =
    rw (number_no_null (signed_decimal n) (number_starts n (omega (arith, range))), int4_of-decimal n range) refl

-- What readers of tokens make of their parts

pub change_read : (c d column : ℕ) (token front after name : List ℕ) (value : Literal) → cut_at 61 token ≡ Some (front, after) → read_at c (name_of front) ≡ Read name → read_at d (literal_of after) ≡ Read value → read_at column (change_of token) ≡ Read (change_with name value)
change_read c d column token front after name value cut named spells =
    let is : name_of front ≡ Some name = read_at-some c (name_of front) name named in
    let said : literal_of after ≡ Some value = read_at-some d (literal_of after) value spells in
    rw (cut, is, said) refl

pub column_read : (c d column : ℕ) (token front after name : List ℕ) (kind : ColType × Storage) → cut_at 58 token ≡ Some (front, after) → read_at c (name_of front) ≡ Read name → read_at d (word_among kind_words after) ≡ Read kind → read_at column (column_of token) ≡ Read (column_with name kind)
column_read c d column token front after name kind cut named spells =
    let is : name_of front ≡ Some name = read_at-some c (name_of front) name named in
    let said : word_among kind_words after ≡ Some kind = read_at-some d (word_among kind_words after) kind spells in
    rw (cut, is, said) refl

pub column_refused : (c column : ℕ) (so_far : List Column) (token : List ℕ) (found : Column) → length so_far < 32 → read_at c (column_of token) ≡ Read found → is_among column_name so_far (column_name found) ≡ true → read_at column (next_column so_far token) ≡ BadAt column
column_refused c column so_far token found few read among =
    let room : nat_lt (length so_far) 32 ≡ true = grind (arith, nat_tests, few) in
    let is : column_of token ≡ Some found = read_at-some c (column_of token) found read in
    rw (room, is, among) refl

pub array_text_tests : (text : List ℕ) → length text ≢ 0 → is_array_text text ≡ not (list_any ends_token text)
array_text_tests text some =
    let passed : nat_lt 0 (length text) ≡ true = grind (arith, nat_tests, some) in
    rw passed refl

pub column_taken : (c column : ℕ) (so_far : List Column) (token : List ℕ) (found : Column) → length so_far < 32 → read_at c (column_of token) ≡ Read found → is_among column_name so_far (column_name found) ≡ false → read_at column (next_column so_far token) ≡ Read found
column_taken c column so_far token found few read new =
    let room : nat_lt (length so_far) 32 ≡ true = grind (arith, nat_tests, few) in
    let is : column_of token ≡ Some found = read_at-some c (column_of token) found read in
    rw (room, is, new) refl
