-- The tokens of a request hold no space and no line feed. So, joined by spaces, they make a line that is cut into them again.
use Rattle.std.proofs.Common.{◌≡◌, ◌≢◌, ℕ, ℤ, pos, negsuc, zero, suc, ◌+◌, ◌-◌, ◌/◌, ◌%◌, ◌==◌, ◌&&◌, ◌≤◌, ◌<◌, not, true, false, Bool, List, [], ◌∷◌, ◌++◌, length, refl, sym, ap, ◌∙◌, Some, None, inl, inr, arith, append-nil, append_assoc, length-append, length-set, subst}
use Rattle.std.specs.Prelude.{Option, Ok, ◌||◌, bytes_eq, codes, nat_lt, All}
use Rattle.std.specs.Fmt.{decimal, signed_decimal, digits, digits_onto, digit_glyph}
use Rattle.std.specs.List.{AllByRecursion, find, list_all, list_any, range_with_len}
use Rattle.std.specs.Str.Lines.{lines, strip_carriage_return}
use Rattle.std.proofs.lemmas.Bool.{cases_eq, false≢true}
use Rattle.std.proofs.lemmas.Bool.Decides.{nat_tests}
use Rattle.std.proofs.lemmas.List.Elements.{All-nil, All-cons}
use Rattle.std.proofs.lemmas.List.Splits.{slice_split_at, slice_split_none}
use Rattle.std.proofs.lemmas.List.Sums.{list_all-from_AllPass}
use Rattle.std.proofs.lemmas.Slice.Eq.{bytes_eq-Decides}
use Rattle.std.proofs.Math.Seq.{get_or-append_seam, take-append_seam}
use Rattle.hex.specs.Hex.{decode_of, is_hex_digit}
use Rattle.hex.proofs.HexLemmas.{decode_of-ok}
use Rattle.lo_base.specs.Name.{IsName, continues_name}
use Rattle.lo_base.specs.declared.column.ColType.{ColType}
use Rattle.lo_base.specs.declared.column.ColType.TheVariants as types
use Rattle.lo_base.specs.declared.column.Column.{Column}
use Rattle.lo_base.specs.declared.column.Storage.{Storage}
use Rattle.lo_base.specs.declared.column.Storage.TheVariants.{Plain}
use Rattle.lo_base.specs.declared.request.Assign.{Assign}
use Rattle.lo_base.specs.declared.request.Request.{Request}
use Rattle.lo_base.specs.declared.request.Request.TheVariants.{Begin, Commit, Rollback, Savepoint, Release, RollbackTo, LoCreat, LoCreate, LoOpen, LoClose, LoRead, LoWrite, LoLseek, LoLseek64, LoTell, LoTell64, LoTruncate, LoTruncate64, LoUnlink, LoGet, LoPut, LoFromBytea, CreateTable, Insert, Update, Delete, Get, Ids, Slice, Declare, Fetch, Close, Rewrite, Vacuum, Array, Load, Set, Elem, Show, Vacuumlo, Step, Finish}
use Rattle.lo_base.specs.declared.value.Literal.{Literal}
use Rattle.lo_base.specs.declared.value.Literal.TheVariants.{Null, Number, Bytes, ArrayText, Variable}
use Rattle.lo_machine.specs.Program.{has_sweeps, program_of}
use Rattle.lo_machine.specs.Spelled.{IsLiteral}
use Rattle.lo_script.specs.declared.script.Marking.{Marking}
use Rattle.lo_script.specs.declared.script.Marking.TheVariants.{Marked, Unmarked}
use Rattle.lo_script.specs.Form.{form_in, large_object_forms, other_forms, request_of}
use Rattle.lo_script.specs.Reader.{Form}
use Rattle.lo_script.specs.Reading.{Read}
use Rattle.lo_script.specs.Script.{HasProgramText, HasText, HasTextBy, IsFinished, ScriptText, empty_script, entries_by, entry_by, is_request_line, with_entries, with_entry, with_line, with_lines}
use Rattle.lo_script.specs.SpelledValues.{SpellAll, SpellsBytes, SpellsLiteral, SpellsChange, SpellsStorage, SpellsKind, SpellsWithStorage, SpellsColumn, element_text, storage_text}
use Rattle.lo_script.specs.Spelling.{IsWritable, SpellsServed}
use Rattle.lo_script.specs.SweepForm.{is_in_sweep, is_of_sweep, leaves_open, sweep_forms}
use Rattle.lo_script.specs.Token.{TokenList, begins, column_after, mark_of, session_of, tokens_of}
use Rattle.lo_script.specs.ValueToken.{ends_token}
use Rattle.lo_script.proofs.CutTexts.{first_of_lines}
use Rattle.lo_script.proofs.DecimalsAndBytes.{tested}
use Rattle.lo_script.proofs.ReadLists.{one_token_of}
use Rattle.lo_script.proofs.ScriptOrder.{grows_at, kept_elsewhere, no_lines}
use Rattle.lo_script.proofs.SpelledRequests.{has_spelling, request-some}
use Rattle.lo_script.proofs.SweepLines.{in_sweep-push, none_passes, sweeps-first, sweeps-rest}
use Rattle.lo_script.proofs.ValueTokens.{and-both, not-true}

abbrev IsWhole : List ℕ → Type 0
IsWhole token = AllByRecursion (λ b. ends_token b ≡ false) token

abbrev AreWhole : TokenList → Type 0
AreWhole tokens = AllByRecursion IsWhole tokens

-- a test that computes
abbrev is_whole : List ℕ → Bool
is_whole [] = true
is_whole (b ∷ token) = not (ends_token b) && is_whole token

by_test : (token : List ℕ) → is_whole token ≡ true → IsWhole token
by_test [] h = tt
by_test (b ∷ token) h =
    let tests = and-both (not (ends_token b)) (is_whole token) h in
    (not-true (ends_token b) tests.0, by_test token tests.1)

both : (a b : List ℕ) → IsWhole a → IsWhole b → IsWhole (a ++ b)
both [] b h k = k
both (x ∷ a) b h k = (h.0, both a b h.1 k)

-- bytes that pass a test which spaces and line feeds do not pass

apart : (passes : ℕ → Bool) → passes 32 ≡ false → passes 10 ≡ false → (b : ℕ) → passes b ≡ true → ends_token b ≡ false
apart passes space feed b h = elim (tested (b == 32)) [
  | inl same ↦ let is : b ≡ 32 = grind (arith, nat_tests, same) in absurd (false≢true (sym space ∙ (rw is at h)))
  | inr no_space ↦ elim (tested (b == 10)) [
    | inl same ↦ let is : b ≡ 10 = grind (arith, nat_tests, same) in absurd (false≢true (sym feed ∙ (rw is at h)))
    | inr no_feed ↦ rw (no_space, no_feed) refl
  ]
]

all_apart : (passes : ℕ → Bool) → passes 32 ≡ false → passes 10 ≡ false → (token : List ℕ) → list_all passes token ≡ true → IsWhole token
all_apart passes space feed [] h = tt
all_apart passes space feed (b ∷ token) h =
    let tests = and-both (passes b) (list_all passes token) h in
    (apart passes space feed b tests.0, all_apart passes space feed token tests.1)

name-whole : (name : List ℕ) → IsName name → IsWhole name
name-whole [] named = absurd named
name-whole (first ∷ others) named =
    let may_begin : continues_name first ≡ true = rw named.0 refl in
    all_apart continues_name refl refl (first ∷ others) (rw (may_begin, list_all-from_AllPass continues_name others named.1) refl)

digits-whole : (text bytes : List ℕ) → decode_of text ≡ Ok bytes → IsWhole text
digits-whole text bytes h =
    all_apart is_hex_digit refl refl text (list_all-from_AllPass is_hex_digit text (decode_of-ok text bytes h).1)

-- numbers

visible : (b : ℕ) → 33 ≤ b → ends_token b ≡ false
visible b high =
    let space : (b == 32) ≡ false = grind (arith, nat_tests, high) in
    let feed : (b == 10) ≡ false = grind (arith, nat_tests, high) in
    rw (space, feed) refl

glyph-visible : (n : ℕ) → 33 ≤ digit_glyph false n
glyph-visible n = elim (tested (nat_lt n 10)) [
  | inl small ↦ rw small (omega arith)
  | inr large ↦ rw large (omega arith)
]

digits_onto-whole : (k n : ℕ) (after : List ℕ) → IsWhole after → IsWhole (digits_onto k 10 false n after)
digits_onto-whole zero n after h = h
digits_onto-whole (suc k) n after h =
    let glyph = visible (digit_glyph false (n % 10)) (glyph-visible (n % 10)) in
    elim (tested (n / 10 == 0)) [
      | inl last ↦ rw last (glyph, h)
      | inr more ↦ rw more (digits_onto-whole k (n / 10) (digit_glyph false (n % 10) ∷ after) (glyph, h))
    ]

decimal-whole : (n : ℕ) → IsWhole (decimal n)
unfolding digits
decimal-whole n = digits_onto-whole 64 n [] tt

signed-whole : (n : ℤ) → IsWhole (signed_decimal n)
signed-whole (pos n) = decimal-whole n
signed-whole (negsuc n) = (refl, decimal-whole (suc n))

element-whole : (element : Option ℤ) → IsWhole (element_text element)
element-whole None = by_test (codes "null") refl
element-whole (Some n) = signed-whole n

-- values

neither : (a b : Bool) → (a || b) ≡ false → (a ≡ false) × (b ≡ false)
neither true b h = cc h
neither false b h = (refl, h)

text-whole : (text : List ℕ) → list_any ends_token text ≡ false → IsWhole text
text-whole [] h = tt
text-whole (b ∷ text) h =
    let tests = neither (ends_token b) (list_any ends_token text) h in
    (tests.0, text-whole text tests.1)

bytes-whole : (token bytes : List ℕ) → SpellsBytes token bytes → IsWhole token
bytes-whole token bytes h =
    rw h.is (both (codes "\\x") h.digits (by_test (codes "\\x") refl) (digits-whole h.digits bytes h.stands_for))

literal-whole : (token : List ℕ) (literal : Literal) → SpellsLiteral token literal → IsLiteral literal → IsWhole token
literal-whole token Null h is = rw h (by_test (codes "null") refl)
literal-whole token (Number n) h is = rw h (signed-whole n)
literal-whole token (Bytes bytes) h is = bytes-whole token bytes h
literal-whole token (ArrayText text) h is = rw h (text-whole text is.0.1)
literal-whole token (Variable name) h is = rw h (both (codes "@") name (by_test (codes "@") refl) (name-whole name is))

-- a name, a byte, and what stands behind it
named-whole : (at : ℕ) (name text : List ℕ) → ends_token at ≡ false → IsName name → IsWhole text → IsWhole (name ++ at ∷ text)
named-whole at name text sign named h = both name (at ∷ text) (name-whole name named) (sign, h)

change-whole : (token : List ℕ) (change : Assign) → SpellsChange token change → IsName change.column × IsLiteral change.value → IsWhole token
change-whole token change h is =
    rw h.is (named-whole 61 change.column h.text refl is.0 (literal-whole h.text change.value h.spells is.1))

storage-tested : (storage : Storage) → is_whole (storage_text storage) ≡ true
storage-tested Plain = refl
storage-tested other = refl

storage-whole : (storage : Storage) → IsWhole (storage_text storage)
storage-whole storage = by_test (storage_text storage) (storage-tested storage)

storage_column-whole : (token : List ℕ) (column : Column) → SpellsStorage token column → IsName column.name × (column.kind ≡ types.Bytea) → IsWhole token
storage_column-whole token column h is =
    rw h.is (named-whole 58 column.name h.text refl is.0 (rw h.spells (storage-whole column.storage)))

with_storage-whole : (kind text : List ℕ) (storage : Storage) → is_whole kind ≡ true → SpellsWithStorage kind text storage → IsWhole text
with_storage-whole kind text storage h (inl spelled) =
    let front = both kind (codes ":") (by_test kind h) (by_test (codes ":") refl) in
    rw spelled (both (kind ++ codes ":") (storage_text storage) front (storage-whole storage))
with_storage-whole kind text storage h (inr spelled) = rw spelled.0 (by_test kind h)

kind-whole : (text : List ℕ) (kind : ColType) (storage : Storage) → SpellsKind text kind storage → IsWhole text
kind-whole text types.Int8 storage h = rw h (by_test (codes "int8") refl)
kind-whole text types.Oid storage h = rw h (by_test (codes "oid") refl)
kind-whole text types.Lo storage h = rw h (by_test (codes "lo") refl)
kind-whole text types.Bytea storage h = with_storage-whole (codes "bytea") text storage refl h
kind-whole text types.Int4Array storage h = with_storage-whole (codes "int4[]") text storage refl h

column-whole : (token : List ℕ) (column : Column) → SpellsColumn token column → IsName column.name → IsWhole token
column-whole token column h named =
    rw h.is (named-whole 58 column.name h.text refl named (kind-whole h.text column.kind column.storage h.spells))

items-whole : {A : Type 0} (Spell : List ℕ → A → Type 0) (Each : A → Type 0) → ((token : List ℕ) (a : A) → Spell token a → Each a → IsWhole token)
    → (tokens : TokenList) (items : List A) → SpellAll Spell tokens items → AllByRecursion Each items → AreWhole tokens
items-whole Spell Each one [] [] spelled each = tt
items-whole Spell Each one [] (a ∷ items) spelled each = absurd spelled
items-whole Spell Each one (token ∷ tokens) [] spelled each = absurd spelled
items-whole Spell Each one (token ∷ tokens) (a ∷ items) spelled each =
    (one token a spelled.0 each.0, items-whole Spell Each one tokens items spelled.1 each.1)

last-whole : (rest : TokenList) (bytes : List ℕ) → SpellAll SpellsBytes rest (bytes ∷ []) → AreWhole rest
last-whole rest bytes spelled =
    let last = one_token_of SpellsBytes rest bytes spelled in
    rw last.is (bytes-whole last.token bytes last.spells, tt)

-- The tokens of each request

tokens-whole : (r : Request) (tokens : TokenList) → SpellsServed r tokens → AreWhole tokens
tokens-whole Begin tokens h = rw (h.2.is, h.2.spell_rest) (by_test (codes "begin") refl, tt)
tokens-whole Commit tokens h = rw (h.2.is, h.2.spell_rest) (by_test (codes "commit") refl, tt)
tokens-whole Rollback tokens h = rw (h.2.is, h.2.spell_rest) (by_test (codes "rollback") refl, tt)
tokens-whole (Savepoint name) tokens h = rw (h.2.is, h.2.spell_rest) (by_test (codes "savepoint") refl, (name-whole name h.0, tt))
tokens-whole (Release name) tokens h = rw (h.2.is, h.2.spell_rest) (by_test (codes "release") refl, (name-whole name h.0, tt))
tokens-whole (RollbackTo name) tokens h =
    rw (h.2.is, h.2.spell_rest) (by_test (codes "rollback") refl, (by_test (codes "to") refl, (name-whole name h.0, tt)))
tokens-whole Vacuum tokens h = rw (h.2.is, h.2.spell_rest) (by_test (codes "vacuum") refl, tt)
tokens-whole (LoCreat mode) tokens h = rw (h.2.is, h.2.spell_rest) (by_test (codes "lo_creat") refl, (signed-whole mode, tt))
tokens-whole (LoCreate oid) tokens h = rw (h.2.is, h.2.spell_rest) (by_test (codes "lo_create") refl, (decimal-whole oid, tt))
tokens-whole (LoOpen oid mode) tokens h =
    rw (h.2.is, h.2.spell_rest) (by_test (codes "lo_open") refl, (decimal-whole oid, (signed-whole mode, tt)))
tokens-whole (LoUnlink oid) tokens h = rw (h.2.is, h.2.spell_rest) (by_test (codes "lo_unlink") refl, (decimal-whole oid, tt))
tokens-whole (LoGet oid from None) tokens h = rw (h.2.is, h.2.spell_rest) (by_test (codes "lo_get") refl, (decimal-whole oid, tt))
tokens-whole (LoGet oid from (Some count)) tokens h =
    rw (h.2.is, h.2.spell_rest) (by_test (codes "lo_get") refl, (decimal-whole oid, (signed-whole from, (signed-whole count, tt))))
tokens-whole (LoPut oid at bytes) tokens h =
    rw h.2.is (by_test (codes "lo_put") refl, (decimal-whole oid, (signed-whole at, last-whole h.2.rest bytes h.2.spell_rest)))
tokens-whole (LoFromBytea oid bytes) tokens h =
    rw h.2.is (by_test (codes "lo_from_bytea") refl, (decimal-whole oid, last-whole h.2.rest bytes h.2.spell_rest))
tokens-whole (LoClose fd) tokens h = rw (h.2.is, h.2.spell_rest) (by_test (codes "lo_close") refl, (signed-whole fd, tt))
tokens-whole (LoRead fd count) tokens h =
    rw (h.2.is, h.2.spell_rest) (by_test (codes "lo_read") refl, (signed-whole fd, (signed-whole count, tt)))
tokens-whole (LoWrite fd bytes) tokens h =
    rw h.2.is (by_test (codes "lo_write") refl, (signed-whole fd, last-whole h.2.rest bytes h.2.spell_rest))
tokens-whole (LoLseek fd offset whence) tokens h =
    rw (h.2.is, h.2.spell_rest) (by_test (codes "lo_lseek") refl, (signed-whole fd, (signed-whole offset, (signed-whole whence, tt))))
tokens-whole (LoLseek64 fd offset whence) tokens h =
    rw (h.2.is, h.2.spell_rest) (by_test (codes "lo_lseek64") refl, (signed-whole fd, (signed-whole offset, (signed-whole whence, tt))))
tokens-whole (LoTell fd) tokens h = rw (h.2.is, h.2.spell_rest) (by_test (codes "lo_tell") refl, (signed-whole fd, tt))
tokens-whole (LoTell64 fd) tokens h = rw (h.2.is, h.2.spell_rest) (by_test (codes "lo_tell64") refl, (signed-whole fd, tt))
tokens-whole (LoTruncate fd size) tokens h =
    rw (h.2.is, h.2.spell_rest) (by_test (codes "lo_truncate") refl, (signed-whole fd, (signed-whole size, tt)))
tokens-whole (LoTruncate64 fd size) tokens h =
    rw (h.2.is, h.2.spell_rest) (by_test (codes "lo_truncate64") refl, (signed-whole fd, (signed-whole size, tt)))
tokens-whole (CreateTable name columns) tokens h =
    rw h.2.is (
      by_test (codes "create") refl,
      (
        by_test (codes "table") refl,
        (
          name-whole name h.0.0,
          items-whole SpellsColumn (λ (c : Column). IsName c.name) column-whole h.2.rest columns h.2.spell_rest h.0.1.named,
        ),
      ),
    )
tokens-whole (Insert table values) tokens h =
    rw h.2.is (
      by_test (codes "insert") refl,
      (name-whole table h.0.0, items-whole SpellsLiteral IsLiteral literal-whole h.2.rest values h.2.spell_rest h.0.2),
    )
tokens-whole (Update table id changes) tokens h =
    rw h.2.is (
      by_test (codes "update") refl,
      (
        name-whole table h.0.0,
        (
          signed-whole id,
          items-whole SpellsChange (λ (a : Assign). IsName a.column × IsLiteral a.value) change-whole h.2.rest changes h.2.spell_rest h.0.1.1,
        ),
      ),
    )
tokens-whole (Rewrite table storages) tokens h =
    rw h.2.is (
      by_test (codes "rewrite") refl,
      (
        name-whole table h.0.0,
        items-whole SpellsStorage (λ (c : Column). IsName c.name × (c.kind ≡ types.Bytea)) storage_column-whole h.2.rest storages h.2.spell_rest h.0.1.1,
      ),
    )
tokens-whole (Delete table id) tokens h =
    rw (h.2.is, h.2.spell_rest) (by_test (codes "delete") refl, (name-whole table h.0, (signed-whole id, tt)))
tokens-whole (Get table id) tokens h =
    rw (h.2.is, h.2.spell_rest) (by_test (codes "get") refl, (name-whole table h.0, (signed-whole id, tt)))
tokens-whole (Ids table) tokens h = rw (h.2.is, h.2.spell_rest) (by_test (codes "ids") refl, (name-whole table h.0, tt))
tokens-whole (Slice table id column from count) tokens h =
    rw (h.2.is, h.2.spell_rest) (
      by_test (codes "slice") refl,
      (name-whole table h.0.0, (signed-whole id, (name-whole column h.0.1, (signed-whole from, (signed-whole count, tt))))),
    )
tokens-whole (Declare cursor table id) tokens h =
    rw (h.2.is, h.2.spell_rest) (
      by_test (codes "declare") refl,
      (name-whole cursor h.0.0, (name-whole table h.0.1, (signed-whole id, tt))),
    )
tokens-whole (Fetch cursor column from count) tokens h =
    rw (h.2.is, h.2.spell_rest) (
      by_test (codes "fetch") refl,
      (name-whole cursor h.0.0, (name-whole column h.0.1, (signed-whole from, (signed-whole count, tt)))),
    )
tokens-whole (Close cursor) tokens h = rw (h.2.is, h.2.spell_rest) (by_test (codes "close") refl, (name-whole cursor h.0, tt))
tokens-whole (Array name text) tokens h =
    rw (h.2.is, h.2.spell_rest) (by_test (codes "array") refl, (name-whole name h.0.0, (text-whole text h.0.1.1, tt)))
tokens-whole (Load name table id column) tokens h =
    rw (h.2.is, h.2.spell_rest) (
      by_test (codes "load") refl,
      (name-whole name h.0.0, (name-whole table h.0.1, (signed-whole id, (name-whole column h.0.2, tt)))),
    )
tokens-whole (Set name sub element) tokens h =
    rw (h.2.is, h.2.spell_rest) (by_test (codes "set") refl, (name-whole name h.0, (signed-whole sub, (element-whole element, tt))))
tokens-whole (Elem name sub) tokens h =
    rw (h.2.is, h.2.spell_rest) (by_test (codes "elem") refl, (name-whole name h.0, (signed-whole sub, tt)))
tokens-whole (Show name) tokens h = rw (h.2.is, h.2.spell_rest) (by_test (codes "show") refl, (name-whole name h.0, tt))
tokens-whole (Vacuumlo true limit) tokens h =
    rw (h.2.is, h.2.spell_rest) (by_test (codes "vacuumlo") refl, (by_test (codes "-n") refl, (decimal-whole limit, tt)))
tokens-whole (Vacuumlo false limit) tokens h =
    rw (h.2.is, h.2.spell_rest) (by_test (codes "vacuumlo") refl, (decimal-whole limit, tt))
tokens-whole Step tokens h = rw (h.2.is, h.2.spell_rest) (by_test (codes "step") refl, tt)
tokens-whole Finish tokens h = rw (h.2.is, h.2.spell_rest) (by_test (codes "finish") refl, tt)

-- Lines: tokens joined by spaces

abbrev joined : TokenList → List ℕ
joined [] = []
joined (t ∷ []) = t
joined (t ∷ u ∷ tokens) = t ++ 32 ∷ joined (u ∷ tokens)

no_space : (token : List ℕ) → IsWhole token → All (λ b. (b == 32) ≡ false) token
no_space [] h = All-nil (λ b. (b == 32) ≡ false)
no_space (b ∷ token) h = All-cons (λ b. (b == 32) ≡ false) b token (neither (b == 32) (b == 10) h.0).0 (no_space token h.1)

-- cut at spaces, they are the tokens again
cut_joined : (t : List ℕ) (tokens : TokenList) → AreWhole (t ∷ tokens) → tokens_of (joined (t ∷ tokens)) ≡ t ∷ tokens
cut_joined t [] h = slice_split_none (λ b. b == 32) t (no_space t h.0)
cut_joined t (u ∷ tokens) h =
    slice_split_at (λ b. b == 32) t 32 (joined (u ∷ tokens)) (no_space t h.0) refl ∙ ap (λ (ts : TokenList). t ∷ ts) (cut_joined u tokens h.1)

abbrev HasNoFeed : List ℕ → Type 0
HasNoFeed text = AllByRecursion (λ b. (b == 10) ≡ false) text

no_feed_token : (token more : List ℕ) → IsWhole token → HasNoFeed more → HasNoFeed (token ++ more)
no_feed_token [] more h k = k
no_feed_token (b ∷ token) more h k = ((neither (b == 32) (b == 10) h.0).1, no_feed_token token more h.1 k)

no_feed_alone : (token : List ℕ) → IsWhole token → HasNoFeed token
no_feed_alone [] h = tt
no_feed_alone (b ∷ token) h = ((neither (b == 32) (b == 10) h.0).1, no_feed_alone token h.1)

no_feed_joined : (tokens : TokenList) → AreWhole tokens → HasNoFeed (joined tokens)
no_feed_joined [] h = tt
no_feed_joined (t ∷ []) h = no_feed_alone t h.0
no_feed_joined (t ∷ u ∷ tokens) h = no_feed_token t (32 ∷ joined (u ∷ tokens)) h.0 (refl, no_feed_joined (u ∷ tokens) h.1)

as_all : (text : List ℕ) → HasNoFeed text → All (λ b. (b == 10) ≡ false) text
as_all [] h = All-nil (λ b. (b == 10) ≡ false)
as_all (b ∷ text) h = All-cons (λ b. (b == 10) ≡ false) b text h.0 (as_all text h.1)

-- marks

abbrev first_of : List ℕ → ℕ
first_of [] = 0
first_of (b ∷ text) = b

mark_among : (s a n : ℕ) → a ≤ s → s < a + n → find (λ session. bytes_eq (mark_of s) (mark_of session)) (range_with_len a n) ≡ Some s
mark_among s a zero low high = absurd (omega (arith, low, high))
mark_among s a (suc n) low high = elim (tested (bytes_eq (mark_of s) (mark_of a))) [
  | inl same ↦
      let marks : mark_of s ≡ mark_of a = (bytes_eq-Decides (mark_of s) (mark_of a)).0 same in
      let first : s + 64 ≡ a + 64 = ap (λ (mark : List ℕ). first_of mark) marks in
      let is : a ≡ s = omega (arith, first) in
      rw same (ap (λ (session : ℕ). Some session) is)
  | inr other ↦
      let apart : s ≢ a = λ e. absurd (false≢true (sym other ∙ (bytes_eq-Decides (mark_of s) (mark_of a)).1 (ap mark_of e))) in
      rw other (mark_among s (a + 1) n (omega (arith, low, apart)) (omega (arith, high)))
]

mark_read : (s : ℕ) → 1 ≤ s → s ≤ 16 → session_of (mark_of s) ≡ Some s
mark_read s low high = mark_among s 1 16 low (omega (arith, high))

mark-whole : (s : ℕ) → IsWhole (mark_of s)
mark-whole s = (visible (s + 64) (omega arith), by_test (codes ":") refl)

-- The line of a session's request. With no mark it is the request's tokens alone, and the session is 1

abbrev line_of : Marking → (s : ℕ) → TokenList → List ℕ
line_of Marked s tokens = joined (mark_of s ∷ tokens)
line_of Unmarked s tokens = joined tokens

-- lines can be of that session
abbrev HasLines : Marking → (s : ℕ) → Type 0
HasLines Marked s = (1 ≤ s) × (s ≤ 16)
HasLines Unmarked s = s ≡ 1

lines-within : (marking : Marking) (s : ℕ) → HasLines marking s → (1 ≤ s) × (s ≤ 16)
lines-within Marked s h = h
lines-within Unmarked s h = (omega (arith, h), omega (arith, h))

entry_read : (marking : Marking) (programs : List (List Request)) (s : ℕ) (word : List ℕ) (others : TokenList) (r : Request) → HasLines marking s → AreWhole (word ∷ others)
    → ((column : ℕ) → request_of (is_in_sweep (program_of programs s)) column (word ∷ others) ≡ Read r) → entry_by marking programs (line_of marking s (word ∷ others)) ≡ Read (s, r)
entry_read Marked programs s word others r there whole spelled =
    rw (cut_joined (mark_of s) (word ∷ others) (mark-whole s, whole), mark_read s there.0 there.1, spelled (column_after 1 (mark_of s) (word ∷ others))) refl
entry_read Unmarked programs s word others r there whole spelled =
    let read : request_of (is_in_sweep (program_of programs 1)) 1 (word ∷ others) ≡ Read r =
    subst (λ (n : ℕ). request_of (is_in_sweep (program_of programs n)) 1 (word ∷ others) ≡ Read r) there (spelled 1) in
    rw (cut_joined word others whole, read) (ap (λ (n : ℕ). Read (n, r)) (sym there))

no_comment : (s : ℕ) → not ((s + 64) == 35) ≡ true
no_comment s = let other : ((s + 64) == 35) ≡ false = grind (arith, nat_tests) in rw other refl

line_counts : (marking : Marking) (s : ℕ) (word : List ℕ) (others : TokenList) → is_request_line word ≡ true → is_request_line (line_of marking s (word ∷ others)) ≡ true
line_counts Marked s word others h = no_comment s
line_counts Unmarked s [] others h = cc h
line_counts Unmarked s (b ∷ word) [] h = h
line_counts Unmarked s (b ∷ word) (u ∷ others) h = h

line-no_feed : (marking : Marking) (s : ℕ) (tokens : TokenList) → AreWhole tokens → HasNoFeed (line_of marking s tokens)
line-no_feed Marked s tokens whole = no_feed_joined (mark_of s ∷ tokens) (mark-whole s, whole)
line-no_feed Unmarked s tokens whole = no_feed_joined tokens whole

-- no word of a form begins a comment

word_in-counts : (forms : List Form) (word : List ℕ) (start column : ℕ) (others : TokenList) (r : Request) → list_all (λ f. is_request_line f.word) forms ≡ true → form_in forms word start column others ≡ Read r → is_request_line word ≡ true
word_in-counts [] word start column others r counts h = cc h
word_in-counts (f ∷ forms) word start column others r counts h =
    let tests = and-both (is_request_line f.word) (list_all (λ f. is_request_line f.word) forms) counts in
    elim (tested (bytes_eq word f.word)) [
      | inl same ↦ let is : word ≡ f.word = (bytes_eq-Decides word f.word).0 same in rw is tests.0
      | inr other ↦ word_in-counts forms word start column others r tests.1 (rw other at h)
    ]

word-counts : (in_sweep : Bool) (word : List ℕ) (others : TokenList) (r : Request) → request_of in_sweep 1 (word ∷ others) ≡ Read r → is_request_line word ≡ true
word-counts true word others r h = word_in-counts sweep_forms word 1 (column_after 1 word others) others r refl h
word-counts false word others r h = elim (tested (begins (codes "lo_") word)) [
  | inl begun ↦ word_in-counts large_object_forms word 1 (column_after 1 word others) others r refl (rw begun at h)
  | inr other ↦ word_in-counts other_forms word 1 (column_after 1 word others) others r refl (rw other at h)
]

-- The tokens of each request of a program, where it may stand

record Written (r : Request) : Type 0 where
  word : List ℕ
  others : TokenList
  whole : AreWhole (word ∷ others)
  counts : is_request_line word ≡ true
  spelled : (column : ℕ) → request_of (is_of_sweep r) column (word ∷ others) ≡ Read r

written_as : (r : Request) (tokens : TokenList) → ((column : ℕ) → request_of (is_of_sweep r) column tokens ≡ Read r) → Written r
written_as r [] spelled = let none = spelled 1 in cc none
written_as r (word ∷ others) spelled = record {
  word = word;
  others = others;
  whole = tokens-whole r (word ∷ others) (request-some (is_of_sweep r) 1 (word ∷ others) r (spelled 1)).1;
  counts = word-counts (is_of_sweep r) word others r (spelled 1);
  spelled = spelled;
}

written : (r : Request) → IsWritable r → Written r
written r writable = let spelling = has_spelling r writable.0 writable.1 in written_as r spelling.tokens spelling.spelled

line_read : (marking : Marking) (script : ScriptText) (s : ℕ) (r : Request) (w : Written r) → HasLines marking s → is_of_sweep r ≡ is_in_sweep (program_of script.programs s)
    → with_line marking script (line_of marking s (w.word ∷ w.others)) ≡ Some (with_entry script (s, r))
line_read marking script s r w there stands =
    rw (line_counts marking s w.word w.others w.counts, entry_read marking script.programs s w.word w.others r there w.whole (λ column. rw (← stands) (w.spelled column))) refl

abbrev lines_of : Marking → (s : ℕ) (program : List Request) → AllByRecursion IsWritable program → List (List ℕ)
lines_of marking s [] writable = []
lines_of marking s (r ∷ program) writable = let w = written r writable.0 in line_of marking s (w.word ∷ w.others) ∷ lines_of marking s program writable.1

lines_of-no_feed : (marking : Marking) (s : ℕ) (program : List Request) (writable : AllByRecursion IsWritable program) → AllByRecursion HasNoFeed (lines_of marking s program writable)
lines_of-no_feed marking s [] writable = tt
lines_of-no_feed marking s (r ∷ program) writable =
    let w = written r writable.0 in
    (line-no_feed marking s (w.word ∷ w.others) w.whole, lines_of-no_feed marking s program writable.1)

lines_of-read : (marking : Marking) (script : ScriptText) (s : ℕ) (program : List Request) (writable : AllByRecursion IsWritable program) → HasLines marking s → s ≤ length script.programs → has_sweeps (is_in_sweep (program_of script.programs s)) program ≡ true
    → with_lines marking script (lines_of marking s program writable) ≡ Some (with_entries script (entries_by s program))
lines_of-read marking script s [] writable lined there sweeps = refl
lines_of-read marking script s (r ∷ program) writable lined there sweeps =
    let in_sweep = is_in_sweep (program_of script.programs s) in
    let w = written r writable.0 in
    let read = line_read marking script s r w lined (sweeps-first in_sweep r program sweeps) in
    let longer = with_entry script (s, r) in
    let grown : program_of longer.programs s ≡ program_of script.programs s ++ r ∷ [] = grows_at script.programs s r (lines-within marking s lined).0 there in
    let stays : is_in_sweep (program_of longer.programs s) ≡ leaves_open r = ap is_in_sweep grown ∙ in_sweep-push false (program_of script.programs s) r in
    let more = lines_of-read marking longer s program writable.1 lined (rw length-set there) (ap (λ b. has_sweeps b program) stays ∙ sweeps-rest in_sweep r program sweeps) in
    rw read more

-- Lines that end with a carriage return and a line feed are those lines again

abbrev text_of : List (List ℕ) → List ℕ
text_of [] = []
text_of (line ∷ lines) = (line ++ 13 ∷ []) ++ 10 ∷ text_of lines

no_feed_push : (line : List ℕ) → HasNoFeed line → HasNoFeed (line ++ 13 ∷ [])
no_feed_push [] h = (refl, tt)
no_feed_push (b ∷ line) h = (h.0, no_feed_push line h.1)

return_dropped : (line : List ℕ) → strip_carriage_return (line ++ 13 ∷ []) ≡ line
return_dropped line =
    let len : length (line ++ 13 ∷ []) - 1 ≡ length line = let l = length-append line (13 ∷ []) in omega (arith, l) in
    rw (len, get_or-append_seam line 13 [] 0) (take-append_seam line (13 ∷ []))

text_of-lines : (ls : List (List ℕ)) → AllByRecursion HasNoFeed ls → lines (text_of ls) ≡ ls
text_of-lines [] h = refl
text_of-lines (line ∷ ls) h =
    let cut = slice_split_at (λ b. b == 10) (line ++ 13 ∷ []) 10 (text_of ls) (as_all (line ++ 13 ∷ []) (no_feed_push line h.0)) refl in
    first_of_lines (text_of (line ∷ ls)) (line ++ 13 ∷ []) (text_of ls) cut
    ∙ ap (λ (l : List ℕ). l ∷ lines (text_of ls)) (return_dropped line)
    ∙ ap (λ (rest : List (List ℕ)). line ∷ rest) (text_of-lines ls h.1)

-- the programs that such lines make

grown_by : (program : List Request) (script : ScriptText) (s : ℕ) → 1 ≤ s → s ≤ length script.programs
    → program_of (with_entries script (entries_by s program)).programs s ≡ program_of script.programs s ++ program
grown_by [] script s low there = sym (append-nil (program_of script.programs s))
grown_by (r ∷ program) script s low there =
    grown_by program (with_entry script (s, r)) s low (rw length-set there)
    ∙ ap (λ (lines : List Request). lines ++ program) (grows_at script.programs s r low there)
    ∙ append_assoc (program_of script.programs s) (r ∷ []) program

others_kept : (program : List Request) (script : ScriptText) (s t : ℕ) → 1 ≤ s → 1 ≤ t → s ≢ t
    → program_of (with_entries script (entries_by s program)).programs t ≡ program_of script.programs t
others_kept [] script s t low-s low-t other = refl
others_kept (r ∷ program) script s t low-s low-t other =
    others_kept program (with_entry script (s, r)) s t low-s low-t other ∙ kept_elsewhere script.programs s t r low-s low-t other

whole_program : (s : ℕ) (program : List Request) → 1 ≤ s → s ≤ 16 → program_of (with_entries empty_script (entries_by s program)).programs s ≡ program
whole_program s program low high = grown_by program empty_script s low high ∙ ap (λ (lines : List Request). lines ++ program) (no_lines s)

outside_all : (s : ℕ) (program : List Request) → 1 ≤ s → s ≤ 16 → is_in_sweep program ≡ false → (t : ℕ) → 1 ≤ t
    → is_in_sweep (program_of (with_entries empty_script (entries_by s program)).programs t) ≡ false
outside_all s program low high outside t low-t = elim (cases_eq s t) [
  | inl same ↦ rw (← same) (ap is_in_sweep (whole_program s program low high) ∙ outside)
  | inr other ↦ ap is_in_sweep (others_kept program empty_script s t low low-t other ∙ no_lines t)
]

text_by : (marking : Marking) (s : ℕ) (program : List Request) → HasLines marking s → AllByRecursion IsWritable program → IsFinished program → HasTextBy marking s program
text_by marking s program lined writable finished =
    let within = lines-within marking s lined in
    let ls = lines_of marking s program writable in
    let split : lines (text_of ls) ≡ ls = text_of-lines ls (lines_of-no_feed marking s program writable) in
    let start : has_sweeps (is_in_sweep (program_of empty_script.programs s)) program ≡ true = rw (no_lines s) finished.sweeps in
    let read = lines_of-read marking empty_script s program writable lined within.1 start in
    let outside = none_passes (λ t. is_in_sweep (program_of (with_entries empty_script (entries_by s program)).programs t)) 1 16 (outside_all s program within.0 within.1 finished.outside) in
    record { text = text_of ls; spelled = rw (split, read, outside) refl }

pub has_text : (s : ℕ) (program : List Request) → 1 ≤ s → s ≤ 16 → AllByRecursion IsWritable program → IsFinished program → HasText s program
has_text s program low high writable finished = text_by Marked s program (low, high) writable finished

pub has_program_text : (program : List Request) → AllByRecursion IsWritable program → IsFinished program → HasProgramText program
has_program_text program writable finished =
    let h = text_by Unmarked 1 program refl writable finished in
    let whole = whole_program 1 program (omega arith) (omega arith) in
    record { text = h.text; spelled = rw h.spelled (ap (λ (lines : List Request). Some lines) whole) }
