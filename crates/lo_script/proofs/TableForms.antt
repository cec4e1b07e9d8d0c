-- The forms on tables, rows and cursors are exact, and their lists are read.
use Rattle.std.proofs.Common.{◌≡◌, ℕ, ℤ, ◌<◌, ◌≤◌, List, [], ◌∷◌, ◌++◌, length, map, Some, true, false, refl, sym, ap, ◌∙◌, inl, inr, arith, length-append}
use Rattle.std.specs.Prelude.{Option, option_and_then, codes, bytes_eq, nat_lt}
use Rattle.std.specs.Fmt.{signed_decimal}
use Rattle.std.specs.List.{AllByRecursion}
use Rattle.std.proofs.lemmas.Bool.Decides.{nat_tests}
use Rattle.std.proofs.lemmas.Slice.Eq.{bytes_eq-Decides}
use Rattle.std.proofs.lemmas.List.Sums.{AllPass-from_list_all}
use Rattle.lo_base.specs.Name.{IsName, continues_name}
use Rattle.lo_base.specs.declared.column.ColType.TheVariants as types
use Rattle.lo_base.specs.declared.column.Column.{Column}
use Rattle.lo_base.specs.declared.column.Storage.TheVariants.{Plain}
use Rattle.lo_base.specs.declared.request.Assign.{Assign}
use Rattle.lo_base.specs.declared.request.Request.{Request}
use Rattle.lo_base.specs.declared.request.Request.TheVariants.{CreateTable, Insert, Update, Delete, Get, Ids, Slice, Declare, Fetch, Close, Rewrite}
use Rattle.lo_base.specs.declared.value.Literal.{Literal}
use Rattle.lo_machine.specs.Spelled.{IsLiteral, AreStorages, AreChanges}
use Rattle.toast_plan.specs.Columns.{IsTableColumns, AreDistinct, StartsWithId, IsPlainIfFixed}
use Rattle.lo_script.specs.Reader.{first_token, one_token, two_tokens, three_tokens, four_tokens, list_of_tokens}
use Rattle.lo_script.specs.Reading.{Read}
use Rattle.lo_script.specs.SpelledValues.{IsInt8, IsLiteralInRange, IsChangeInRange, SpellAll, SpellsLiteral, SpellsChange, SpellsStorage, SpellsKind, SpellsColumn}
use Rattle.lo_script.specs.TableForm.{table_forms, create_of, insert_of, update_of, rewrite_of, slice_of}
use Rattle.lo_script.specs.Token.{TokenList, column_after, int8_of, name_of, keyword_of}
use Rattle.lo_script.specs.ValueToken.{literal_of, next_literal, column_with, id_column_of, next_column, column_of, storage_column_of, next_storage, change_of, next_change, column_name, changed_name, is_among, if_new}
use Rattle.lo_script.proofs.ArrayForms.{arrays-exact}
use Rattle.lo_script.proofs.DecimalsAndBytes.{tested, some_injective, and_then-some, int8_of-prints, int8_of-decimal}
use Rattle.lo_script.proofs.ExactForms.{IsPrinted, IsExact, plainly, ◌also◌}
use Rattle.lo_script.proofs.MarksAndNames.{PrintsName, name_of-prints, spelled_name, keyword_of-is}
use Rattle.lo_script.proofs.ReadLists.{FoundList, HasItems, items-finds, list_of_tokens-read, AllByRecursion-push, some_more, all_both, all_weaker, if_new-some, distinct_push, distinct_new}
use Rattle.lo_script.proofs.Readers.{Finds, first_token-finds, one_token-finds, two_tokens-finds, three_tokens-finds, four_tokens-finds}
use Rattle.lo_script.proofs.ValueTokens.{literal_of-prints, literal_of-spelled, IsChange, change_of-prints, change_of-spelled, IsStorageColumn, storage_column_of-prints, storage_column_of-spelled, IsTableColumn, column_of-prints, column_of-spelled, column_parts}

-- Values

abbrev IsValue : Literal → Type 0
IsValue literal = IsLiteral literal × IsLiteralInRange literal

literal_found : (token : List ℕ) (literal : Literal) → literal_of token ≡ Some literal → SpellsLiteral token literal × IsValue literal
literal_found token literal h = let p = literal_of-prints token literal h in (p.spells, (p.is_literal, p.range))

values-finds : (table : List ℕ) → Finds (list_of_tokens literal_of next_literal (Insert table)) (FoundList (HasItems SpellsLiteral IsValue (λ values. 0 < length values)) (Insert table))
values-finds table =
    items-finds SpellsLiteral IsValue (λ values. 0 < length values) literal_of next_literal (Insert table)
    (λ token a is. (literal_found token a is, omega arith))
    (λ so_far token a some is. (literal_found token a is, some_more so_far a))

insert-found : (t table : List ℕ) (tokens : TokenList) (r : Request) → PrintsName t table → FoundList (HasItems SpellsLiteral IsValue (λ values. 0 < length values)) (Insert table) tokens r → IsPrinted (codes "insert") (t ∷ tokens) r
insert-found t table tokens r n f =
    rw (← f.is) (
      refl,
      (
        (n.named, f.has.whole, all_weaker IsValue IsLiteral (λ a is. is.0) f.items f.has.each),
        all_weaker IsValue IsLiteralInRange (λ a is. is.1) f.items f.has.each,
        record { rest = tokens; is = rw n.is refl; spell_rest = f.has.spelled },
      ),
    )

insert-exact : Finds insert_of (IsPrinted (codes "insert"))
insert-exact =
    first_token-finds (IsPrinted (codes "insert")) name_of (λ table. list_of_tokens literal_of next_literal (Insert table))
    (λ t table is column tokens r h. insert-found t table tokens r (name_of-prints t table is) (values-finds table column tokens r h))

pub insert_of-spelled : (column : ℕ) (table : List ℕ) (rest : TokenList) (values : List Literal) → IsName table → SpellAll SpellsLiteral rest values → AllByRecursion IsLiteral values → AllByRecursion IsLiteralInRange values → 0 < length values → insert_of column (table ∷ rest) ≡ Read (Insert table values)
insert_of-spelled column table rest values named spelled literals ranges some =
    rw (spelled_name table named) (list_of_tokens-read literal_of next_literal (Insert table) SpellsLiteral IsValue (λ values. 0 < length values)
    (λ token a after spells is whole. literal_of-spelled token a spells is.0 is.1)
    (λ so_far token a after spells is whole. literal_of-spelled token a spells is.0 is.1)
    (column_after column table rest) rest values spelled (all_both IsLiteral IsLiteralInRange values literals ranges) some some)

-- Items under names of their own

-- an item that was read is new among those so far
record ReadNew {A : Type 0} (name_in : A → List ℕ) (so_far : List A) (o : Option A) (a : A) : Type 0 where
  read : o ≡ Some a
  new : is_among name_in so_far (name_in a) ≡ false

read_new : {A : Type 0} (name_in : A → List ℕ) (so_far : List A) (o : Option A) (a : A) → option_and_then (if_new name_in so_far) o ≡ Some a → ReadNew name_in so_far o a
read_new name_in so_far o a h =
    let found = and_then-some (if_new name_in so_far) o a h in
    let is = if_new-some name_in so_far found.0 a found.2 in
    record { read = found.1 ∙ ap (λ b. Some b) is.0; new = rw (← is.0) is.1 }

new_read : {A : Type 0} (name_in : A → List ℕ) (so_far : List A) (o : Option A) (a : A) → o ≡ Some a → is_among name_in so_far (name_in a) ≡ false → option_and_then (if_new name_in so_far) o ≡ Some a
new_read name_in so_far o a read new = rw (read, new) refl

abbrev HasNames : {A : Type 0} → (name_in : A → List ℕ) → List A → Type 0
HasNames name_in items = (0 < length items) × AreDistinct (map name_in items)

more_names : {A : Type 0} (name_in : A → List ℕ) (so_far : List A) (o : Option A) (a : A) → HasNames name_in so_far → ReadNew name_in so_far o a → HasNames name_in (so_far ++ a ∷ [])
more_names name_in so_far o a has found = (some_more so_far a, distinct_push name_in so_far a has.1 found.new)

-- Changes

changes-finds : (table : List ℕ) (id : ℤ) → Finds (list_of_tokens change_of next_change (Update table id)) (FoundList (HasItems SpellsChange IsChange (HasNames changed_name)) (Update table id))
changes-finds table id =
    items-finds SpellsChange IsChange (HasNames changed_name) change_of next_change (Update table id)
    (λ token a is. (change_of-prints token a is, (omega arith, (tt, tt))))
    (λ so_far token a has is. let found = read_new changed_name so_far (change_of token) a is in (change_of-prints token a found.read, more_names changed_name so_far (change_of token) a has found))

abbrev IsSpelledChange : Assign → Type 0
IsSpelledChange change = IsName change.column × IsLiteral change.value

update-found : (t u table : List ℕ) (id : ℤ) (tokens : TokenList) (r : Request) → PrintsName t table → u ≡ signed_decimal id → IsInt8 id → FoundList (HasItems SpellsChange IsChange (HasNames changed_name)) (Update table id) tokens r → IsPrinted (codes "update") (t ∷ u ∷ tokens) r
update-found t u table id tokens r n is-id small f =
    rw (← f.is) (
      refl,
      (
        (n.named, (f.has.whole.0, all_weaker IsChange IsSpelledChange (λ a is. (is.0, is.1)) f.items f.has.each, f.has.whole.1)),
        (small, all_weaker IsChange IsChangeInRange (λ a is. is.2) f.items f.has.each),
        record { rest = tokens; is = rw (n.is, is-id) refl; spell_rest = f.has.spelled },
      ),
    )

update-exact : Finds update_of (IsPrinted (codes "update"))
update-exact =
    first_token-finds (IsPrinted (codes "update")) name_of (λ table. first_token int8_of (λ id. list_of_tokens change_of next_change (Update table id)))
    (λ t table is. first_token-finds (λ more. IsPrinted (codes "update") (t ∷ more)) int8_of (λ id. list_of_tokens change_of next_change (Update table id))
    (λ u id is-id column tokens r h. let p = int8_of-prints u id is-id in update-found t u table id tokens r (name_of-prints t table is) p.is p.small (changes-finds table id column tokens r h)))

-- a change as it is spelled, with its number in its range
whole_change : (a : Assign) → IsSpelledChange a × IsChangeInRange a → IsChange a
whole_change a is = (is.0.0, is.0.1, is.1)

pub update_of-spelled : (column : ℕ) (table : List ℕ) (id : ℤ) (rest : TokenList) (changes : List Assign) → IsName table → IsInt8 id → SpellAll SpellsChange rest changes → AreChanges changes → AllByRecursion IsChangeInRange changes → update_of column (table ∷ signed_decimal id ∷ rest) ≡ Read (Update table id changes)
update_of-spelled column table id rest changes named small spelled are ranges =
    let each = all_weaker (λ a. IsSpelledChange a × IsChangeInRange a) IsChange whole_change changes (all_both IsSpelledChange IsChangeInRange changes are.1 ranges) in
    rw (spelled_name table named, int8_of-decimal id small) (list_of_tokens-read change_of next_change (Update table id) SpellsChange IsChange (HasNames changed_name)
    (λ token a after spells is whole. change_of-spelled token a spells is)
    (λ so_far token a after spells is whole. new_read changed_name so_far (change_of token) a (change_of-spelled token a spells is) (distinct_new changed_name so_far a after whole.1))
    (column_after (column_after column table (signed_decimal id ∷ rest)) (signed_decimal id) rest) rest changes spelled each (are.0, are.2) are.0)

-- Storages

storages-finds : (table : List ℕ) → Finds (list_of_tokens storage_column_of next_storage (Rewrite table)) (FoundList (HasItems SpellsStorage IsStorageColumn (HasNames column_name)) (Rewrite table))
storages-finds table =
    items-finds SpellsStorage IsStorageColumn (HasNames column_name) storage_column_of next_storage (Rewrite table)
    (λ token a is. (storage_column_of-prints token a is, (omega arith, (tt, tt))))
    (λ so_far token a has is. let found = read_new column_name so_far (storage_column_of token) a is in (storage_column_of-prints token a found.read, more_names column_name so_far (storage_column_of token) a has found))

rewrite-found : (t table : List ℕ) (tokens : TokenList) (r : Request) → PrintsName t table → FoundList (HasItems SpellsStorage IsStorageColumn (HasNames column_name)) (Rewrite table) tokens r → IsPrinted (codes "rewrite") (t ∷ tokens) r
rewrite-found t table tokens r n f =
    rw (← f.is) (refl, ((n.named, (f.has.whole.0, f.has.each, f.has.whole.1)), tt, record { rest = tokens; is = rw n.is refl; spell_rest = f.has.spelled }))

rewrite-exact : Finds rewrite_of (IsPrinted (codes "rewrite"))
rewrite-exact =
    first_token-finds (IsPrinted (codes "rewrite")) name_of (λ table. list_of_tokens storage_column_of next_storage (Rewrite table))
    (λ t table is column tokens r h. rewrite-found t table tokens r (name_of-prints t table is) (storages-finds table column tokens r h))

pub rewrite_of-spelled : (column : ℕ) (table : List ℕ) (rest : TokenList) (storages : List Column) → IsName table → SpellAll SpellsStorage rest storages → AreStorages storages → rewrite_of column (table ∷ rest) ≡ Read (Rewrite table storages)
rewrite_of-spelled column table rest storages named spelled are =
    rw (spelled_name table named) (list_of_tokens-read storage_column_of next_storage (Rewrite table) SpellsStorage IsStorageColumn (HasNames column_name)
    (λ token a after spells is whole. storage_column_of-spelled token a spells is)
    (λ so_far token a after spells is whole. new_read column_name so_far (storage_column_of token) a (storage_column_of-spelled token a spells is) (distinct_new column_name so_far a after whole.1))
    (column_after column table rest) rest storages spelled are.1 (are.0, are.2) are.0)

-- Columns

-- a column that was read behind others
record ReadColumn (so_far : List Column) (token : List ℕ) (column : Column) : Type 0 where
  few : length so_far < 32
  found : ReadNew column_name so_far (column_of token) column

read_column : (so_far : List Column) (token : List ℕ) (column : Column) → next_column so_far token ≡ Some column → ReadColumn so_far token column
read_column so_far token column h = elim (tested (nat_lt (length so_far) 32)) [
  | inl few ↦ record { few = grind (arith, nat_tests); found = read_new column_name so_far (column_of token) column (rw few at h) }
  | inr full ↦ let none = rw full at h in cc none
]

starts_more : (columns : List Column) (column : Column) → StartsWithId columns → StartsWithId (columns ++ column ∷ [])
starts_more [] column starts = absurd starts
starts_more (c ∷ columns) column starts = starts

more_columns : (so_far : List Column) (token : List ℕ) (column : Column) → IsTableColumns so_far → ReadColumn so_far token column → IsTableColumn column → IsTableColumns (so_far ++ column ∷ [])
more_columns so_far token column are read is = record {
  id_first = starts_more so_far column are.id_first;
  few = omega (arith, length-append so_far (column ∷ []), read.few);
  named = AllByRecursion-push (λ (c : Column). IsName c.name) so_far column are.named is.0;
  distinct = distinct_push column_name so_far column are.distinct read.found.new;
  fixed = AllByRecursion-push (λ (c : Column). IsPlainIfFixed c.kind c.storage) so_far column are.fixed is.1;
}

abbrev id_column : Column
id_column = column_with (codes "id") (types.Int8, Plain)

id_found : (token : List ℕ) (column : Column) → id_column_of token ≡ Some column → (SpellsColumn token column × IsTableColumn column) × IsTableColumns (column ∷ [])
id_found token column h = elim (tested (bytes_eq token (codes "id:int8"))) [
  | inl same ↦
      let is : id_column ≡ column = some_injective id_column column (rw same at h) in
      let named : IsName (codes "id") = (refl, AllPass-from_list_all continues_name (codes "d") refl, omega arith) in
      rw (← is) (
        (record { text = codes "int8"; is = (bytes_eq-Decides token (codes "id:int8")).0 same; spells = refl }, (named, refl)),
        record { id_first = (refl, refl); few = omega arith; named = (named, tt); distinct = (tt, tt); fixed = (refl, tt) },
      )
  | inr other ↦ let none = rw other at h in cc none
]

columns-finds : (table : List ℕ) → Finds (list_of_tokens id_column_of next_column (CreateTable table)) (FoundList (HasItems SpellsColumn IsTableColumn IsTableColumns) (CreateTable table))
columns-finds table =
    items-finds SpellsColumn IsTableColumn IsTableColumns id_column_of next_column (CreateTable table) id_found
    (λ so_far token a are is.
    let read = read_column so_far token a is in
    let p = column_of-prints token a read.found.read in
    (p, more_columns so_far token a are read p.1))

create-found : (word t table : List ℕ) (tokens : TokenList) (r : Request) → word ≡ codes "table" → PrintsName t table → FoundList (HasItems SpellsColumn IsTableColumn IsTableColumns) (CreateTable table) tokens r → IsPrinted (codes "create") (word ∷ t ∷ tokens) r
create-found word t table tokens r is n f =
    rw (← f.is) (refl, ((n.named, f.has.whole), tt, record { rest = tokens; is = rw (is, n.is) refl; spell_rest = f.has.spelled }))

create-exact : Finds create_of (IsPrinted (codes "create"))
create-exact =
    first_token-finds (IsPrinted (codes "create")) (keyword_of (codes "table")) (λ _. first_token name_of (λ table. list_of_tokens id_column_of next_column (CreateTable table)))
    (λ word u is. first_token-finds (λ more. IsPrinted (codes "create") (word ∷ more)) name_of (λ table. list_of_tokens id_column_of next_column (CreateTable table))
    (λ t table named column tokens r h. create-found word t table tokens r (keyword_of-is (codes "table") word u is) (name_of-prints t table named) (columns-finds table column tokens r h)))

plain_id : (column : Column) → column.kind ≡ types.Int8 → IsPlainIfFixed column.kind column.storage → column.storage ≡ Plain
plain_id column kind fixed = rw kind at fixed

int8_text : (column : Column) (text : List ℕ) → column.kind ≡ types.Int8 → SpellsKind text column.kind column.storage → text ≡ codes "int8"
int8_text column text kind spells = rw kind at spells

id_read : (token : List ℕ) (column : Column) (after : List Column) → SpellsColumn token column → IsTableColumn column → IsTableColumns (column ∷ after) → id_column_of token ≡ Some column
id_read token column after spells is are =
    let storage : column.storage ≡ Plain = plain_id column are.id_first.1 is.1 in
    let text : spells.text ≡ codes "int8" = int8_text column spells.text are.id_first.1 spells.spells in
    let same : token ≡ codes "id:int8" = spells.is ∙ ap (λ (name : List ℕ). name ++ 58 ∷ spells.text) are.id_first.0 ∙ ap (λ (text : List ℕ). codes "id" ++ 58 ∷ text) text in
    let parts : id_column ≡ column = ap (λ name. column_with name (types.Int8, Plain)) (sym are.id_first.0) ∙ ap (λ storage. column_with column.name (types.Int8, storage)) (sym storage) ∙ column_parts column types.Int8 are.id_first.1 in
    rw same (ap (λ (c : Column). Some c) parts)

within_32 : (so_far : List Column) (column : Column) (after : List Column) → length (so_far ++ column ∷ after) ≤ 32 → nat_lt (length so_far) 32 ≡ true
within_32 so_far column after few = let len = length-append so_far (column ∷ after) in grind (arith, nat_tests, len, few)

column_read : (so_far : List Column) (token : List ℕ) (column : Column) (after : List Column) → SpellsColumn token column → IsTableColumn column → IsTableColumns (so_far ++ column ∷ after) → next_column so_far token ≡ Some column
column_read so_far token column after spells is are =
    rw (within_32 so_far column after are.few) (new_read column_name so_far (column_of token) column (column_of-spelled token column spells is) (distinct_new column_name so_far column after are.distinct))

some_columns : (columns : List Column) → StartsWithId columns → 0 < length columns
some_columns [] starts = absurd starts
some_columns (c ∷ columns) starts = omega arith

pub create_of-spelled : (column : ℕ) (table : List ℕ) (rest : TokenList) (columns : List Column) → IsName table → SpellAll SpellsColumn rest columns → IsTableColumns columns → create_of column (codes "table" ∷ table ∷ rest) ≡ Read (CreateTable table columns)
create_of-spelled column table rest columns named spelled are =
    let each = all_both (λ (c : Column). IsName c.name) (λ (c : Column). IsPlainIfFixed c.kind c.storage) columns are.named are.fixed in
    rw (spelled_name table named) (list_of_tokens-read id_column_of next_column (CreateTable table) SpellsColumn IsTableColumn IsTableColumns id_read column_read
    (column_after (column_after column (codes "table") (table ∷ rest)) table rest) rest columns spelled each are (some_columns columns are.id_first))

-- Rows and cursors

delete-exact : Finds (two_tokens name_of int8_of Delete) (IsPrinted (codes "delete"))
delete-exact =
    two_tokens-finds (IsPrinted (codes "delete")) name_of int8_of Delete
    (λ t u a b is-t is-u. let p = name_of-prints t a is-t in let q = int8_of-prints u b is-u in (refl, (p.named, q.small, plainly refl (rw (p.is, q.is) refl))))

get-exact : Finds (two_tokens name_of int8_of Get) (IsPrinted (codes "get"))
get-exact =
    two_tokens-finds (IsPrinted (codes "get")) name_of int8_of Get
    (λ t u a b is-t is-u. let p = name_of-prints t a is-t in let q = int8_of-prints u b is-u in (refl, (p.named, q.small, plainly refl (rw (p.is, q.is) refl))))

ids-exact : Finds (one_token name_of Ids) (IsPrinted (codes "ids"))
ids-exact =
    one_token-finds (IsPrinted (codes "ids")) name_of Ids
    (λ t a is-t. let p = name_of-prints t a is-t in (refl, (p.named, tt, plainly refl (rw p.is refl))))

slice-exact : Finds slice_of (IsPrinted (codes "slice"))
slice-exact =
    first_token-finds (IsPrinted (codes "slice")) name_of (λ table. four_tokens int8_of name_of int8_of int8_of (Slice table))
    (λ s table is. let n = name_of-prints s table is in
    four_tokens-finds (λ more. IsPrinted (codes "slice") (s ∷ more)) int8_of name_of int8_of int8_of (Slice table)
    (λ t u v w a b c d is-t is-u is-v is-w. let p = int8_of-prints t a is-t in let q = name_of-prints u b is-u in let r = int8_of-prints v c is-v in let o = int8_of-prints w d is-w in (refl, ((n.named, q.named), (p.small, r.small, o.small), plainly refl (rw (n.is, p.is, q.is, r.is, o.is) refl)))))

declare-exact : Finds (three_tokens name_of name_of int8_of Declare) (IsPrinted (codes "declare"))
declare-exact =
    three_tokens-finds (IsPrinted (codes "declare")) name_of name_of int8_of Declare
    (λ t u v a b c is-t is-u is-v. let p = name_of-prints t a is-t in let q = name_of-prints u b is-u in let r = int8_of-prints v c is-v in (refl, ((p.named, q.named), r.small, plainly refl (rw (p.is, q.is, r.is) refl))))

fetch-exact : Finds (four_tokens name_of name_of int8_of int8_of Fetch) (IsPrinted (codes "fetch"))
fetch-exact =
    four_tokens-finds (IsPrinted (codes "fetch")) name_of name_of int8_of int8_of Fetch
    (λ t u v w a b c d is-t is-u is-v is-w. let p = name_of-prints t a is-t in let q = name_of-prints u b is-u in let r = int8_of-prints v c is-v in let s = int8_of-prints w d is-w in (refl, ((p.named, q.named), (r.small, s.small), plainly refl (rw (p.is, q.is, r.is, s.is) refl))))

close-exact : Finds (one_token name_of Close) (IsPrinted (codes "close"))
close-exact =
    one_token-finds (IsPrinted (codes "close")) name_of Close
    (λ t a is-t. let p = name_of-prints t a is-t in (refl, (p.named, tt, plainly refl (rw p.is refl))))

pub tables-exact : AllByRecursion IsExact table_forms
tables-exact = create-exact also insert-exact also update-exact also delete-exact also get-exact also ids-exact also slice-exact also declare-exact also fetch-exact also close-exact also rewrite-exact also arrays-exact
