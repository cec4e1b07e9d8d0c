-- Worked examples of the forms on tables, cursors and array variables, each computed by the checker: a wrong one fails the crate.
use Rattle.std.proofs.Common.{◌≡◌, refl, pos, negsuc, [], ◌∷◌, None}
use Rattle.std.specs.Prelude.{codes}
use Rattle.std.specs.Fmt.{digits}
use Rattle.hex.specs.Hex.{decode_pairs}
use Rattle.lo_base.specs.declared.column.ColType.TheVariants.{Int8, Bytea, Int4Array}
use Rattle.lo_base.specs.declared.column.Storage.TheVariants.{Plain, External, Extended, Main}
use Rattle.lo_base.specs.declared.request.Request.TheVariants.{CreateTable, Insert, Update, Slice, Rewrite, Array, Set}
use Rattle.lo_base.specs.declared.value.Literal.TheVariants.{Null, Number, Bytes, ArrayText, Variable}
use Rattle.lo_script.specs.Reading.{Read, BadAt}
use Rattle.lo_script.specs.ValueToken.{column_with, change_with}
use Rattle.lo_script.proofs.Examples.{entry_of}

-- Columns

created : entry_of (codes "A: create table t id:int8 b:bytea:main a:int4[]")
    ≡ Read (1, CreateTable (codes "t") (column_with (codes "id") (Int8, Plain) ∷ column_with (codes "b") (Bytea, Main) ∷ column_with (codes "a") (Int4Array, Extended) ∷ []))
created = refl

created_without_columns : entry_of (codes "A: create table t") ≡ BadAt 18
created_without_columns = refl

other_first_column : entry_of (codes "A: create table t id:oid") ≡ BadAt 19
other_first_column = refl

fixed_with_storage : entry_of (codes "A: create table t id:int8 o:oid:plain") ≡ BadAt 27
fixed_with_storage = refl

column_twice : entry_of (codes "A: create table t id:int8 a:oid b:lo a:bytea") ≡ BadAt 38
column_twice = refl

rewritten : entry_of (codes "B: rewrite t a:external") ≡ Read (2, Rewrite (codes "t") (column_with (codes "a") (Bytea, External) ∷ []))
rewritten = refl

storage_twice : entry_of (codes "B: rewrite t a:external a:main") ≡ BadAt 25
storage_twice = refl

-- Values

inserted : entry_of (codes "A: insert t 1 null \\x4aBC {1} [0:0]={1} @v")
    ≡ Read (1, Insert (codes "t") (Number (pos 1) ∷ Null ∷ Bytes (74 ∷ 188 ∷ []) ∷ ArrayText (codes "{1}") ∷ ArrayText (codes "[0:0]={1}") ∷ Variable (codes "v") ∷ []))
unfolding digits decode_pairs
inserted = refl

inserted_nothing : entry_of (codes "A: insert t") ≡ BadAt 12
inserted_nothing = refl

second_value_wrong : entry_of (codes "A: insert t null \\x4") ≡ BadAt 18
unfolding digits decode_pairs
second_value_wrong = refl

-- a change is cut at its first `=`
updated : entry_of (codes "A: update t -2 a=[0:0]={1} b=null")
    ≡ Read (1, Update (codes "t") (negsuc 1) (change_with (codes "a") (ArrayText (codes "[0:0]={1}")) ∷ change_with (codes "b") Null ∷ []))
unfolding digits
updated = refl

changed_twice : entry_of (codes "A: update t 1 a=1 b=2 a=1") ≡ BadAt 23
unfolding digits
changed_twice = refl

-- Rows and array variables

sliced : entry_of (codes "A: slice t 1 b 0 -1") ≡ Read (1, Slice (codes "t") (pos 1) (codes "b") (pos 0) (negsuc 0))
unfolding digits
sliced = refl

any_text : entry_of (codes "A: array v 5") ≡ Read (1, Array (codes "v") (codes "5"))
any_text = refl

no_text : entry_of (codes "A: array v ") ≡ BadAt 12
no_text = refl

null_element : entry_of (codes "A: set v -1 null") ≡ Read (1, Set (codes "v") (negsuc 0) None)
unfolding digits
null_element = refl
