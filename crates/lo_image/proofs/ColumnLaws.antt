-- The laws for names and for the columns of a table.
use Rattle.std.proofs.Common.{◌≡◌, ◌≢◌, ℕ, zero, suc, ◌+◌, ◌<◌, ◌≤◌, Bool, true, false, cond, ◌&&◌, ◌||◌, not, ltb, leb, eqb, List, [], ◌∷◌, ◌++◌, length, map, Option, Some, None, Result, Ok, refl, sym, ap, subst, ◌∙◌, append_assoc, arith, inl, inr}
use Rattle.std.specs.Prelude.{bytes_eq, codes, IsTrue}
use Rattle.std.specs.List.{list_all, AllByRecursion}
use Rattle.std.specs.declared.cmp.Ordering.{Ordering}
use Rattle.std.specs.declared.cmp.Ordering.TheVariants as orders
use Rattle.std.specs.Ordering.{nat_cmp}
use Rattle.std.specs.Cmp.Lexicographic.{slice_cmp}
use Rattle.std.proofs.lemmas.Bool.Decides.{nat_tests}
use Rattle.std.proofs.lemmas.Bool.{and_parts, and_from, cases_Bool, leb-true, le-leb, le-ltb}
use Rattle.std.proofs.lemmas.Slice.Eq.{bytes_eq-Decides}
use Rattle.std.proofs.lemmas.List.{length-append}
use Rattle.std.proofs.lemmas.List.Elements.{All-from_recursion, recursion_from_All}
use Rattle.lo_base.specs.Name.{IsName, starts_name, continues_name}
use Rattle.lo_base.specs.declared.column.Column.{Column}
use Rattle.lo_base.specs.declared.column.ColType.{ColType}
use Rattle.lo_base.specs.declared.column.ColType.TheVariants as types
use Rattle.lo_base.specs.declared.column.Storage.{Storage}
use Rattle.lo_base.specs.declared.column.Storage.TheVariants as storages
use Rattle.toast_plan.specs.Columns.{AreDistinct, StartsWithId, IsPlainIfFixed, IsTableColumns}
use Rattle.lo_image.specs.declared.fault.Defect.{Defect}
use Rattle.lo_image.specs.declared.fault.Defect.TheVariants.{Short, Range, Order}
use Rattle.lo_image.specs.declared.fault.Fault.{Fault}
use Rattle.lo_opening.specs.Opening.{NameFollows}
use Rattle.lo_image.specs.Image.{name_form, type_code, storage_code, column_form, columns_form}
use Rattle.lo_image.specs.Readers.{fails, piece, tested, both, many}
use Rattle.lo_image.specs.Reading.{byte_at, counted_at, is_name, is_less, name_follows, table_name_defect, has_name, new_name_defect, column_name_defect, most_kind, kind_defect, kind_of, is_fixed, storage_defect, storage_of, kind_at, storage_at, column_of, column_at, after_column, columns_defect, columns_at}
use Rattle.lo_image.proofs.ReaderLaws.{IsBytes, ok_is, Reads, Judges, piece_takes, piece_again, tested_reads, both_reads, made_reads, same_reads, joined, AllFrom, AreRead, many_reads}

-- ---- bytes

byte_takes : (bytes : List ℕ) (x : ℕ × List ℕ) → IsBytes bytes → byte_at bytes ≡ Ok x → (bytes ≡ x.0 ∷ [] ++ x.1) × (x.0 < 256)
byte_takes [] x fits e = absurd cc
byte_takes (b ∷ rest) x fits e = subst (λ (y : ℕ × List ℕ). (b ∷ rest ≡ y.0 ∷ [] ++ y.1) × (y.0 < 256)) (ok_is (b, rest) x e) (refl, fits 0)

pub byte_reads : Reads ℕ byte_at (λ b. b ∷ []) (λ b. b < 256)
byte_reads = record { takes = λ bytes x fits e. byte_takes bytes x fits e; again = λ b rest is. refl }

long_piece : (short : Bool) (bytes : List ℕ) (n : ℕ) (rest : List ℕ) (x : List ℕ × List ℕ) → cond {A = Result (List ℕ × List ℕ) Fault} short (fails Short bytes) (piece n rest) ≡ Ok x → piece n rest ≡ Ok x
long_piece true bytes n rest x e = absurd cc
long_piece false bytes n rest x e = e

counted_takes : (bytes : List ℕ) (x : List ℕ × List ℕ) → IsBytes bytes → counted_at bytes ≡ Ok x → (bytes ≡ name_form x.0 ++ x.1) × (length x.0 < 256)
counted_takes [] x fits e = absurd cc
counted_takes (n ∷ rest) x fits e =
    let p = piece_takes n rest x (long_piece (ltb (length rest) n) (n ∷ rest) n rest x e) in
    (ap (λ (t : List ℕ). n ∷ t) p.0 ∙ ap (λ (m : ℕ). m ∷ x.0 ++ x.1) (sym p.1), rw p.1 (fits 0))

pub counted_reads : Reads (List ℕ) counted_at name_form (λ a. length a < 256)
counted_reads = record {
  takes = λ bytes x fits e. counted_takes bytes x fits e;
  again = λ a rest is.
      let long : ltb (length (a ++ rest)) (length a) ≡ false = le-ltb _ _ (omega (arith, length-append a rest)) in
      subst (λ (b : Bool). cond {A = Result (List ℕ × List ℕ) Fault} b (fails Short (length a ∷ a ++ rest)) (piece (length a) (a ++ rest)) ≡ Ok (a, rest)) (sym long) (piece_again (length a) a rest refl);
}

-- ---- names

all_is : (p : ℕ → Bool) (xs : List ℕ) → list_all p xs ≡ true → AllByRecursion (λ x. p x ≡ true) xs
all_is p [] e = tt
all_is p (x ∷ xs) e = let h = and_parts (p x) (list_all p xs) e in (h.0, all_is p xs h.1)

is_all : (p : ℕ → Bool) (xs : List ℕ) → AllByRecursion (λ x. p x ≡ true) xs → list_all p xs ≡ true
is_all p [] h = refl
is_all p (x ∷ xs) h = and_from (p x) (list_all p xs) h.0 (is_all p xs h.1)

pub is_name_sound : (name : List ℕ) → is_name name ≡ true → IsName name
is_name_sound [] e = absurd cc
is_name_sound (first ∷ others) e =
    let p = and_parts (starts_name first) (list_all continues_name others && leb (length others) 62) e in
    let q = and_parts (list_all continues_name others) (leb (length others) 62) p.1 in
    (p.0, All-from_recursion (λ x. continues_name x ≡ true) others (all_is continues_name others q.0), leb-true (length others) 62 q.1)

pub is_name_again : (name : List ℕ) → IsName name → is_name name ≡ true
is_name_again [] h = absurd h
is_name_again (first ∷ others) h =
    and_from (starts_name first) (list_all continues_name others && leb (length others) 62) h.0
    (and_from (list_all continues_name others) (leb (length others) 62) (is_all continues_name others (recursion_from_All (λ x. continues_name x ≡ true) others h.1)) (le-leb (length others) 62 h.2))

same_bools : (P : Type 0) (a b : Bool) → (IsTrue a → P) → (P → IsTrue a) → (b ≡ true → P) → (P → b ≡ true) → a ≡ b
same_bools P true true f g h k = refl
same_bools P true false f g h k = sym (k (f refl))
same_bools P false true f g h k = g (h refl)
same_bools P false false f g h k = refl

-- two tests of one fact
pub same_tests : (P : Type 0) (a b : Bool) → (IsTrue a → P) × (P → IsTrue a) → (b ≡ true → P) → (P → b ≡ true) → a ≡ b
same_tests P a b f h k = same_bools P a b f.0 f.1 h k

short_name : (name : List ℕ) → IsName name → length name < 256
short_name [] h = absurd h
short_name (first ∷ others) h = let few = h.2 in omega (arith, few)

less_is : (o : Ordering) → is_less o ≡ true → o ≡ orders.Less
less_is orders.Less e = refl
less_is orders.Equal e = absurd cc
less_is orders.Greater e = absurd cc

follows_sound : (last : Option (List ℕ)) (name : List ℕ) → name_follows last name ≡ true → NameFollows last name
follows_sound None name e = tt
follows_sound (Some last) name e = less_is (slice_cmp nat_cmp last name) e

follows_again : (last : Option (List ℕ)) (name : List ℕ) → NameFollows last name → name_follows last name ≡ true
follows_again None name h = refl
follows_again (Some last) name h = ap is_less h

pub record TableName (last : Option (List ℕ)) (name : List ℕ) : Type 0 where
  pub is : IsName name
  pub follows : NameFollows last name

table_name_passed : (a b : Bool) → cond {A = Option Defect} a (cond b None (Some Order)) (Some Range) ≡ None → (a ≡ true) × (b ≡ true)
table_name_passed true true e = (refl, refl)
table_name_passed true false e = absurd cc
table_name_passed false b e = absurd cc

table_name_judged : (last : Option (List ℕ)) → Judges (List ℕ) (λ a. length a < 256) (table_name_defect last) (TableName last)
table_name_judged last = record {
  sound = λ name is e.
      let p = table_name_passed (is_name name) (name_follows last name) e in
      record { is = is_name_sound name p.0; follows = follows_sound last name p.1 };
  again = λ name is rule. rw (is_name_again name rule.is, follows_again last name rule.follows) refl;
}

pub table_name_reads : (last : Option (List ℕ)) → Reads (List ℕ) (tested (table_name_defect last) counted_at) name_form (TableName last)
table_name_reads last =
    same_reads (List ℕ) (tested (table_name_defect last) counted_at) name_form (λ a. (length a < 256) × TableName last a) name_form (TableName last)
    (tested_reads (List ℕ) counted_at name_form (λ a. length a < 256) (table_name_defect last) (TableName last) counted_reads (table_name_judged last))
    (λ a is. (refl, is.1)) (λ a is. (short_name a is.is, is))

-- ---- columns

abbrev pub IsNew : List Column → List ℕ → Type 0
IsNew [] name = name ≡ codes "id"
IsNew (c ∷ cs) name = AllByRecursion (λ (b : Column). b.name ≢ name) (c ∷ cs)

pub record ColumnName (before : List Column) (name : List ℕ) : Type 0 where
  pub is : IsName name
  pub new : IsNew before name

not_equal : (a b : List ℕ) → bytes_eq a b ≡ false → a ≢ b
not_equal a b e same = absurd (let true_is : bytes_eq a b ≡ true = (bytes_eq-Decides a b).1 same in cc)

apart_is : (a b : List ℕ) → a ≢ b → bytes_eq a b ≡ false
apart_is a b h = elim (cases_Bool (bytes_eq a b)) [ inl same ↦ absurd (h ((bytes_eq-Decides a b).0 same)) | inr other ↦ other ]

or_false : (a b : Bool) → (a || b) ≡ false → (a ≡ false) × (b ≡ false)
or_false true b e = absurd cc
or_false false true e = absurd cc
or_false false false e = (refl, refl)

unnamed : (cs : List Column) (name : List ℕ) → has_name cs name ≡ false → AllByRecursion (λ (b : Column). b.name ≢ name) cs
unnamed [] name e = tt
unnamed (c ∷ cs) name e = let p = or_false (bytes_eq c.name name) (has_name cs name) e in (not_equal c.name name p.0, unnamed cs name p.1)

named_not : (cs : List Column) (name : List ℕ) → AllByRecursion (λ (b : Column). b.name ≢ name) cs → has_name cs name ≡ false
named_not [] name h = refl
named_not (c ∷ cs) name h = rw (apart_is c.name name h.0, named_not cs name h.1) refl

none_or : (a : Bool) (kind : Defect) → cond {A = Option Defect} a None (Some kind) ≡ None → a ≡ true
none_or true kind e = refl
none_or false kind e = absurd cc

none_unless : (a : Bool) (kind : Defect) → cond {A = Option Defect} a (Some kind) None ≡ None → a ≡ false
none_unless true kind e = absurd cc
none_unless false kind e = refl

new_sound : (before : List Column) (name : List ℕ) → new_name_defect before name ≡ None → IsNew before name
new_sound [] name e = (bytes_eq-Decides name (codes "id")).0 (none_or (bytes_eq name (codes "id")) Range e)
new_sound (c ∷ cs) name e = unnamed (c ∷ cs) name (none_unless (has_name (c ∷ cs) name) Order e)

new_again : (before : List Column) (name : List ℕ) → IsNew before name → new_name_defect before name ≡ None
new_again [] name h = let same : bytes_eq name (codes "id") ≡ true = (bytes_eq-Decides name (codes "id")).1 h in rw same refl
new_again (c ∷ cs) name h = let none : has_name (c ∷ cs) name ≡ false = named_not (c ∷ cs) name h in rw none refl

name_passed : (a : Bool) (o : Option Defect) → cond a o (Some Range) ≡ None → (a ≡ true) × (o ≡ None)
name_passed true o e = (refl, e)
name_passed false o e = absurd cc

column_name_judged : (before : List Column) → Judges (List ℕ) (λ a. length a < 256) (column_name_defect before) (ColumnName before)
column_name_judged before = record {
  sound = λ name is e. let p = name_passed (is_name name) (new_name_defect before name) e in record { is = is_name_sound name p.0; new = new_sound before name p.1 };
  again = λ name is rule. rw (is_name_again name rule.is) (new_again before name rule.new);
}

column_name_reads : (before : List Column) → Reads (List ℕ) (tested (column_name_defect before) counted_at) name_form (ColumnName before)
column_name_reads before =
    same_reads (List ℕ) (tested (column_name_defect before) counted_at) name_form (λ a. (length a < 256) × ColumnName before a) name_form (ColumnName before)
    (tested_reads (List ℕ) counted_at name_form (λ a. length a < 256) (column_name_defect before) (ColumnName before) counted_reads (column_name_judged before))
    (λ a is. (refl, is.1)) (λ a is. (short_name a is.is, is))

abbrev pub KindRule : List Column → ColType → Type 0
KindRule [] kind = kind ≡ types.Int8
KindRule (c ∷ cs) kind = Unit {0}

pub record IsCode (before : List Column) (code : ℕ) : Type 0 where
  pub least_is : 1 ≤ code
  pub most_is : code ≤ most_kind before

kind_judged : (before : List Column) → Judges ℕ (λ n. n < 256) (kind_defect before) (IsCode before)
kind_judged before = record {
  sound = λ n is e. record { least_is = grind (arith, nat_tests); most_is = grind (arith, nat_tests) };
  again = λ n is rule. let least = rule.least_is in let most = rule.most_is in grind (arith, nat_tests);
}

code_shown : (before : List Column) (n : ℕ) → IsCode before n → (n ∷ [] ≡ type_code (kind_of n) ∷ []) × KindRule before (kind_of n)
code_shown [] zero is = absurd (let le = is.least_is in omega (arith, le))
code_shown [] (suc zero) is = (refl, refl)
code_shown [] (suc (suc n)) is = absurd (let le = is.most_is in omega (arith, le))
code_shown (c ∷ cs) zero is = absurd (let le = is.least_is in omega (arith, le))
code_shown (c ∷ cs) (suc zero) is = (refl, tt)
code_shown (c ∷ cs) (suc (suc zero)) is = (refl, tt)
code_shown (c ∷ cs) (suc (suc (suc zero))) is = (refl, tt)
code_shown (c ∷ cs) (suc (suc (suc (suc zero)))) is = (refl, tt)
code_shown (c ∷ cs) (suc (suc (suc (suc (suc zero))))) is = (refl, tt)
code_shown (c ∷ cs) (suc (suc (suc (suc (suc (suc n)))))) is = absurd (let le = is.most_is in omega (arith, le))

kind_back : (kind : ColType) → kind_of (type_code kind) ≡ kind
kind_back types.Int8 = refl
kind_back types.Oid = refl
kind_back types.Lo = refl
kind_back types.Bytea = refl
kind_back types.Int4Array = refl

code_small : (kind : ColType) → (1 ≤ type_code kind) × (type_code kind ≤ 5)
code_small types.Int8 = (omega arith, omega arith)
code_small types.Oid = (omega arith, omega arith)
code_small types.Lo = (omega arith, omega arith)
code_small types.Bytea = (omega arith, omega arith)
code_small types.Int4Array = (omega arith, omega arith)

code_is : (before : List Column) (kind : ColType) → KindRule before kind → IsCode before (type_code kind)
code_is [] kind h = rw h (record { least_is = omega arith; most_is = omega arith })
code_is (c ∷ cs) kind h = record { least_is = (code_small kind).0; most_is = (code_small kind).1 }

kind_reads : (before : List Column) → Reads ColType (kind_at before) (λ k. type_code k ∷ []) (KindRule before)
kind_reads before =
    made_reads ℕ ColType kind_of (tested (kind_defect before) byte_at) (λ b. b ∷ []) (λ n. (n < 256) × IsCode before n) (λ k. type_code k ∷ []) (KindRule before)
    (tested_reads ℕ byte_at (λ b. b ∷ []) (λ b. b < 256) (kind_defect before) (IsCode before) byte_reads (kind_judged before))
    (record {
      back = type_code;
      there = λ k is. kind_back k;
      here = λ n is. code_shown before n is.1;
      again = λ k is. (refl, (let small = (code_small k).1 in omega (arith, small), code_is before k is));
    })

abbrev pub StorageRule : ColType → ℕ → Type 0
StorageRule kind code = storage_defect kind code ≡ None

storage_judged : (kind : ColType) → Judges ℕ (λ n. n < 256) (storage_defect kind) (StorageRule kind)
storage_judged kind = record { sound = λ n is e. e; again = λ n is rule. rule }

-- a code that is one of these
pub record IsStorage (kind : ColType) (code : ℕ) (storage : Storage) : Type 0 where
  pub form : code ∷ [] ≡ storage_code storage ∷ []
  pub plain : IsPlainIfFixed kind storage

plain_fits : (kind : ColType) → IsPlainIfFixed kind storages.Plain
plain_fits types.Int8 = refl
plain_fits types.Oid = refl
plain_fits types.Lo = refl
plain_fits types.Bytea = tt
plain_fits types.Int4Array = tt

movable_fits : (kind : ColType) (s : Storage) → is_fixed kind ≡ false → IsPlainIfFixed kind s
movable_fits types.Int8 s e = absurd cc
movable_fits types.Oid s e = absurd cc
movable_fits types.Lo s e = absurd cc
movable_fits types.Bytea s e = tt
movable_fits types.Int4Array s e = tt

of_tests : (kind : ColType) (code : ℕ) (fixed a b c d : Bool) → is_fixed kind ≡ fixed → eqb code 112 ≡ a → eqb code 101 ≡ b → eqb code 120 ≡ c → eqb code 109 ≡ d
    → cond {A = Option Defect} (a || (not fixed && (b || (c || d)))) None (Some Range) ≡ None → IsStorage kind code (cond a storages.Plain (cond b storages.External (cond c storages.Extended storages.Main)))
of_tests kind code fixed true b c d f p q r s e = record { form = let is : code ≡ 112 = grind (arith, nat_tests) in rw is refl; plain = plain_fits kind }
of_tests kind code true false b c d f p q r s e = absurd cc
of_tests kind code false false true c d f p q r s e = record { form = let is : code ≡ 101 = grind (arith, nat_tests) in rw is refl; plain = movable_fits kind storages.External f }
of_tests kind code false false false true d f p q r s e = record { form = let is : code ≡ 120 = grind (arith, nat_tests) in rw is refl; plain = movable_fits kind storages.Extended f }
of_tests kind code false false false false true f p q r s e = record { form = let is : code ≡ 109 = grind (arith, nat_tests) in rw is refl; plain = movable_fits kind storages.Main f }
of_tests kind code false false false false false f p q r s e = absurd cc

storage_shown : (kind : ColType) (code : ℕ) → StorageRule kind code → IsStorage kind code (storage_of code)
storage_shown kind code rule = of_tests kind code (is_fixed kind) (eqb code 112) (eqb code 101) (eqb code 120) (eqb code 109) refl refl refl refl refl rule

storage_back : (s : Storage) → storage_of (storage_code s) ≡ s
storage_back storages.Plain = refl
storage_back storages.External = refl
storage_back storages.Extended = refl
storage_back storages.Main = refl

storage_small : (s : Storage) → storage_code s < 256
storage_small storages.Plain = omega arith
storage_small storages.External = omega arith
storage_small storages.Extended = omega arith
storage_small storages.Main = omega arith

only_plain : (s : Storage) → s ≡ storages.Plain → storage_defect types.Int8 (storage_code s) ≡ None
only_plain storages.Plain e = refl
only_plain storages.External e = absurd cc
only_plain storages.Extended e = absurd cc
only_plain storages.Main e = absurd cc

any_storage : (s : Storage) → storage_defect types.Bytea (storage_code s) ≡ None
any_storage storages.Plain = refl
any_storage storages.External = refl
any_storage storages.Extended = refl
any_storage storages.Main = refl

storage_is : (kind : ColType) (s : Storage) → IsPlainIfFixed kind s → StorageRule kind (storage_code s)
storage_is types.Int8 s h = only_plain s h
storage_is types.Oid s h = only_plain s h
storage_is types.Lo s h = only_plain s h
storage_is types.Bytea s h = any_storage s
storage_is types.Int4Array s h = any_storage s

storage_reads : (kind : ColType) → Reads Storage (storage_at kind) (λ s. storage_code s ∷ []) (IsPlainIfFixed kind)
storage_reads kind =
    made_reads ℕ Storage storage_of (tested (storage_defect kind) byte_at) (λ b. b ∷ []) (λ n. (n < 256) × StorageRule kind n) (λ s. storage_code s ∷ []) (IsPlainIfFixed kind)
    (tested_reads ℕ byte_at (λ b. b ∷ []) (λ b. b < 256) (storage_defect kind) (StorageRule kind) byte_reads (storage_judged kind))
    (record {
      back = storage_code;
      there = λ s is. storage_back s;
      here = λ n is. let h = storage_shown kind n is.1 in (h.form, h.plain);
      again = λ s is. (refl, (storage_small s, storage_is kind s is));
    })

pub record IsColumnAt (before : List Column) (c : Column) : Type 0 where
  pub name : ColumnName before c.name
  pub kind : KindRule before c.kind
  pub storage : IsPlainIfFixed c.kind c.storage

column_reads : (before : List Column) → Reads Column (column_at before) column_form (IsColumnAt before)
column_reads before =
    let rest = both_reads ColType Storage (kind_at before) storage_at (λ k. type_code k ∷ []) (λ k s. storage_code s ∷ []) (KindRule before) IsPlainIfFixed (kind_reads before) (λ k is. storage_reads k) in
    let whole = both_reads (List ℕ) (ColType × Storage) (tested (column_name_defect before) counted_at) (λ name. both (kind_at before) storage_at) name_form (λ name x. type_code x.0 ∷ [] ++ storage_code x.1 ∷ []) (ColumnName before) (λ name x. KindRule before x.0 × IsPlainIfFixed x.0 x.1) (column_name_reads before) (λ name is. rest) in
    made_reads (List ℕ × (ColType × Storage)) Column column_of (both (tested (column_name_defect before) counted_at) (λ name. both (kind_at before) storage_at)) (λ x. name_form x.0 ++ (type_code x.1.0 ∷ [] ++ storage_code x.1.1 ∷ []))
    (λ x. ColumnName before x.0 × (KindRule before x.1.0 × IsPlainIfFixed x.1.0 x.1.1)) column_form (IsColumnAt before) whole
    (record {
      back = λ c. (c.name, (c.kind, c.storage));
      there = λ c is. refl;
      here = λ x is. (refl, record { name = is.0; kind = is.1.0; storage = is.1.1 });
      again = λ c is. (refl, (is.name, (is.kind, is.storage)));
    })

-- ---- columns together

columns_shown : (before cs : List Column) → joined (λ b. column_form) after_column before cs ≡ columns_form cs
columns_shown before [] = refl
columns_shown before (c ∷ cs) = ap (λ (t : List ℕ). column_form c ++ t) (columns_shown (after_column before c) cs)

all_named : (before cs : List Column) → AllFrom IsColumnAt after_column before cs → AllByRecursion (λ (c : Column). IsName c.name) cs
all_named before [] all = tt
all_named before (c ∷ cs) all = (all.0.name.is, all_named (after_column before c) cs all.1)

all_fixed : (before cs : List Column) → AllFrom IsColumnAt after_column before cs → AllByRecursion (λ (c : Column). IsPlainIfFixed c.kind c.storage) cs
all_fixed before [] all = tt
all_fixed before (c ∷ cs) all = (all.0.storage, all_fixed (after_column before c) cs all.1)

middle : (pre : List Column) (c : Column) (post : List Column) (name : List ℕ) → AllByRecursion (λ (b : Column). b.name ≢ name) (pre ++ c ∷ post) → c.name ≢ name
middle [] c post name h = h.0
middle (b ∷ pre) c post name h = middle pre c post name h.1

new_of : (pre : List Column) (c : Column) (post : List Column) (name : List ℕ) → IsNew (pre ++ c ∷ post) name → AllByRecursion (λ (b : Column). b.name ≢ name) (pre ++ c ∷ post)
new_of [] c post name h = h
new_of (b ∷ pre) c post name h = h

behind_apart : (pre : List Column) (c : Column) (post cs : List Column) → AllFrom IsColumnAt after_column (pre ++ c ∷ post) cs → AllByRecursion (λ other. other ≢ c.name) (map (λ (d : Column). d.name) cs)
behind_apart pre c post [] all = tt
behind_apart pre c post (d ∷ cs) all = (
  λ same. middle pre c post d.name (new_of pre c post d.name all.0.name.new) (sym same),
  behind_apart pre c (post ++ d ∷ []) cs (subst (λ (b : List Column). AllFrom IsColumnAt after_column b cs) (append_assoc pre (c ∷ post) (d ∷ [])) all.1),
)

all_distinct : (before cs : List Column) → AllFrom IsColumnAt after_column before cs → AreDistinct (map (λ (c : Column). c.name) cs)
all_distinct before [] all = tt
all_distinct before (c ∷ cs) all = (behind_apart before c [] cs all.1, all_distinct (after_column before c) cs all.1)

starts : (cs : List Column) → 1 ≤ length cs → AllFrom IsColumnAt after_column [] cs → StartsWithId cs
starts [] some all = absurd (omega (arith, some))
starts (c ∷ cs) some all = (all.0.name.new, all.0.kind)

pub columns_are : (cs : List Column) → 1 ≤ length cs → length cs ≤ 32 → AllFrom IsColumnAt after_column [] cs → IsTableColumns cs
columns_are cs some few all = record { id_first = starts cs some all; few = few; named = all_named [] cs all; distinct = all_distinct [] cs all; fixed = all_fixed [] cs all }

-- names before are those of no column behind
abbrev Apart : List Column → List Column → Type 0
Apart before cs = AllByRecursion (λ (c : Column). AllByRecursion (λ (b : Column). b.name ≢ c.name) before) cs

with_one : (before : List Column) (c : Column) (name : List ℕ) → AllByRecursion (λ (b : Column). b.name ≢ name) before → c.name ≢ name → AllByRecursion (λ (b : Column). b.name ≢ name) (before ++ c ∷ [])
with_one [] c name h new = (new, tt)
with_one (b ∷ before) c name h new = (h.0, with_one before c name h.1 new)

apart_on : (before : List Column) (c : Column) (cs : List Column) → Apart before cs → AllByRecursion (λ other. other ≢ c.name) (map (λ (d : Column). d.name) cs) → Apart (after_column before c) cs
apart_on before c [] h new = tt
apart_on before c (d ∷ cs) h new = (with_one before c d.name h.0 (λ same. new.0 (sym same)), apart_on before c cs h.1 new.1)

new_is : (before : List Column) (name : List ℕ) → 1 ≤ length before → AllByRecursion (λ (b : Column). b.name ≢ name) before → IsNew before name
new_is [] name some h = absurd (omega (arith, some))
new_is (b ∷ before) name some h = h

kind_free : (before : List Column) (kind : ColType) → 1 ≤ length before → KindRule before kind
kind_free [] kind some = absurd (omega (arith, some))
kind_free (b ∷ before) kind some = tt

others_from : (before cs : List Column) → 1 ≤ length before → Apart before cs → AllByRecursion (λ (c : Column). IsName c.name) cs → AreDistinct (map (λ (c : Column). c.name) cs) → AllByRecursion (λ (c : Column). IsPlainIfFixed c.kind c.storage) cs → AllFrom IsColumnAt after_column before cs
others_from before [] some apart named distinct fixed = tt
others_from before (c ∷ cs) some apart named distinct fixed = (
  record { name = record { is = named.0; new = new_is before c.name some apart.0 }; kind = kind_free before c.kind some; storage = fixed.0 },
  others_from (after_column before c) cs (omega (arith, length-append before (c ∷ []))) (apart_on before c cs apart.1 distinct.0) named.1 distinct.1 fixed.1,
)

none_apart : (cs : List Column) → Apart [] cs
none_apart [] = tt
none_apart (c ∷ cs) = (tt, none_apart cs)

columns_from : (cs : List Column) → IsTableColumns cs → AllFrom IsColumnAt after_column [] cs
columns_from [] is = tt
columns_from (c ∷ cs) is = (
  record { name = record { is = is.named.0; new = is.id_first.0 }; kind = is.id_first.1; storage = is.fixed.0 },
  others_from (c ∷ []) cs (omega arith) (apart_on [] c cs (none_apart cs) is.distinct.0) is.named.1 is.distinct.1 is.fixed.1,
)

pub some_columns : (cs : List Column) → IsTableColumns cs → 1 ≤ length cs
some_columns [] is = absurd is.id_first
some_columns (c ∷ cs) is = omega arith

pub record IsCount (n : ℕ) : Type 0 where
  pub some : 1 ≤ n
  pub few : n ≤ 32

columns_judged : Judges ℕ (λ n. n < 256) columns_defect IsCount
columns_judged = record {
  sound = λ n is e. record { some = grind (arith, nat_tests); few = grind (arith, nat_tests) };
  again = λ n is rule. let some = rule.some in let few = rule.few in grind (arith, nat_tests);
}

abbrev pub counted_columns : ℕ × List Column → List ℕ
counted_columns x = x.0 ∷ [] ++ columns_form x.1

pub record AreColumns (x : ℕ × List Column) : Type 0 where
  pub count : length x.1 ≡ x.0
  pub are : IsTableColumns x.1

pub columns_reads : Reads (ℕ × List Column) columns_at counted_columns AreColumns
columns_reads =
    let counts = tested_reads ℕ byte_at (λ b. b ∷ []) (λ b. b < 256) columns_defect IsCount byte_reads columns_judged in
    let law = both_reads ℕ (List Column) (tested columns_defect byte_at) (many column_at after_column []) (λ b. b ∷ []) (λ n. joined (λ b. column_form) after_column []) (λ n. (n < 256) × IsCount n) (λ n. AreRead Column (List Column) IsColumnAt after_column [] n) counts
    (λ n is. many_reads Column (List Column) column_at after_column (λ b. column_form) IsColumnAt column_reads [] n) in
    same_reads (ℕ × List Column) columns_at (λ x. x.0 ∷ [] ++ joined (λ b. column_form) after_column [] x.1) (λ x. ((x.0 < 256) × IsCount x.0) × AreRead Column (List Column) IsColumnAt after_column [] x.0 x.1) counted_columns AreColumns law
    (λ x is.
    let count = is.1.count in
    let some = is.0.1.some in
    let few = is.0.1.few in
    (ap (λ (t : List ℕ). x.0 ∷ t) (columns_shown [] x.1), record { count = count; are = columns_are x.1 (omega (arith, count, some)) (omega (arith, count, few)) is.1.all }))
    (λ x is.
    let count = is.count in
    let some = some_columns x.1 is.are in
    let few = is.are.few in
    ((omega (arith, count, few), record { some = omega (arith, count, some); few = omega (arith, count, few) }), record { count = count; all = columns_from x.1 is.are }))

pub counted_are : (n : ℕ) (bytes : List ℕ) (x : List Column × List ℕ) → 1 ≤ n → n ≤ 32 → IsBytes bytes → many column_at after_column [] n bytes ≡ Ok x → IsTableColumns x.0
counted_are n bytes x some few fits e =
    let t = ((many_reads Column (List Column) column_at after_column (λ b. column_form) IsColumnAt column_reads [] n).takes bytes x fits e).1 in
    let count = t.count in
    columns_are x.0 (omega (arith, count, some)) (omega (arith, count, few)) t.all
