-- The columns of a table with other storages: which storages are refused, and that the columns are again columns of a table.
use Rattle.std.proofs.Common.{◌≡◌, ◌≢◌, ℕ, zero, suc, ◌+◌, ◌≤◌, ℤ, pos, Bool, true, false, cond, List, [], ◌∷◌, ◌++◌, length, map, Option, Some, None, refl, ap, sym, subst, ◌∙◌, arith}
use Rattle.std.specs.Prelude.{bytes_eq, drop, get_or, is_none, is_some, not, slice_get}
use Rattle.std.specs.List.{AllByRecursion}
use Rattle.std.specs.Option.{unwrap_or}
use Rattle.std.proofs.lemmas.Bool.{false≢true}
use Rattle.std.proofs.lemmas.List.{length-map}
use Rattle.std.proofs.lemmas.Slice.Eq.{bytes_eq-Decides}
use Rattle.lo_base.specs.Name.{IsName}
use Rattle.lo_base.specs.declared.column.ColType.{ColType}
use Rattle.lo_base.specs.declared.column.ColType.TheVariants as types
use Rattle.lo_base.specs.declared.column.Column.{Column}
use Rattle.lo_base.specs.declared.column.Storage.{Storage}
use Rattle.lo_base.specs.declared.refusal.Cause.{Cause}
use Rattle.lo_base.specs.declared.refusal.Cause.TheVariants.{NoColumn, WrongType}
use Rattle.lo_base.specs.declared.refusal.Refusal.{Refusal}
use Rattle.lo_base.specs.declared.value.Value.{Value}
use Rattle.toast_plan.specs.Columns.{AreDistinct, AreLengths, HasLengthIfThere, IsPlainIfFixed, IsTableColumns, StartsWithId}
use Rattle.toast_plan.specs.Row.{FitColumns, FitsType}
use Rattle.row_tables.specs.RewriteRules.{is_fixed, is_varying, storage_refusals, stored_by, with_storages}
use Rattle.row_tables.specs.Rewriting.{SameKinds, kind_of}
use Rattle.row_tables.specs.RowRules.{column_in}
use Rattle.row_tables.specs.Terms.{first_of, when}
use Rattle.row_tables.proofs.EachOf.{cons_same}

-- terms in a row

pub first_later : (xs ys : List (Option Refusal)) → first_of xs ≡ None → first_of (xs ++ ys) ≡ first_of ys
first_later [] ys none = refl
first_later (None ∷ xs) ys none = first_later xs ys none
first_later (Some r ∷ xs) ys none = absurd (false≢true (ap is_some (sym none)))

pub first_here : (xs ys : List (Option Refusal)) (r : Refusal) → first_of xs ≡ Some r → first_of (xs ++ ys) ≡ Some r
first_here [] ys r is = absurd (false≢true (ap is_some is))
first_here (None ∷ xs) ys r is = first_here xs ys r is
first_here (Some q ∷ xs) ys r is = is

record AreNone (a b : Option Refusal) (rest : List (Option Refusal)) : Type 0 where
  first : a ≡ None
  second : b ≡ None
  others : first_of rest ≡ None

none_of : (a b : Option Refusal) (rest : List (Option Refusal)) → first_of (a ∷ b ∷ rest) ≡ None → AreNone a b rest
none_of None None rest none = record { first = refl; second = refl; others = none }
none_of None (Some q) rest none = absurd (false≢true (ap is_some (sym none)))
none_of (Some q) b rest none = absurd (false≢true (ap is_some (sym none)))

-- a term that does not hold tells that its test fails
when_none : (b : Bool) (cause : Cause) (z : ℤ) → when b cause z ≡ None → b ≡ false
when_none true cause z none = absurd (false≢true (ap is_some (sym none)))
when_none false cause z none = refl

-- names, types and lengths of the columns stay

stored_name : (c : Column) (o : Option Column) → (stored_by c o).name ≡ c.name
stored_name c None = refl
stored_name c (Some s) = refl

stored_kind : (c : Column) (o : Option Column) → (stored_by c o).kind ≡ c.kind
stored_kind c None = refl
stored_kind c (Some s) = refl

abbrev column_name : Column → List ℕ
column_name c = c.name

names_kept : (storages columns : List Column) → map column_name (with_storages storages columns) ≡ map column_name columns
names_kept storages [] = refl
names_kept storages (c ∷ cs) = cons_same (stored_by c (column_in c.name storages)).name c.name (map column_name (with_storages storages cs)) (map column_name cs) (stored_name c (column_in c.name storages)) (names_kept storages cs)

pub kinds_kept : (storages columns : List Column) → SameKinds columns (with_storages storages columns)
kinds_kept storages [] = refl
kinds_kept storages (c ∷ cs) = cons_same (stored_by c (column_in c.name storages)).kind c.kind (map kind_of (with_storages storages cs)) (map kind_of cs) (stored_kind c (column_in c.name storages)) (kinds_kept storages cs)

-- columns of the same types have values of the same lengths, and the same values fit them

head_same : (a b : ColType) (ls ms : List ColType) → a ∷ ls ≡ b ∷ ms → a ≡ b
head_same a b ls ms same = ap (λ (ks : List ColType). get_or ks 0 a) same

rest_same : (a b : ColType) (ls ms : List ColType) → a ∷ ls ≡ b ∷ ms → ls ≡ ms
rest_same a b ls ms same = ap (drop 1) same

none_same : (a : ColType) (ls : List ColType) → [] ≡ a ∷ ls → ⊥
none_same a ls same = let counts : length {A = ColType} [] ≡ length (a ∷ ls) = ap length same in grind (arith, counts)

pub lengths_alike : (old new : List Column) (ns : List (Option ℕ)) → SameKinds old new → AreLengths old ns → AreLengths new ns
lengths_alike [] [] ns same h = h
lengths_alike [] (c ∷ cs) ns same h = absurd (none_same c.kind (map kind_of cs) (sym same))
lengths_alike (b ∷ bs) [] ns same h = absurd (none_same b.kind (map kind_of bs) same)
lengths_alike (b ∷ bs) (c ∷ cs) [] same h = h
lengths_alike (b ∷ bs) (c ∷ cs) (n ∷ ns) same h = (subst (λ (k : ColType). HasLengthIfThere k n) (sym (head_same c.kind b.kind (map kind_of cs) (map kind_of bs) same)) h.0, lengths_alike bs cs ns (rest_same c.kind b.kind (map kind_of cs) (map kind_of bs) same) h.1)

pub fit_alike : (old new : List Column) (vs : List Value) → SameKinds old new → FitColumns old vs → FitColumns new vs
fit_alike [] [] vs same h = h
fit_alike [] (c ∷ cs) vs same h = absurd (none_same c.kind (map kind_of cs) (sym same))
fit_alike (b ∷ bs) [] vs same h = absurd (none_same b.kind (map kind_of bs) same)
fit_alike (b ∷ bs) (c ∷ cs) [] same h = h
fit_alike (b ∷ bs) (c ∷ cs) (v ∷ vs) same h = (subst (λ (k : ColType). FitsType k v) (sym (head_same c.kind b.kind (map kind_of cs) (map kind_of bs) same)) h.0, fit_alike bs cs vs (rest_same c.kind b.kind (map kind_of cs) (map kind_of bs) same) h.1)

-- a storage that is not refused is of a column whose values have no fixed length

found_name : (name : List ℕ) (columns : List Column) (c : Column) → column_in name columns ≡ Some c → c.name ≡ name
found_name name [] c is = absurd (false≢true (ap is_some is))
found_name name (d ∷ ds) c is = by (bytes_eq d.name name) refl is (found_name name ds c)
  where
    by : (b : Bool) → bytes_eq d.name name ≡ b → cond b (Some d) (column_in name ds) ≡ Some c → (column_in name ds ≡ Some c → c.name ≡ name) → c.name ≡ name
    by true same here rest = ap (λ (o : Option Column). (unwrap_or o d).name) (sym here) ∙ (bytes_eq-Decides d.name name).0 same
    by false same here rest = rest here

judged : (k : ℕ) (columns storages : List Column) → first_of (storage_refusals k columns storages) ≡ None → (name : List ℕ) (s : Column) → column_in name storages ≡ Some s → is_fixed (column_in s.name columns) ≡ false
judged k columns [] none name s is = absurd (false≢true (ap is_some is))
judged k columns (t ∷ ts) none name s is = by (bytes_eq t.name name) is (none_of (when (is_none (column_in t.name columns)) NoColumn (pos k)) (when (is_fixed (column_in t.name columns)) WrongType (pos k)) (storage_refusals (k + 1) columns ts) none) (λ left. judged (k + 1) columns ts left name s)
  where
    by : (b : Bool) → cond b (Some t) (column_in name ts) ≡ Some s → AreNone (when (is_none (column_in t.name columns)) NoColumn (pos k)) (when (is_fixed (column_in t.name columns)) WrongType (pos k)) (storage_refusals (k + 1) columns ts) → (first_of (storage_refusals (k + 1) columns ts) ≡ None → column_in name ts ≡ Some s → is_fixed (column_in s.name columns) ≡ false) → is_fixed (column_in s.name columns) ≡ false
    by true here are rest = ap (λ (o : Option Column). is_fixed (column_in (unwrap_or o t).name columns)) (sym here) ∙ when_none (is_fixed (column_in t.name columns)) WrongType (pos k) are.second
    by false here are rest = rest are.others here

-- each column is the one of its name

at_name : (name : List ℕ) (columns : List Column) (k : ℕ) (c : Column) → AllByRecursion (λ other. other ≢ name) (map column_name columns) → slice_get columns k ≡ Some c → c.name ≢ name
at_name name [] k c all there = absurd (false≢true (ap is_some there))
at_name name (d ∷ ds) zero c all there = λ same. all.0 (ap (λ (o : Option Column). (unwrap_or o d).name) there ∙ same)
at_name name (d ∷ ds) (suc k) c all there = at_name name ds k c all.1 there

own_column : (columns : List Column) (k : ℕ) (c : Column) → AreDistinct (map column_name columns) → slice_get columns k ≡ Some c → column_in c.name columns ≡ Some c
own_column [] k c distinct there = absurd (false≢true (ap is_some there))
own_column (d ∷ ds) zero c distinct there = ap (λ (b : Bool). cond b (Some d) (column_in c.name ds)) ((bytes_eq-Decides d.name c.name).1 (ap (λ (o : Option Column). (unwrap_or o d).name) there)) ∙ there
own_column (d ∷ ds) (suc k) c distinct there = by (bytes_eq d.name c.name) refl (own_column ds k c distinct.1 there)
  where
    by : (b : Bool) → bytes_eq d.name c.name ≡ b → column_in c.name ds ≡ Some c → cond (bytes_eq d.name c.name) (Some d) (column_in c.name ds) ≡ Some c
    by true same rest = absurd (at_name d.name ds k c distinct.0 there (sym ((bytes_eq-Decides d.name c.name).0 same)))
    by false same rest = ap (λ (b : Bool). cond b (Some d) (column_in c.name ds)) same ∙ rest

varies : (columns storages : List Column) → AreDistinct (map column_name columns) → first_of (storage_refusals 1 columns storages) ≡ None → (k : ℕ) (c s : Column) → slice_get columns k ≡ Some c → column_in c.name storages ≡ Some s → is_varying c.kind ≡ true
varies columns storages distinct none k c s there found =
    let same : s.name ≡ c.name = found_name c.name storages s found in
    let own : column_in s.name columns ≡ Some c = ap (λ (name : List ℕ). column_in name columns) same ∙ own_column columns k c distinct there in
    is_not (is_varying c.kind) (ap is_fixed (sym own) ∙ judged 1 columns storages none c.name s found)
  where
    is_not : (b : Bool) → not b ≡ false → b ≡ true
    is_not true is = refl
    is_not false is = absurd (false≢true (sym is))

-- the columns with other storages are columns of a table

all_mapped : (P Q : Column → Type 0) (f : Column → Column) (xs : List Column) → AllByRecursion Q xs → ((k : ℕ) (c : Column) → slice_get xs k ≡ Some c → Q c → P (f c)) → AllByRecursion P (map f xs)
all_mapped P Q f [] all each = tt
all_mapped P Q f (c ∷ cs) all each = (each 0 c refl all.0, all_mapped P Q f cs all.1 (λ k d there q. each (suc k) d there q))

varying_fits : (kind : ColType) (s : Storage) → is_varying kind ≡ true → IsPlainIfFixed kind s
varying_fits types.Int8 s is = absurd (false≢true is)
varying_fits types.Oid s is = absurd (false≢true is)
varying_fits types.Lo s is = absurd (false≢true is)
varying_fits types.Bytea s is = tt
varying_fits types.Int4Array s is = tt

stored_fits : (c : Column) (o : Option Column) → ((s : Column) → o ≡ Some s → is_varying c.kind ≡ true) → IsPlainIfFixed c.kind c.storage → IsPlainIfFixed (stored_by c o).kind (stored_by c o).storage
stored_fits c None varies fixed = fixed
stored_fits c (Some s) varies fixed = varying_fits c.kind s.storage (varies s refl)

id_kept : (storages columns : List Column) → StartsWithId columns → StartsWithId (with_storages storages columns)
id_kept storages [] h = h
id_kept storages (c ∷ cs) h = (stored_name c (column_in c.name storages) ∙ h.0, stored_kind c (column_in c.name storages) ∙ h.1)

pub can_store : (columns storages : List Column) → IsTableColumns columns → first_of (storage_refusals 1 columns storages) ≡ None → IsTableColumns (with_storages storages columns)
can_store columns storages are none = record {
  id_first = id_kept storages columns are.id_first;
  few = subst (λ (n : ℕ). n ≤ 32) (sym (length-map columns (λ (c : Column). stored_by c (column_in c.name storages)))) are.few;
  named = all_mapped (λ (c : Column). IsName c.name) (λ (c : Column). IsName c.name) (λ (c : Column). stored_by c (column_in c.name storages)) columns are.named (λ k c there is. subst IsName (sym (stored_name c (column_in c.name storages))) is);
  distinct = subst AreDistinct (sym (names_kept storages columns)) are.distinct;
  fixed = all_mapped (λ (c : Column). IsPlainIfFixed c.kind c.storage) (λ (c : Column). IsPlainIfFixed c.kind c.storage) (λ (c : Column). stored_by c (column_in c.name storages)) columns are.fixed (λ k c there is. stored_fits c (column_in c.name storages) (λ s found. varies columns storages are.distinct none k c s there found) is);
}
