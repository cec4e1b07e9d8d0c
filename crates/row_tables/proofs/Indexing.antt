-- The index of the tables by name is kept as a table is added, and as a table gets other columns.
use Rattle.std.proofs.Common.{◌≡◌, ◌≢◌, ◌<◌, ℕ, zero, suc, ◌+◌, Bool, true, false, cond, List, [], ◌∷◌, ◌++◌, length, map, Option, Some, None, refl, ap, sym, subst, ◌∙◌, arith, Vec, Global, slice_index_or, slice_set}
use Rattle.std.specs.Prelude.{bytes_eq, is_some, slice_get}
use Rattle.std.specs.BTreeMap.{BTreeMap, get_by, insert_entry, is_at}
use Rattle.std.specs.Cmp.Lexicographic.{slice_cmp}
use Rattle.std.specs.List.{AllByRecursion}
use Rattle.std.specs.Map.{lookup}
use Rattle.std.specs.Ordering.{nat_cmp, match_ordering, is_eq}
use Rattle.std.specs.declared.cmp.Ordering.{Ordering}
use Rattle.std.specs.declared.cmp.Ordering.TheVariants.{Less, Equal, Greater}
use Rattle.std.proofs.lemmas.Bool.{false≢true, true≢false}
use Rattle.std.proofs.lemmas.Cmp.{nat_list_cmp_total, tied_itself}
use Rattle.std.proofs.lemmas.Map.Lookups.{exact_bytes}
use Rattle.std.proofs.lemmas.Slice.Eq.{bytes_eq-Decides}
use Rattle.lo_base.specs.declared.column.Column.{Column}
use Rattle.lo_model.specs.Database.{Table}
use Rattle.toast_plan.specs.Columns.{AreDistinct, IsTableColumns}
use Rattle.row_tables.specs.declared.catalog.Entry.{Entry}
use Rattle.row_tables.specs.Catalog.{AreTables, IsIndex, most_tables, name_of, number_from, number_in, table_of, tables_of, with_columns}

abbrev Key : Type 0
Key = Vec ℕ Global

abbrev pub at_name : (name : List ℕ) → Key → Ordering
at_name name key = slice_cmp nat_cmp name key.items

abbrev pub by_bytes : Key → Key → Ordering
by_bytes a b = slice_cmp nat_cmp a.items b.items

-- whether two names are one, told by their order

pub same_order : (a b : List ℕ) → is_eq (slice_cmp nat_cmp a b) ≡ bytes_eq b a
same_order a b = by (bytes_eq b a) refl
  where
    equal : (o : Ordering) → slice_cmp nat_cmp a b ≡ o → bytes_eq b a ≡ false → is_eq o ≡ false
    equal Less is other = refl
    equal Equal is other = absurd (true≢false (sym ((bytes_eq-Decides b a).1 (sym (exact_bytes a b is))) ∙ other))
    equal Greater is other = refl

    by : (same : Bool) → bytes_eq b a ≡ same → is_eq (slice_cmp nat_cmp a b) ≡ same
    by true same = ap is_eq (subst (λ (l : List ℕ). slice_cmp nat_cmp a l ≡ Equal) (sym ((bytes_eq-Decides b a).0 same)) (tied_itself nat_list_cmp_total a))
    by false same = equal (slice_cmp nat_cmp a b) refl same

-- what is found by a name once a key is put into the entries

module _ {X : Type 0} (name : List ℕ) (k : Key) (v : X) where
  abbrev hit : Key → Bool
  hit key = is_eq (slice_cmp nat_cmp name key.items)

  -- a name hits one of two keys that are apart
  apart : (e : Key) → by_bytes k e ≡ Greater → hit k ≡ true → hit e ≡ true → ⊥
  apart e differs hits other =
      let first : k.items ≡ name = (bytes_eq-Decides k.items name).0 (sym (same_order name k.items) ∙ hits) in
      let second : e.items ≡ name = (bytes_eq-Decides e.items name).0 (sym (same_order name e.items) ∙ other) in
      let same : by_bytes k e ≡ Equal = subst (λ (l : List ℕ). slice_cmp nat_cmp k.items l ≡ Equal) (first ∙ sym second) (tied_itself nat_list_cmp_total k.items) in
      true≢false (ap is_eq (sym same ∙ differs))

  pub found_inserted : (es : List (Key × X)) → lookup (is_at (at_name name)) (insert_entry by_bytes es k v) ≡ cond (hit k) (Some v) (lookup (is_at (at_name name)) es)
  found_inserted [] = refl
  found_inserted (e ∷ es) = by (by_bytes k e.0) refl (found_inserted es)
    where
      rest : Option X
      rest = lookup (is_at (at_name name)) es

      equal : (b c : Bool) → c ≡ b → cond c (Some v) rest ≡ cond b (Some v) (cond c (Some e.1) rest)
      equal true true is = refl
      equal true false is = absurd (false≢true is)
      equal false true is = absurd (true≢false is)
      equal false false is = refl

      greater : (b c : Bool) → hit k ≡ b → hit e.0 ≡ c → by_bytes k e.0 ≡ Greater → cond c (Some e.1) (cond b (Some v) rest) ≡ cond b (Some v) (cond c (Some e.1) rest)
      greater true true first second is = absurd (apart e.0 is first second)
      greater true false first second is = refl
      greater false true first second is = refl
      greater false false first second is = refl

      by : (o : Ordering) → by_bytes k e.0 ≡ o → lookup (is_at (at_name name)) (insert_entry by_bytes es k v) ≡ cond (hit k) (Some v) rest
          → lookup (is_at (at_name name)) (match_ordering o ((k, v) ∷ e ∷ es) ((e.0, v) ∷ es) (e ∷ insert_entry by_bytes es k v)) ≡ cond (hit k) (Some v) (cond (hit e.0) (Some e.1) rest)
      by Less is more = refl
      by Equal is more = equal (hit k) (hit e.0) (ap (λ (l : List ℕ). is_eq (slice_cmp nat_cmp name l)) (sym (exact_bytes k.items e.0.items is)))
      by Greater is more = ap (λ (o : Option X). cond (hit e.0) (Some e.1) o) more ∙ greater (hit k) (hit e.0) refl refl is

-- the number of a name once a table is added

pub number_of_added : (first : ℕ) (tables : List Table) (t : Table) → number_from first t.name tables ≡ None → number_from first t.name (tables ++ t ∷ []) ≡ Some (first + length tables)
number_of_added first [] t none = ap (λ b. cond b (Some first) None) ((bytes_eq-Decides t.name t.name).1 refl) ∙ ap Some (omega arith)
number_of_added first (u ∷ us) t none = by (bytes_eq u.name t.name) none (number_of_added (first + 1) us t)
  where
    by : (same : Bool) → cond same (Some first) (number_from (first + 1) t.name us) ≡ None → (number_from (first + 1) t.name us ≡ None → number_from (first + 1) t.name (us ++ t ∷ []) ≡ Some (first + 1 + length us)) → cond same (Some first) (number_from (first + 1) t.name (us ++ t ∷ [])) ≡ Some (first + length (u ∷ us))
    by true is rest = absurd (true≢false (ap is_some is))
    by false is rest = rest is ∙ ap Some (omega arith)

pub number_of_other : (first : ℕ) (name : List ℕ) (tables : List Table) (t : Table) → bytes_eq t.name name ≡ false → number_from first name (tables ++ t ∷ []) ≡ number_from first name tables
number_of_other first name [] t other = ap (λ b. cond b (Some first) None) other
number_of_other first name (u ∷ us) t other = ap (λ (o : Option ℕ). cond (bytes_eq u.name name) (Some first) o) (number_of_other (first + 1) name us t other)

-- an added table under a new name leaves tables of a database

all_more : {X : Type 0} (P : X → Type 0) (xs : List X) (x : X) → AllByRecursion P xs → P x → AllByRecursion P (xs ++ x ∷ [])
all_more P [] x all p = (p, tt)
all_more P (y ∷ ys) x all p = (all.0, all_more P ys x all.1 p)

distinct_more : (names : List (List ℕ)) (name : List ℕ) → AreDistinct names → AllByRecursion (λ other. name ≢ other) names → AreDistinct (names ++ name ∷ [])
distinct_more [] name distinct fresh = (tt, tt)
distinct_more (n ∷ ns) name distinct fresh = (all_more (λ other. other ≢ n) ns name distinct.0 fresh.0, distinct_more ns name distinct.1 fresh.1)

fresh_name : (first : ℕ) (name : List ℕ) (tables : List Table) → number_from first name tables ≡ None → AllByRecursion (λ other. name ≢ other) (map name_of tables)
fresh_name first name [] none = tt
fresh_name first name (t ∷ ts) none = by (bytes_eq t.name name) refl none (fresh_name (first + 1) name ts)
  where
    by : (same : Bool) → bytes_eq t.name name ≡ same → cond same (Some first) (number_from (first + 1) name ts) ≡ None → (number_from (first + 1) name ts ≡ None → AllByRecursion (λ other. name ≢ other) (map name_of ts)) → AllByRecursion (λ other. name ≢ other) (map name_of (t ∷ ts))
    by true same is rest = absurd (true≢false (ap is_some is))
    by false same is rest = ((λ one. true≢false (sym ((bytes_eq-Decides t.name name).1 (sym one)) ∙ same)), rest is)

names_more : (tables : List Table) (t : Table) → map name_of (tables ++ t ∷ []) ≡ map name_of tables ++ t.name ∷ []
names_more [] t = refl
names_more (u ∷ us) t = ap (λ (l : List (List ℕ)). u.name ∷ l) (names_more us t)

length_more : {X : Type 0} (xs : List X) (x : X) → length (xs ++ x ∷ []) ≡ length xs + 1
length_more [] x = refl
length_more (y ∷ ys) x = let rest = length_more ys x in omega arith

pub tables_more : (tables : List Table) (t : Table) → AreTables tables → length tables < most_tables → number_in t.name tables ≡ None → IsTableColumns t.columns → AreTables (tables ++ t ∷ [])
tables_more tables t are few fresh can = record {
  few = let long = length_more tables t in omega arith;
  distinct = subst AreDistinct (sym (names_more tables t)) (distinct_more (map name_of tables) t.name are.distinct (fresh_name 0 t.name tables fresh));
  columns = all_more (λ (u : Table). IsTableColumns u.columns) tables t are.columns can;
}

pub tables_of_more : (entries : List Entry) (e : Entry) → tables_of (entries ++ e ∷ []) ≡ tables_of entries ++ table_of e ∷ []
tables_of_more [] e = refl
tables_of_more (d ∷ ds) e = ap (λ (l : List Table). table_of d ∷ l) (tables_of_more ds e)

length_tables_of : (entries : List Entry) → length (tables_of entries) ≡ length entries
length_tables_of [] = refl
length_tables_of (d ∷ ds) = ap suc (length_tables_of ds)

module _ (entries : List Entry) (old new : BTreeMap Key ℕ) (e : Entry) (key : Key) (index : IsIndex entries old) (named : key.items ≡ e.name) (put : new.entries ≡ insert_entry by_bytes old.entries key (length entries)) (fresh : number_in e.name (tables_of entries) ≡ None) where
  found_added : (name : List ℕ) → get_by (at_name name) new ≡ number_in name (tables_of entries ++ table_of e ∷ [])
  found_added name = ap (lookup (is_at (at_name name))) put ∙ (found_inserted name key (length entries) old.entries ∙ (ap (λ (o : Option ℕ). cond (is_eq (slice_cmp nat_cmp name key.items)) (Some (length entries)) o) (index.found name) ∙ (ap (λ b. cond b (Some (length entries)) (number_in name (tables_of entries))) (same_order name key.items ∙ ap (λ (l : List ℕ). bytes_eq l name) named) ∙ by (bytes_eq e.name name) refl)))
    where
      by : (same : Bool) → bytes_eq e.name name ≡ same → cond same (Some (length entries)) (number_in name (tables_of entries)) ≡ number_in name (tables_of entries ++ table_of e ∷ [])
      by true same = subst (λ (l : List ℕ). Some (length entries) ≡ number_in l (tables_of entries ++ table_of e ∷ [])) ((bytes_eq-Decides e.name name).0 same) (let long : length entries ≡ 0 + length (tables_of entries) = sym (length_tables_of entries) ∙ omega arith in ap Some long ∙ sym (number_of_added 0 (tables_of entries) (table_of e) fresh))
      by false same = sym (number_of_other 0 name (tables_of entries) (table_of e) same)

  pub index_added : length entries < most_tables → IsTableColumns e.columns → IsIndex (entries ++ e ∷ []) new
  index_added few can = record {
    tables = subst AreTables (sym (tables_of_more entries e)) (tables_more (tables_of entries) (table_of e) index.tables (let long = length_tables_of entries in omega arith) fresh can);
    found = λ name. found_added name ∙ ap (number_in name) (sym (tables_of_more entries e));
  }

-- other columns of one table leave names and numbers

length_with : (n : ℕ) (columns : List Column) (tables : List Table) → length (with_columns n columns tables) ≡ length tables
length_with n columns [] = refl
length_with zero columns (t ∷ ts) = refl
length_with (suc n) columns (t ∷ ts) = ap suc (length_with n columns ts)

pub names_with : (n : ℕ) (columns : List Column) (tables : List Table) → map name_of (with_columns n columns tables) ≡ map name_of tables
names_with n columns [] = refl
names_with zero columns (t ∷ ts) = refl
names_with (suc n) columns (t ∷ ts) = ap (λ (l : List (List ℕ)). t.name ∷ l) (names_with n columns ts)

pub number_with : (n first : ℕ) (columns : List Column) (name : List ℕ) (tables : List Table) → number_from first name (with_columns n columns tables) ≡ number_from first name tables
number_with n first columns name [] = refl
number_with zero first columns name (t ∷ ts) = refl
number_with (suc n) first columns name (t ∷ ts) = ap (λ (o : Option ℕ). cond (bytes_eq t.name name) (Some first) o) (number_with n (first + 1) columns name ts)

all_with : (n : ℕ) (columns : List Column) (tables : List Table) → IsTableColumns columns → AllByRecursion (λ (t : Table). IsTableColumns t.columns) tables → AllByRecursion (λ (t : Table). IsTableColumns t.columns) (with_columns n columns tables)
all_with n columns [] can all = tt
all_with zero columns (t ∷ ts) can all = (can, all.1)
all_with (suc n) columns (t ∷ ts) can all = (all.0, all_with n columns ts can all.1)

pub tables_with : (n : ℕ) (columns : List Column) (tables : List Table) → IsTableColumns columns → AreTables tables → AreTables (with_columns n columns tables)
tables_with n columns tables can are = record {
  few = let long = length_with n columns tables in let few = are.few in omega arith;
  distinct = subst AreDistinct (sym (names_with n columns tables)) are.distinct;
  columns = all_with n columns tables can are.columns;
}

pub tables_of_set : (entries : List Entry) (n : ℕ) (e : Entry) (columns : List Column) → n < length entries → e ≡ slice_index_or entries n e → tables_of (slice_set entries n (record { name = e.name; columns = columns })) ≡ with_columns n columns (tables_of entries)
tables_of_set [] n e columns within is = absurd (omega arith)
tables_of_set (d ∷ ds) zero e columns within is = ap (λ (l : List ℕ). record { name = l; columns = columns } ∷ tables_of ds) (ap (λ (f : Entry). f.name) is)
tables_of_set (d ∷ ds) (suc n) e columns within is = ap (λ (l : List Table). table_of d ∷ l) (tables_of_set ds n e columns (omega arith) is)

pub index_set : (entries : List Entry) (numbers : BTreeMap Key ℕ) (n : ℕ) (e : Entry) (columns : List Column) → IsIndex entries numbers → n < length entries → e ≡ slice_index_or entries n e → IsTableColumns columns → IsIndex (slice_set entries n (record { name = e.name; columns = columns })) numbers
index_set entries numbers n e columns index within is can =
    let same = tables_of_set entries n e columns within is in
    record {
      tables = subst AreTables (sym same) (tables_with n columns (tables_of entries) can index.tables);
      found = λ name. index.found name ∙ (sym (number_with n 0 columns name (tables_of entries)) ∙ ap (number_in name) (sym same));
    }

pub length_of_tables : (entries : List Entry) → length (tables_of entries) ≡ length entries
length_of_tables entries = length_tables_of entries

-- each table has columns that a table can have

pub columns_of_entry : (entries : List Entry) (n : ℕ) (e : Entry) → n < length entries → e ≡ slice_index_or entries n e → AllByRecursion (λ (t : Table). IsTableColumns t.columns) (tables_of entries) → IsTableColumns e.columns
columns_of_entry [] n e within is all = absurd (omega arith)
columns_of_entry (d ∷ ds) zero e within is all = subst (λ (f : Entry). IsTableColumns f.columns) (sym is) all.0
columns_of_entry (d ∷ ds) (suc n) e within is all = columns_of_entry ds n e (omega arith) is all.1

-- the entry at a number is the table there

pub entry_there : (entries : List Entry) (n : ℕ) (e : Entry) (t : Table) → e ≡ slice_index_or entries n e → slice_get (tables_of entries) n ≡ Some t → Some (table_of e) ≡ Some t
entry_there [] n e t is there = absurd (false≢true (ap is_some there))
entry_there (d ∷ ds) zero e t is there = ap (λ (f : Entry). Some (table_of f)) is ∙ there
entry_there (d ∷ ds) (suc n) e t is there = entry_there ds n e t is there

pub within_entries : (entries : List Entry) (tables : List Table) (n : ℕ) → tables_of entries ≡ tables → n < length tables → n < length entries
within_entries entries tables n are within = let long = length_tables_of entries in let same = ap (λ (l : List Table). length l) are in omega arith

pub few_entries : (entries : List Entry) (tables : List Table) → tables_of entries ≡ tables → length tables < most_tables → length entries < most_tables
few_entries entries tables are few = let long = length_tables_of entries in let same = ap (λ (l : List Table). length l) are in omega arith
