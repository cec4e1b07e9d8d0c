-- The names of the tables in order are the keys of the index, which ascend.
use Rattle.std.proofs.Common.{◌≡◌, ◌<◌, length, slice_index_or, ℕ, zero, suc, ◌+◌, Bool, true, false, cond, List, [], ◌∷◌, map, Some, None, refl, ap, sym, ◌∙◌, Vec, Global}
use Rattle.std.specs.Prelude.{◌||◌, bytes_eq, is_some, option_map, slice_get}
use Rattle.std.specs.BTreeMap.{BTreeMap, IsOrdered, is_at, keys}
use Rattle.std.specs.BTreeSet.{insert_key}
use Rattle.std.specs.Cmp.Lexicographic.{slice_cmp}
use Rattle.std.specs.List.{AllByRecursion, list_any}
use Rattle.std.specs.List.Sorted.{IsStrictlySortedBy}
use Rattle.std.specs.Map.{keys_of, lookup}
use Rattle.std.specs.Ordering.{nat_cmp, match_ordering, is_eq}
use Rattle.std.specs.declared.cmp.Ordering.{Ordering}
use Rattle.std.specs.declared.cmp.Ordering.TheVariants.{Less, Equal, Greater}
use Rattle.std.specs.Cmp.{IsTotalOrder}
use Rattle.std.proofs.lemmas.Cmp.{nat_list_cmp_total, on_total}
use Rattle.std.proofs.lemmas.Map.Entries.{btree_map_get_place}
use Rattle.std.proofs.lemmas.Map.Lookups.{btree_set_from_contains, exact_bytes}
use Rattle.lo_model.specs.Database.{Table}
use Rattle.lo_model.specs.Listing.{by_name, in_order, tables_in_order}
use Rattle.lo_model.proofs.ListingLaws.{any_in_order, sorted_in_order}
use Rattle.row_tables.specs.declared.catalog.Entry.{Entry}
use Rattle.row_tables.specs.Catalog.{IsIndex, name_of, number_from, number_in, tables_of}
use Rattle.row_tables.proofs.Indexing.{at_name, by_bytes, entry_there, same_order, within_entries}
use Rattle.row_tables.proofs.Naming.{stands_at}

abbrev Key : Type 0
Key = Vec ℕ Global

abbrev bytes_cmp : List ℕ → List ℕ → Ordering
bytes_cmp a b = slice_cmp nat_cmp a b

abbrev pub bytes_of : Key → List ℕ
bytes_of key = key.items

by_bytes_total : IsTotalOrder by_bytes
by_bytes_total = on_total bytes_of nat_list_cmp_total

-- names of tables in order are names in order

map_inserted : (tables : List Table) (t : Table) → map name_of (insert_key by_name tables t) ≡ insert_key bytes_cmp (map name_of tables) t.name
map_inserted [] t = refl
map_inserted (u ∷ us) t = by (slice_cmp nat_cmp t.name u.name) (map_inserted us t)
  where
    by : (o : Ordering) → map name_of (insert_key by_name us t) ≡ insert_key bytes_cmp (map name_of us) t.name → map name_of (match_ordering o (t ∷ u ∷ us) (u ∷ us) (u ∷ insert_key by_name us t)) ≡ match_ordering o (t.name ∷ u.name ∷ map name_of us) (u.name ∷ map name_of us) (u.name ∷ insert_key bytes_cmp (map name_of us) t.name)
    by Less more = refl
    by Equal more = refl
    by Greater more = ap (λ (l : List (List ℕ)). u.name ∷ l) more

pub names_in_order : (tables : List Table) → map name_of (tables_in_order tables) ≡ in_order bytes_cmp (map name_of tables)
names_in_order [] = refl
names_in_order (t ∷ ts) = map_inserted (tables_in_order ts) t ∙ ap (λ (l : List (List ℕ)). insert_key bytes_cmp l t.name) (names_in_order ts)

-- the bytes of keys that ascend do so

all_bytes : (k : Key) (ks : List Key) → AllByRecursion (λ y. by_bytes k y ≡ Less) ks → AllByRecursion (λ y. bytes_cmp k.items y ≡ Less) (map bytes_of ks)
all_bytes k [] all = tt
all_bytes k (y ∷ ys) all = (all.0, all_bytes k ys all.1)

ascend : (ks : List Key) → IsStrictlySortedBy by_bytes ks → IsStrictlySortedBy bytes_cmp (map bytes_of ks)
unfolding IsStrictlySortedBy
ascend [] up = tt
ascend (k ∷ ks) up = (all_bytes k ks up.0, ascend ks up.1)

-- a key is there where the name has a number

any_key : {X : Type 0} (name : List ℕ) (es : List (Key × X)) → list_any (is_at (bytes_cmp name)) (map bytes_of (keys_of es)) ≡ is_some (lookup (is_at (at_name name)) es)
any_key name [] = refl
any_key name (e ∷ es) = by (is_eq (slice_cmp nat_cmp name e.0.items)) (any_key name es)
  where
    by : (b : Bool) → list_any (is_at (bytes_cmp name)) (map bytes_of (keys_of es)) ≡ is_some (lookup (is_at (at_name name)) es) → (b || list_any (is_at (bytes_cmp name)) (map bytes_of (keys_of es))) ≡ is_some (cond b (Some e.1) (lookup (is_at (at_name name)) es))
    by true more = refl
    by false more = more

any_name : (first : ℕ) (name : List ℕ) (tables : List Table) → list_any (is_at (bytes_cmp name)) (map name_of tables) ≡ is_some (number_from first name tables)
any_name first name [] = refl
any_name first name (t ∷ ts) = ap (λ b. b || list_any (is_at (bytes_cmp name)) (map name_of ts)) (same_order name t.name) ∙ by (bytes_eq t.name name) (any_name (first + 1) name ts)
  where
    by : (b : Bool) → list_any (is_at (bytes_cmp name)) (map name_of ts) ≡ is_some (number_from (first + 1) name ts) → (b || list_any (is_at (bytes_cmp name)) (map name_of ts)) ≡ is_some (cond b (Some first) (number_from (first + 1) name ts))
    by true more = refl
    by false more = more

pub keys_are_names : (entries : List Entry) (numbers : BTreeMap Key ℕ) → IsIndex entries numbers → IsOrdered by_bytes numbers → map bytes_of (keys numbers) ≡ map name_of (tables_in_order (tables_of entries))
keys_are_names entries numbers index ordered =
    btree_set_from_contains nat_list_cmp_total (record { keys = map bytes_of (keys numbers) }) (record { keys = in_order bytes_cmp (map name_of (tables_of entries)) })
    (ascend (keys numbers) ordered)
    (sorted_in_order bytes_cmp nat_list_cmp_total (map name_of (tables_of entries)))
    (λ name. any_key name numbers.entries ∙ (ap is_some (index.found name) ∙ (sym (any_name 0 name (tables_of entries)) ∙ sym (any_in_order bytes_cmp exact_bytes (is_at (bytes_cmp name)) (map name_of (tables_of entries))))))
    exact_bytes
    ∙ sym (names_in_order (tables_of entries))

-- the key at a place is the name there

key_at : {X : Type 0} (es : List (Key × X)) (k : ℕ) → slice_get (map bytes_of (keys_of es)) k ≡ option_map (λ (e : Key × X). e.0.items) (slice_get es k)
key_at [] k = refl
key_at (e ∷ es) zero = refl
key_at (e ∷ es) (suc k) = key_at es k

pub name_there : (entries : List Entry) (numbers : BTreeMap Key ℕ) (k : ℕ) → IsIndex entries numbers → IsOrdered by_bytes numbers → slice_get (map name_of (tables_in_order (tables_of entries))) k ≡ option_map (λ (e : Key × ℕ). e.0.items) (slice_get numbers.entries k)
name_there entries numbers k index ordered = ap (λ (l : List (List ℕ)). slice_get l k) (sym (keys_are_names entries numbers index ordered)) ∙ key_at numbers.entries k

pub no_name_there : (entries : List Entry) (numbers : BTreeMap Key ℕ) (k : ℕ) → IsIndex entries numbers → IsOrdered by_bytes numbers → slice_get numbers.entries k ≡ None → slice_get (map name_of (tables_in_order (tables_of entries))) k ≡ None
no_name_there entries numbers k index ordered none = name_there entries numbers k index ordered ∙ ap (option_map (λ (e : Key × ℕ). e.0.items)) none

-- the name at a place is that of the entry whose number the key has
pub record NamedAt (entries : List Entry) (k : ℕ) (name : List ℕ) (number : ℕ) : Type 0 where
  pub is : slice_get (map name_of (tables_in_order (tables_of entries))) k ≡ Some name
  pub within : number < length entries
  pub named : (e : Entry) → e ≡ slice_index_or entries number e → Some e.name ≡ Some name

pub one_name_there : (entries : List Entry) (numbers : BTreeMap Key ℕ) (k : ℕ) (key : Key) (number : ℕ) → IsIndex entries numbers → IsOrdered by_bytes numbers → slice_get numbers.entries k ≡ Some (key, number) → NamedAt entries k key.items number
one_name_there entries numbers k key number index ordered found =
    let is : number_in key.items (tables_of entries) ≡ Some number = sym (index.found key.items) ∙ btree_map_get_place by_bytes_total numbers k key number ordered found in
    let s = stands_at key.items (tables_of entries) number is in
    record {
      is = name_there entries numbers k index ordered ∙ ap (option_map (λ (e : Key × ℕ). e.0.items)) found;
      within = within_entries entries (tables_of entries) number refl s.within;
      named = λ e at. ap (option_map name_of) (entry_there entries number e s.table at s.there) ∙ ap Some s.named;
    }
