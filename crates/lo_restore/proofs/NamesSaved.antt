-- Tables in the order of their names: each is the one that its name finds, and the names ascend.
use Rattle.std.proofs.Common.{◌≡◌, ◌≢◌, ◌≤◌, ℕ, zero, suc, ◌+◌, Bool, true, false, cond, List, [], ◌∷◌, ◌++◌, length, map, drop, Option, Some, None, refl, ap, sym, subst, ◌∙◌, arith, append-nil, append_assoc}
use Rattle.std.specs.Prelude.{bytes_eq, is_some, slice_get}
use Rattle.std.specs.BTreeSet.{insert_key}
use Rattle.std.specs.Cmp.Lexicographic.{slice_cmp}
use Rattle.std.specs.List.{AllByRecursion}
use Rattle.std.specs.List.Sorted.{IsStrictlySortedBy}
use Rattle.std.specs.Option.{unwrap_or}
use Rattle.std.specs.Ordering.{nat_cmp, match_ordering}
use Rattle.std.specs.declared.cmp.Ordering.{Ordering}
use Rattle.std.specs.declared.cmp.Ordering.TheVariants.{Less, Equal, Greater}
use Rattle.std.proofs.lemmas.Bool.{false≢true}
use Rattle.std.proofs.lemmas.Cmp.{nat_list_cmp_total}
use Rattle.std.proofs.lemmas.List.{length_push}
use Rattle.std.proofs.lemmas.Slice.Eq.{bytes_eq-Decides}
use Rattle.lo_base.specs.declared.value.Value.{Value}
use Rattle.lo_model.specs.Database.{Table}
use Rattle.lo_model.specs.Edit.{Deed, Edit}
use Rattle.lo_model.specs.Listing.{by_name, in_order, tables_in_order}
use Rattle.lo_model.specs.Opening.{TableRows}
use Rattle.lo_model.proofs.ListingLaws.{sorted_in_order}
use Rattle.toast_plan.specs.Columns.{AreDistinct}
use Rattle.xact_core.specs.declared.snapshot.Snapshot.{Snapshot}
use Rattle.xact_core.specs.Transactions.{Transactions}
use Rattle.row_tables.specs.declared.tables.Tables.{Tables}
use Rattle.row_tables.specs.Catalog.{name_of, table_in}
use Rattle.row_tables.specs.Standing.{StandFor, tables_in}
use Rattle.row_tables.proofs.NamesInOrder.{names_in_order}
use Rattle.lo_opening.specs.declared.opening.TableData.{TableData}
use Rattle.lo_restore.specs.Tables.{named_of, rows_of}
use Rattle.lo_restore.specs.TablesSaved.{AreInOrder, CanBeSaved, HasTable, IsTable, name_in, rows_in, table_with_rows, tables_with_rows}
use Rattle.lo_restore.proofs.RowsSaved.{edits_seen, push_all}

-- what holds of all items holds of them in order

module _ {K : Type 0} (cmp : K → K → Ordering) (P : K → Type 0) where
  all_inserted : (ks : List K) (k : K) → AllByRecursion P ks → P k → AllByRecursion P (insert_key cmp ks k)
  all_inserted [] k all is = (is, tt)
  all_inserted (x ∷ xs) k all is = by (cmp k x) (all_inserted xs k all.1 is)
    where
      by : (o : Ordering) → AllByRecursion P (insert_key cmp xs k) → AllByRecursion P (match_ordering o (k ∷ x ∷ xs) (x ∷ xs) (x ∷ insert_key cmp xs k))
      by Less more = (is, all)
      by Equal more = all
      by Greater more = (all.0, more)

  pub all_in_order : (ks : List K) → AllByRecursion P ks → AllByRecursion P (in_order cmp ks)
  all_in_order [] all = tt
  all_in_order (k ∷ ks) all = all_inserted (in_order cmp ks) k (all_in_order ks all.1) all.0

-- and no item is added

few_inserted : {K : Type 0} (cmp : K → K → Ordering) (ks : List K) (k : K) → length (insert_key cmp ks k) ≤ length ks + 1
few_inserted cmp [] k = omega arith
few_inserted {K} cmp (x ∷ xs) k = by (cmp k x) (few_inserted cmp xs k)
  where
    by : (o : Ordering) → length (insert_key cmp xs k) ≤ length xs + 1 → length (match_ordering o (k ∷ x ∷ xs) (x ∷ xs) (x ∷ insert_key cmp xs k)) ≤ length (x ∷ xs) + 1
    by Less more = omega arith
    by Equal more = omega arith
    by Greater more = omega arith

pub few_in_order : {K : Type 0} (cmp : K → K → Ordering) (ks : List K) → length (in_order cmp ks) ≤ length ks
few_in_order cmp [] = omega arith
few_in_order cmp (k ∷ ks) = let more = few_in_order cmp ks in let one = few_inserted cmp (in_order cmp ks) k in omega arith

-- each table is found by its name

abbrev pub finds : List Table → Table → Type 0
finds ts t = table_in t.name ts ≡ Some t

still_found : (t : Table) (ts : List Table) (us : List Table) → AllByRecursion (λ other. other ≢ t.name) (map name_of us) → AllByRecursion (finds ts) us → AllByRecursion (finds (t ∷ ts)) us
still_found t ts [] apart all = tt
still_found t ts (u ∷ us) apart all = (by (bytes_eq t.name u.name) refl, still_found t ts us apart.1 all.1)
  where
    by : (b : Bool) → bytes_eq t.name u.name ≡ b → cond (bytes_eq t.name u.name) (Some t) (table_in u.name ts) ≡ Some u
    by true is = absurd (apart.0 (sym ((bytes_eq-Decides t.name u.name).0 is)))
    by false is = rw is all.0

pub all_found : (ts : List Table) → AreDistinct (map name_of ts) → AllByRecursion (finds ts) ts
all_found [] distinct = tt
all_found (t ∷ ts) distinct = (ap (λ b. cond b (Some t) (table_in t.name ts)) ((bytes_eq-Decides t.name t.name).1 refl), still_found t ts ts distinct.0 (all_found ts distinct.1))

-- the table at a place of the names
pub record IsAt (sorted : List Table) (P : Table → Type 0) (k : ℕ) (name : List ℕ) : Type 0 where
  pub table : Table
  pub named : table.name ≡ name
  pub next : drop k sorted ≡ table ∷ drop (k + 1) sorted
  pub holds : P table

pub at_name : (P : Table → Type 0) (sorted : List Table) (k : ℕ) (name : List ℕ) → AllByRecursion P sorted → slice_get (map name_of sorted) k ≡ Some name → IsAt sorted P k name
at_name P [] k name all is = absurd (false≢true (ap is_some is))
at_name P (t ∷ ts) zero name all is = record { table = t; named = same is; next = refl; holds = all.0 }
  where
    same : Some t.name ≡ Some name → t.name ≡ name
    same e = cc
at_name P (t ∷ ts) (suc k) name all is =
    let at = at_name P ts k name all.1 is in
    let more : suc (k + 1) ≡ suc k + 1 = omega arith in
    record { table = at.table; named = at.named; next = at.next ∙ ap (λ (n : ℕ). at.table ∷ drop n (t ∷ ts)) more; holds = at.holds }

pub no_name_left : (sorted : List Table) (k : ℕ) → slice_get (map name_of sorted) k ≡ None → drop k sorted ≡ []
no_name_left [] zero is = refl
no_name_left [] (suc k) is = refl
no_name_left (t ∷ ts) zero is = absurd (false≢true (sym (ap is_some is)))
no_name_left (t ∷ ts) (suc k) is = no_name_left ts k is

-- ---- the loop over names

pub record TablesRead (x : Transactions) (tables : Tables) (v : Snapshot) (k : ℕ) (list : List TableData) : Type 0 where
  pub all : (ys : List (Edit Deed)) → StandFor x tables ys → map rows_of list ++ map (table_with_rows (edits_seen v ys)) (drop k (tables_in_order (tables_in tables))) ≡ tables_with_rows (edits_seen v ys) (tables_in tables)
  pub each : AllByRecursion IsTable list
  pub count : length list ≡ k

module _ (x : Transactions) (tables : Tables) (v : Snapshot) where
  pub tables_begin : TablesRead x tables v 0 []
  tables_begin = record { all = λ ys stand. refl; each = tt; count = refl }

  map_push : (list : List TableData) (t : TableData) → map rows_of (list ++ t ∷ []) ≡ map rows_of list ++ rows_of t ∷ []
  map_push [] t = refl
  map_push (u ∷ us) t = ap (λ (rs : List TableRows). rows_of u ∷ rs) (map_push us t)

  -- the table of a name
  pub table_at : (can : CanBeSaved x tables v) (k : ℕ) (name : List ℕ) → Some name ≡ slice_get (map name_of (tables_in_order (tables_in tables))) k → IsAt (tables_in_order (tables_in tables)) (finds (tables_in tables)) k name
  table_at can k name is = at_name (finds (tables_in tables)) (tables_in_order (tables_in tables)) k name (all_in_order by_name (finds (tables_in tables)) (tables_in tables) (all_found (tables_in tables) can.tables_are.distinct)) (sym is)

  pub has_table : (can : CanBeSaved x tables v) (k : ℕ) (name : List ℕ) → Some name ≡ slice_get (map name_of (tables_in_order (tables_in tables))) k → HasTable tables name
  has_table can k name is = let at = table_at can k name is in record { table = at.table; there = ap (λ (n : List ℕ). table_in n (tables_in tables)) (sym at.named) ∙ at.holds }

  abbrev table_by : Table → List (List Value) → TableRows
  table_by u rows = record { name = u.name; columns = u.columns; rows = rows }

  rows_same : (t : TableData) (u : Table) (rs : List (List Value)) → Some u ≡ Some (named_of t) → t.rows ≡ rs → rows_of t ≡ record { name = u.name; columns = u.columns; rows = rs }
  rows_same t u rs named rows = ap (λ (w : Table). table_by w t.rows) (ap (λ (o : Option Table). unwrap_or o u) (sym named)) ∙ ap (table_by u) rows

  pub tables_turn : (can : CanBeSaved x tables v) (k : ℕ) (list : List TableData) (name : List ℕ) (t : TableData) → Some name ≡ slice_get (map name_of (tables_in_order (tables_in tables))) k → TablesRead x tables v k list → table_in name (tables_in tables) ≡ Some (named_of t) → ((ys : List (Edit Deed)) → StandFor x tables ys → t.rows ≡ rows_in (edits_seen v ys) name) → IsTable t → TablesRead x tables v (k + 1) (list ++ t ∷ [])
  tables_turn can k list name t is reads named rows good = record {
    all = λ ys stand.
        ap (λ (rs : List TableRows). rs ++ map (table_with_rows (edits_seen v ys)) (drop (k + 1) (tables_in_order (tables_in tables)))) (map_push list t)
        ∙ (append_assoc (map rows_of list) (rows_of t ∷ []) (map (table_with_rows (edits_seen v ys)) (drop (k + 1) (tables_in_order (tables_in tables))))
        ∙ (ap (λ (r : TableRows). map rows_of list ++ (r ∷ map (table_with_rows (edits_seen v ys)) (drop (k + 1) (tables_in_order (tables_in tables))))) (this ys stand)
        ∙ (ap (λ (ts : List Table). map rows_of list ++ map (table_with_rows (edits_seen v ys)) ts) (sym at.next) ∙ reads.all ys stand)));
    each = push_all IsTable list t reads.each good;
    count = let more = length_push list t in omega (arith, more, reads.count);
  }
    where
      at : IsAt (tables_in_order (tables_in tables)) (finds (tables_in tables)) k name
      at = table_at can k name is

      this : (ys : List (Edit Deed)) → StandFor x tables ys → rows_of t ≡ table_with_rows (edits_seen v ys) at.table
      this ys stand = rows_same t at.table (rows_in (edits_seen v ys) at.table.name) (sym at.holds ∙ (ap (λ (n : List ℕ). table_in n (tables_in tables)) at.named ∙ named)) (rows ys stand ∙ ap (rows_in (edits_seen v ys)) (sym at.named))

  pub tables_end : (k : ℕ) (list : List TableData) → TablesRead x tables v k list → drop k (tables_in_order (tables_in tables)) ≡ [] → (ys : List (Edit Deed)) → StandFor x tables ys → map rows_of list ≡ tables_with_rows (edits_seen v ys) (tables_in tables)
  tables_end k list reads none ys stand = sym (append-nil (map rows_of list)) ∙ (ap (λ (ts : List Table). map rows_of list ++ map (table_with_rows (edits_seen v ys)) ts) (sym none) ∙ reads.all ys stand)

  -- the names ascend

  names_of_rows : (list : List TableData) → map name_in list ≡ map (λ (r : TableRows). r.name) (map rows_of list)
  names_of_rows [] = refl
  names_of_rows (t ∷ ts) = ap (λ (ns : List (List ℕ)). t.name ∷ ns) (names_of_rows ts)

  names_of_tables : (edits : List (Edit Deed)) (ts : List Table) → map (λ (r : TableRows). r.name) (map (table_with_rows edits) ts) ≡ map name_of ts
  names_of_tables edits [] = refl
  names_of_tables edits (t ∷ ts) = ap (λ (ns : List (List ℕ)). t.name ∷ ns) (names_of_tables edits ts)

  pub in_name_order : (can : CanBeSaved x tables v) (list : List TableData) → map rows_of list ≡ tables_with_rows (edits_seen v can.edits) (tables_in tables) → AllByRecursion IsTable list → AreInOrder list
  in_name_order can list is each = record {
    each = each;
    order = subst (IsStrictlySortedBy (slice_cmp nat_cmp)) (sym (names_of_rows list ∙ (ap (map (λ (r : TableRows). r.name)) is ∙ (names_of_tables (edits_seen v can.edits) (tables_in_order (tables_in tables)) ∙ names_in_order (tables_in tables)))))
        (sorted_in_order (slice_cmp nat_cmp) nat_list_cmp_total (map name_of (tables_in tables)));
  }
