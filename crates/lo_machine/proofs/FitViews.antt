-- What views of a fit state find: rows of their tables that have a plan, and objects of a size; and so what its committed opening
-- holds. The state at the beginning is fit.
use Rattle.std.proofs.Common.{◌≡◌, ◌≤◌, ℕ, ℤ, ◌+◌, ◌-◌, Bool, true, false, cond, List, [], ◌∷◌, ◌++◌, length, map, take, drop, replicate, Option, Some, None, refl, ap, sym, subst, ◌∙◌, arith, length-append, length-take}
use Rattle.std.specs.Prelude.{◌≢◌, All, ◌==◌, is_some, option_map, if◌then◌else◌}
use Rattle.std.specs.declared.cmp.Ordering.{Ordering}
use Rattle.std.specs.declared.cmp.Ordering.TheVariants.{Less, Equal, Greater}
use Rattle.std.specs.BTreeSet.{insert_key}
use Rattle.std.specs.List.{AllByRecursion}
use Rattle.std.specs.List.Sorted.{IsStrictlySortedBy}
use Rattle.std.specs.Cmp.Lexicographic.{slice_cmp}
use Rattle.std.specs.Ordering.{int_cmp, is_eq, match_ordering, nat_cmp}
use Rattle.std.proofs.lemmas.Bool.{false≢true}
use Rattle.std.proofs.lemmas.Bool.Decides.{nat_tests}
use Rattle.std.proofs.lemmas.Cmp.{nat_list_cmp_total}
use Rattle.std.proofs.lemmas.Map.Text.{is_eq-slice_cmp}
use Rattle.std.proofs.lemmas.List.{length-drop, length-map, length-replicate}
use Rattle.std.proofs.lemmas.List.Elements.{All-filter, All-head, All-nil, All-tail, filter_passes, recursion_from_All}
use Rattle.std.proofs.lemmas.Slice.Eq.{bytes_eq-Decides}
use Rattle.lo_base.specs.Name.{IsName}
use Rattle.lo_base.specs.declared.column.Column.{Column}
use Rattle.lo_base.specs.declared.value.Value.{Value}
use Rattle.lo_model.specs.declared.viewer.Viewer.{Viewer}
use Rattle.lo_model.specs.declared.viewer.Viewer.TheVariants.{Nobody}
use Rattle.lo_model.specs.Database.{Table}
use Rattle.lo_model.specs.Descriptor.{bytes_or_none}
use Rattle.lo_model.specs.Edit.{Deed, Create, Write, Cut, Unlink, Put, Delete, Edit, deeds}
use Rattle.lo_model.specs.Listing.{by_name, created_oids, has_object, has_row, ids_in, in_order, oids_in, put_ids, tables_in_order}
use Rattle.lo_model.specs.Object.{at_size, laid_over, object_after, object_after_all, object_in}
use Rattle.lo_model.specs.Opening.{TableRows}
use Rattle.lo_model.specs.Row as model
use Rattle.lo_model.specs.View.{sees_edit, view}
use Rattle.lo_model.proofs.ListingLaws.{sorted_in_order}
use Rattle.lo_pages.specs.Outcome.{largest_size}
use Rattle.row_tables.specs.Catalog.{columns_in, name_of, table_in}
use Rattle.row_tables.specs.RowRules.{values_in}
use Rattle.row_tables.specs.Values.{id_of}
use Rattle.row_tables.proofs.NamesInOrder.{names_in_order}
use Rattle.toast_plan.specs.Columns.{AreDistinct, IsTableColumns}
use Rattle.lo_machine.specs.Committed.{committed_object, committed_opening, committed_row, committed_table}
use Rattle.lo_machine.specs.Fitting.{FitsObject, FitsTable, HasFitRows, IsFit, IsFitOpening, IsRow, IsSized, IsSizedObject, IsTableRow, columns_among}
use Rattle.lo_machine.specs.FlatRows.{AreFlatValues, IsFlatPut}
use Rattle.lo_machine.specs.Run.{start}
use Rattle.lo_machine.specs.State.{State, committed_edits, edits, now, session_of}
use Rattle.lo_machine.specs.Well.{IsWell}
use Rattle.lo_machine.proofs.ChangesJudged.{differ}
use Rattle.lo_machine.proofs.FitFound.{IsRowIfThere, commits_seen, row_is}
use Rattle.lo_machine.proofs.FitStates.{id_is}
use Rattle.lo_machine.proofs.FitTables.{row_table, table_has}
use Rattle.lo_machine.proofs.FlatEdits.{IsFlatIfThere, flat_left, row_flat}
use Rattle.lo_machine.proofs.PlanEdits.{HasPlanIfThere, row_plan}

-- objects

length_at_size : (size : ℕ) (bytes : List ℕ) → length (at_size size bytes) ≡ size
length_at_size size bytes = omega (arith, length-append (take size bytes) (replicate (size - length bytes) 0), length-take size bytes, length-replicate {A = ℕ} (size - length bytes) 0)

laid_fits : (at : ℕ) (new bytes : List ℕ) → at + length new ≤ largest_size → length bytes ≤ largest_size → length ((at_size at bytes ++ new) ++ drop (at + length new) bytes) ≤ largest_size
laid_fits at new bytes few was =
    omega (arith, few, was, length_at_size at bytes, length-append (at_size at bytes ++ new) (drop (at + length new) bytes), length-append (at_size at bytes) new, length-drop (at + length new) bytes)

module _ (o : ℕ) where
  abbrev IsSizedIfThere : Option (List ℕ) → Type 0
  IsSizedIfThere None = Unit {0}
  IsSizedIfThere (Some bytes) = IsSized o bytes

  after_sized : (old : Option (List ℕ)) (d : Deed) → IsSizedIfThere old → FitsObject d → IsSizedIfThere (object_after o old d)
  after_sized old (Create p) before is = by (p == o) refl
    where
      by : (b : Bool) → (p == o) ≡ b → IsSizedIfThere (if b then Some [] else old)
      by false other = before
      by true test =
          let same : p ≡ o = grind (arith, nat_tests, test) in
          record { least = omega (arith, is.0, same); most = omega (arith, is.1, same); size = omega arith }
  after_sized old (Write p at new) before is = by (p == o)
    where
      laid : (was : Option (List ℕ)) → IsSizedIfThere was → IsSizedIfThere (option_map (laid_over at new) was)
      laid None sized = tt
      laid (Some bytes) sized = record { least = sized.least; most = sized.most; size = laid_fits at new bytes is sized.size }

      by : (b : Bool) → IsSizedIfThere (if b then option_map (laid_over at new) old else old)
      by false = before
      by true = laid old before
  after_sized old (Cut p size) before is = by (p == o)
    where
      cut : (was : Option (List ℕ)) → IsSizedIfThere was → IsSizedIfThere (option_map (at_size size) was)
      cut None sized = tt
      cut (Some bytes) sized = record { least = sized.least; most = sized.most; size = omega (arith, is, length_at_size size bytes) }

      by : (b : Bool) → IsSizedIfThere (if b then option_map (at_size size) old else old)
      by false = before
      by true = cut old before
  after_sized old (Unlink p) before is = by (p == o)
    where
      by : (b : Bool) → IsSizedIfThere (if b then None else old)
      by false = before
      by true = tt
  after_sized old (Put t i values stored) before is = before
  after_sized old (Delete t i) before is = before

  all_after_sized : (old : Option (List ℕ)) (es : List (Edit Deed)) → IsSizedIfThere old → All (λ (e : Edit Deed). FitsObject e.deed) es → IsSizedIfThere (object_after_all o old (deeds es))
  all_after_sized old [] before all = before
  all_after_sized old (e ∷ es) before all =
      all_after_sized (object_after o old e.deed) es
      (after_sized old e.deed before (All-head (λ (f : Edit Deed). FitsObject f.deed) e es all))
      (All-tail (λ (f : Edit Deed). FitsObject f.deed) e es all)

-- lists

inserted_all : {K : Type 0} (cmp : K → K → Ordering) (P : K → Type 0) (ks : List K) (k : K) → AllByRecursion P ks → P k → AllByRecursion P (insert_key cmp ks k)
inserted_all cmp P [] k all own = (own, tt)
inserted_all cmp P (x ∷ xs) k all own = by (cmp k x) (inserted_all cmp P xs k all.1 own)
  where
    by : (r : Ordering) → AllByRecursion P (insert_key cmp xs k) → AllByRecursion P (match_ordering r (k ∷ x ∷ xs) (x ∷ xs) (x ∷ insert_key cmp xs k))
    by Less more = (own, all)
    by Equal more = all
    by Greater more = (all.0, more)

all_in_order : {K : Type 0} (cmp : K → K → Ordering) (P : K → Type 0) (ks : List K) → AllByRecursion P ks → AllByRecursion P (in_order cmp ks)
all_in_order cmp P [] all = tt
all_in_order cmp P (k ∷ ks) all = inserted_all cmp P (in_order cmp ks) k (all_in_order cmp P ks all.1) all.0

inserted_few : {K : Type 0} (cmp : K → K → Ordering) (ks : List K) (k : K) → length (insert_key cmp ks k) ≤ length ks + 1
inserted_few cmp [] k = omega arith
inserted_few cmp (x ∷ xs) k = by (cmp k x) (inserted_few cmp xs k)
  where
    by : (r : Ordering) → length (insert_key cmp xs k) ≤ length xs + 1 → length (match_ordering r (k ∷ x ∷ xs) (x ∷ xs) (x ∷ insert_key cmp xs k)) ≤ length (x ∷ xs) + 1
    by Less more = omega arith
    by Equal more = omega arith
    by Greater more = omega (arith, more)

few_in_order : {K : Type 0} (cmp : K → K → Ordering) (ks : List K) → length (in_order cmp ks) ≤ length ks
few_in_order cmp [] = omega arith
few_in_order cmp (k ∷ ks) = omega (arith, inserted_few cmp (in_order cmp ks) k, few_in_order cmp ks)

pub all_mapped : {X Y : Type 0} (P : Y → Type 0) (Q : X → Type 0) (f : X → Y) → ((x : X) → Q x → P (f x)) → (xs : List X) → AllByRecursion Q xs → AllByRecursion P (map f xs)
all_mapped P Q f each [] all = tt
all_mapped P Q f each (x ∷ xs) all = (each x all.0, all_mapped P Q f each xs all.1)

pub both_all : {X : Type 0} (P Q : X → Type 0) (xs : List X) → AllByRecursion P xs → AllByRecursion Q xs → AllByRecursion (λ x. P x × Q x) xs
both_all P Q [] first second = tt
both_all P Q (x ∷ xs) first second = ((first.0, second.0), both_all P Q xs first.1 second.1)

-- each table is the one of its name

abbrev pub IsOwn : List Table → Table → Type 0
IsOwn ts u = columns_among ts u.name ≡ u.columns

own_behind : (t : Table) (ts us : List Table) → AllByRecursion (λ other. other ≢ t.name) (map name_of us) → AllByRecursion (IsOwn ts) us → AllByRecursion (IsOwn (t ∷ ts)) us
own_behind t ts [] others own = tt
own_behind t ts (u ∷ us) others own = (ap (λ (b : Bool). columns_in (cond b (Some t) (table_in u.name ts))) (differ t.name u.name others.0) ∙ own.0, own_behind t ts us others.1 own.1)

pub all_own : (ts : List Table) → AreDistinct (map name_of ts) → AllByRecursion (IsOwn ts) ts
all_own [] distinct = tt
all_own (t ∷ ts) distinct = (ap (λ (b : Bool). columns_in (cond b (Some t) (table_in t.name ts))) ((bytes_eq-Decides t.name t.name).1 refl), own_behind t ts ts distinct.0 (all_own ts distinct.1))

-- the names of tables in order differ

not_itself : (name : List ℕ) → slice_cmp nat_cmp name name ≡ Less → ⊥
not_itself name less = false≢true (ap is_eq (sym less) ∙ (is_eq-slice_cmp name name ∙ (bytes_eq-Decides name name).1 refl))

others_differ : (name : List ℕ) (names : List (List ℕ)) → AllByRecursion (λ y. slice_cmp nat_cmp name y ≡ Less) names → AllByRecursion (λ other. other ≢ name) names
others_differ name [] all = tt
others_differ name (other ∷ names) all = ((λ same. not_itself name (subst (λ (y : List ℕ). slice_cmp nat_cmp name y ≡ Less) same all.0)), others_differ name names all.1)

ascending_differ : (names : List (List ℕ)) → IsStrictlySortedBy (slice_cmp nat_cmp) names → AreDistinct names
unfolding IsStrictlySortedBy
ascending_differ [] up = tt
ascending_differ (name ∷ names) up = (others_differ name names up.0, ascending_differ names up.1)

opened_names : (st : State) (ts : List Table) → map (λ (t : TableRows). t.name) (map (committed_table st) ts) ≡ map name_of ts
opened_names st [] = refl
opened_names st (t ∷ ts) = ap (λ (names : List (List ℕ)). t.name ∷ names) (opened_names st ts)

names_differ : (st : State) (ts : List Table) → AreDistinct (map (λ (t : TableRows). t.name) (map (committed_table st) (tables_in_order ts)))
names_differ st ts =
    subst AreDistinct (sym (opened_names st (tables_in_order ts) ∙ names_in_order ts))
    (ascending_differ (in_order (slice_cmp nat_cmp) (map name_of ts)) (sorted_in_order (slice_cmp nat_cmp) nat_list_cmp_total (map name_of ts)))

-- views

module _ (st : State) (well : IsWell st) (fit : IsFit st) (viewer : Viewer) where
  abbrev tables : List Table
  tables = st.database.tables

  abbrev seen : List (Edit Deed)
  seen = view (now st) viewer (edits st)

  can_have : (t : List ℕ) → is_some (table_in t tables) ≡ true → IsTableColumns (columns_among tables t)
  can_have t there = by (table_in t tables) refl there
    where
      by : (found : Option Table) → table_in t tables ≡ found → is_some found ≡ true → IsTableColumns (columns_in found)
      by None is some = absurd (false≢true some)
      by (Some u) is some = table_has (λ (v : Table). IsTableColumns v.columns) t tables u fit.tables.tables.columns is

  flat_is : (t : List ℕ) (row : List Value) → IsFlatPut tables t row → AreFlatValues (columns_among tables t) row
  flat_is t row put = by (table_in t tables) refl
    where
      by : (found : Option Table) → table_in t tables ≡ found → AreFlatValues (columns_in found) row
      by None is = absurd (false≢true (sym (ap is_some is) ∙ put.there))
      by (Some u) is = put.flat u is

  pub view_row : (t : List ℕ) (i : ℤ) (row : model.Row) → model.row_in t i seen ≡ Some row → IsTableRow (columns_among tables t) i row.values
  view_row t i row found = record {
    can = can_have t (row_table tables t i row.values is);
    row = is;
    flat = flat_is t row.values flat;
    plan = subst (HasPlanIfThere (sees_edit (now st) viewer) tables t i) found (row_plan (sees_edit (now st) viewer) tables t i (edits st) (commits_seen (now st) (session_of st) viewer (edits st) well.well.past) fit.plans);
  }
    where
      is : IsRow (columns_among tables t) i row.values
      is = subst (IsRowIfThere tables t i) found (row_is tables t i seen (All-filter (sees_edit (now st) viewer) (λ (e : Edit Deed). FitsTable tables e.deed) (edits st) fit.rows))

      flat : IsFlatPut tables t row.values
      flat = subst (IsFlatIfThere tables t i) found (row_flat tables t i seen (flat_left tables (sees_edit (now st) viewer) (edits st) well.flat))

  pub view_object : (o : ℕ) (bytes : List ℕ) → object_in o seen ≡ Some bytes → IsSized o bytes
  view_object o bytes found = subst (IsSizedIfThere o) found (all_after_sized o None seen tt (All-filter (sees_edit (now st) viewer) (λ (e : Edit Deed). FitsObject e.deed) (edits st) fit.objects))

-- the committed opening

module _ (st : State) (well : IsWell st) (fit : IsFit st) where
  row_opened : (t : Table) → IsOwn st.database.tables t → (i : ℤ) → has_row (committed_edits st) t.name i ≡ true → IsTableRow t.columns (id_of (committed_row st t.name i)) (committed_row st t.name i)
  row_opened t own i there = by (model.row_in t.name i (committed_edits st)) refl
    where
      by : (found : Option model.Row) → model.row_in t.name i (committed_edits st) ≡ found → IsTableRow t.columns (id_of (values_in found)) (values_in found)
      by None is = absurd (false≢true (sym (ap is_some is) ∙ there))
      by (Some row) is =
          let found : IsTableRow (columns_among st.database.tables t.name) i row.values = view_row st well fit Nobody t.name i row is in
          let here : IsTableRow t.columns i row.values = subst (λ (cs : List Column). IsTableRow cs i row.values) own found in
          subst (λ (k : ℤ). IsTableRow t.columns k row.values) (sym (id_is i row.values here.row.id)) here

  object_opened : (o : ℕ) → has_object (committed_edits st) o ≡ true → IsSizedObject (committed_object st o)
  object_opened o there = by (object_in o (committed_edits st)) refl
    where
      by : (found : Option (List ℕ)) → object_in o (committed_edits st) ≡ found → IsSized o (bytes_or_none found)
      by None is = absurd (false≢true (sym (ap is_some is) ∙ there))
      by (Some bytes) is = view_object st well fit Nobody o bytes is

  table_opened : (t : Table) → IsOwn st.database.tables t → IsName t.name → IsTableColumns t.columns → HasFitRows (committed_table st t)
  table_opened t own name can = record {
    name = name;
    can = can;
    rows =
        all_mapped (λ (row : List Value). IsTableRow t.columns (id_of row) row) (λ (i : ℤ). has_row (committed_edits st) t.name i ≡ true) (committed_row st t.name) (row_opened t own)
        (ids_in t.name (committed_edits st))
        (recursion_from_All (λ (i : ℤ). has_row (committed_edits st) t.name i ≡ true) (ids_in t.name (committed_edits st)) (filter_passes (has_row (committed_edits st) t.name) (in_order int_cmp (put_ids t.name (deeds (committed_edits st))))));
  }

  pub committed_fits : (blocks : ℕ) → IsFitOpening (committed_opening blocks st)
  committed_fits blocks = record {
    counter = fit.counter;
    few = omega (arith, length-map (tables_in_order st.database.tables) (committed_table st), few_in_order by_name st.database.tables, few);
    distinct = names_differ st st.database.tables;
    tables = all_mapped HasFitRows (λ (t : Table). (IsOwn st.database.tables t × IsName t.name) × IsTableColumns t.columns) (committed_table st) (λ t is. table_opened t is.0.0 is.0.1 is.1) (tables_in_order st.database.tables) (all_in_order by_name _ st.database.tables all);
    objects =
        all_mapped IsSizedObject (λ (o : ℕ). has_object (committed_edits st) o ≡ true) (committed_object st) object_opened (oids_in (committed_edits st))
        (recursion_from_All (λ (o : ℕ). has_object (committed_edits st) o ≡ true) (oids_in (committed_edits st)) (filter_passes (has_object (committed_edits st)) (in_order nat_cmp (created_oids (deeds (committed_edits st))))));
  }
    where
      few : length st.database.tables ≤ 1000
      few = fit.tables.tables.few

      all : AllByRecursion (λ (t : Table). (IsOwn st.database.tables t × IsName t.name) × IsTableColumns t.columns) st.database.tables
      all =
          both_all (λ (t : Table). IsOwn st.database.tables t × IsName t.name) (λ (t : Table). IsTableColumns t.columns) st.database.tables
          (both_all (IsOwn st.database.tables) (λ (t : Table). IsName t.name) st.database.tables (all_own st.database.tables fit.tables.tables.distinct) fit.tables.named)
          fit.tables.tables.columns

-- the beginning

pub fit_start : IsFit start.state
fit_start = record {
  counter = record { least = omega arith; most = omega arith };
  tables = record { tables = record { few = omega arith; distinct = tt; columns = tt }; named = tt };
  objects = All-nil (λ (e : Edit Deed). FitsObject e.deed);
  rows = All-nil (λ (e : Edit Deed). FitsTable [] e.deed);
  plans = tt;
}
