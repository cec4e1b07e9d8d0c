-- Edits that do what plain tables say have these tables: each table has its rows under their ids, and no others.
use Rattle.std.proofs.Common.{◌≡◌, ℕ, ℤ, Bool, true, false, cond, List, [], ◌∷◌, map, Option, Some, None, refl, ap, ap₂, sym, subst, ◌∙◌}
use Rattle.std.specs.Prelude.{◌&&◌, ◌||◌, bytes_eq, int_lt, is_some, if◌then◌else◌}
use Rattle.std.specs.Cmp.Lexicographic.{slice_cmp}
use Rattle.std.specs.List.{AllByRecursion, list_any}
use Rattle.std.specs.List.Sorted.{IsStrictlySortedBy}
use Rattle.std.specs.Ordering.{nat_cmp, int_cmp, int_eq}
use Rattle.std.specs.declared.cmp.Ordering.TheVariants.{Less}
use Rattle.std.proofs.lemmas.Bool.Decides.{Decides-int_eq}
use Rattle.std.proofs.lemmas.Cmp.{int_cmp_total, nat_list_cmp_total}
use Rattle.std.proofs.lemmas.Map.Lookups.{btree_set_from_contains, exact_signed}
use Rattle.std.proofs.lemmas.Option.{none-some}
use Rattle.std.proofs.lemmas.Slice.Eq.{bytes_eq-Decides}
use Rattle.lo_base.specs.declared.column.Column.{Column}
use Rattle.lo_base.specs.declared.value.Value.{Value}
use Rattle.lo_model.specs.Database.{Table}
use Rattle.lo_model.specs.Edit.{Deed, Put, Edit, deeds}
use Rattle.lo_model.specs.Listing.{ids_in, tables_in_order}
use Rattle.lo_model.specs.Opening as model
use Rattle.lo_model.specs.Opening.{TableRows}
use Rattle.lo_model.specs.Row.{Row, row_after, row_after_all, row_in}
use Rattle.lo_model.specs.Stored.{stored_anew}
use Rattle.lo_model.proofs.ListingLaws.{ids_are, ids_ascend}
use Rattle.row_tables.specs.Catalog.{table_in}
use Rattle.row_tables.specs.RowRules.{values_in}
use Rattle.lo_opening.specs.declared.opening.TableData.{TableData}
use Rattle.lo_opening.specs.Opening.{AreRows, AreTables, NameFollows, id_follows, id_of, marks_of}
use Rattle.lo_restore.specs.Tables.{deeds_in, named_of, row_deeds, rows_of}
use Rattle.lo_restore.specs.TablesSaved.{AreRowsFit, IsRowFit, row_values, rows_in, table_with_rows, tables_with_rows}
use Rattle.lo_restore.proofs.TableDeeds.{less_of, lt_trans, not_itself, rows_both}
use Rattle.lo_restore.proofs.TablesAdded.{id_same'}
use Rattle.lo_restore.proofs.TablesLeft.{not_named}

-- the row that is put under an id, if there is one
abbrev row_by : List Column → List Value → Row
row_by columns vs = record { values = vs; stored = stored_anew 0 (marks_of columns vs) }

abbrev row_under : (id : ℤ) → List Column → List (List Value) → Option Row
row_under id columns [] = None
row_under id columns (vs ∷ rows) = if int_eq id (model.id_of vs) then Some (row_by columns vs) else row_under id columns rows

-- ---- rows of one table

abbrev OtherIds : ℤ → List (List Value) → Type 0
OtherIds id rows = AllByRecursion (λ vs. int_eq id (model.id_of vs) ≡ false) rows

itself_named : (t : List ℕ) → bytes_eq t t ≡ true
itself_named t = (bytes_eq-Decides t t).1 refl

-- a row that a put is not of, and one that it is of

put_spared : (t u : List ℕ) (id j : ℤ) (old : Option Row) (vs : List Value) (ks : List (Option ℕ)) → (bytes_eq t u && int_eq id j) ≡ false → row_after t id old (Put u j vs ks) ≡ old
put_spared t u id j old vs ks apart = ap (λ b. cond b (Some (record { values = vs; stored = ks })) old) apart

put_there : (t : List ℕ) (id j : ℤ) (old : Option Row) (vs : List Value) (ks : List (Option ℕ)) → int_eq id j ≡ true → row_after t id old (Put t j vs ks) ≡ Some (record { values = vs; stored = ks })
put_there t id j old vs ks same = ap (λ b. cond b (Some (record { values = vs; stored = ks })) old) (ap (λ b. b && int_eq id j) (itself_named t) ∙ same)

own_spared : (t : List ℕ) (id j : ℤ) → int_eq id j ≡ false → (bytes_eq t t && int_eq id j) ≡ false
own_spared t id j other = ap (λ b. b && int_eq id j) (itself_named t) ∙ other

other_name : (t u : List ℕ) (columns : List Column) (rows : List (List Value)) (id : ℤ) (old : Option Row) → bytes_eq t u ≡ false → row_after_all t id old (row_deeds u columns rows) ≡ old
other_name t u columns [] id old apart = refl
other_name t u columns (vs ∷ rows) id old apart =
    ap (λ (row : Option Row). row_after_all t id row (row_deeds u columns rows)) (put_spared t u id (model.id_of vs) old vs (stored_anew 0 (marks_of columns vs)) (ap (λ b. b && int_eq id (model.id_of vs)) apart))
    ∙ other_name t u columns rows id old apart

other_ids : (t : List ℕ) (columns : List Column) (rows : List (List Value)) (id : ℤ) (old : Option Row) → OtherIds id rows → row_after_all t id old (row_deeds t columns rows) ≡ old
other_ids t columns [] id old apart = refl
other_ids t columns (vs ∷ rows) id old apart =
    ap (λ (row : Option Row). row_after_all t id row (row_deeds t columns rows)) (put_spared t t id (model.id_of vs) old vs (stored_anew 0 (marks_of columns vs)) (own_spared t id (model.id_of vs) apart.0))
    ∙ other_ids t columns rows id old apart.1

-- ids that ascend

abbrev AreAbove : ℤ → List (List Value) → Type 0
AreAbove i rows = AllByRecursion (λ vs. int_lt i (id_of vs) ≡ true) rows

above : (i : ℤ) (columns : List Column) (table : ℕ) (last : Option ℤ) (value : ℕ) (rows : List (List Value)) → ((id : ℤ) → id_follows last id ≡ true → int_lt i id ≡ true) → AreRows columns table last value rows → AreAbove i rows
above i columns table last value [] follows are = tt
above i columns table last value (vs ∷ rows) follows are = (follows (id_of vs) are.1, above i columns table (Some (id_of vs)) _ rows (λ id less. lt_trans i (id_of vs) id (follows (id_of vs) are.1) less) are.2)

-- two numbers of which the first is below are not the same

apart_ids : (a b : ℤ) → int_lt a b ≡ true → int_eq a b ≡ false
apart_ids a b less = by (int_eq a b) refl
  where
    by : (same : Bool) → int_eq a b ≡ same → same ≡ false
    by false is = refl
    by true is = absurd (not_itself a (ap (int_lt a) ((Decides-int_eq a b).0 is) ∙ less))

ids_apart : (a b : ℤ) → int_lt a b ≡ true → int_eq b a ≡ false
ids_apart a b less = by (int_eq b a) refl
  where
    by : (same : Bool) → int_eq b a ≡ same → same ≡ false
    by false is = refl
    by true is = absurd (not_itself a (ap (int_lt a) (sym ((Decides-int_eq b a).0 is)) ∙ less))

others_of : (i : ℤ) (rows : List (List Value)) → AreAbove i rows → OtherIds i rows
others_of i [] all = tt
others_of i (vs ∷ rows) all = (apart_ids i (model.id_of vs) (ap (int_lt i) (id_same' vs) ∙ all.0), others_of i rows all.1)

behind : (columns : List Column) (table value : ℕ) (vs : List Value) (rows : List (List Value)) → AreRows columns table (Some (id_of vs)) value rows → AreAbove (id_of vs) rows
behind columns table value vs rows are = above (id_of vs) columns table (Some (id_of vs)) value rows (λ id less. less) are

rows_give : (t : List ℕ) (columns : List Column) (table : ℕ) (last : Option ℤ) (value : ℕ) (rows : List (List Value)) (id : ℤ) → AreRows columns table last value rows → row_after_all t id None (row_deeds t columns rows) ≡ row_under id columns rows
rows_give t columns table last value [] id are = refl
rows_give t columns table last value (vs ∷ rows) id are = by (int_eq id (model.id_of vs)) refl (rows_give t columns table (Some (id_of vs)) _ rows id are.2)
  where
    rest : OtherIds (id_of vs) rows
    rest = others_of (id_of vs) rows (behind columns table _ vs rows are.2)

    by : (same : Bool) → int_eq id (model.id_of vs) ≡ same → row_after_all t id None (row_deeds t columns rows) ≡ row_under id columns rows → row_after_all t id (row_after t id None (Put t (model.id_of vs) vs (stored_anew 0 (marks_of columns vs)))) (row_deeds t columns rows) ≡ cond (int_eq id (model.id_of vs)) (Some (row_by columns vs)) (row_under id columns rows)
    by true is more =
        let it : id_of vs ≡ id = sym (id_same' vs) ∙ sym ((Decides-int_eq id (model.id_of vs)).0 is) in
        ap (λ (row : Option Row). row_after_all t id row (row_deeds t columns rows)) (put_there t id (model.id_of vs) None vs (stored_anew 0 (marks_of columns vs)) is)
        ∙ (other_ids t columns rows id (Some (row_by columns vs)) (subst (λ (i : ℤ). OtherIds i rows) it rest)
        ∙ ap (λ b. cond b (Some (row_by columns vs)) (row_under id columns rows)) (sym is))
    by false is more =
        ap (λ (row : Option Row). row_after_all t id row (row_deeds t columns rows)) (put_spared t t id (model.id_of vs) None vs (stored_anew 0 (marks_of columns vs)) (own_spared t id (model.id_of vs) is))
        ∙ (more ∙ ap (λ b. cond b (Some (row_by columns vs)) (row_under id columns rows)) (sym is))

-- which ids there are

under_ids : (id : ℤ) (columns : List Column) (rows : List (List Value)) → is_some (row_under id columns rows) ≡ list_any (int_eq id) (map id_of rows)
under_ids id columns [] = refl
under_ids id columns (vs ∷ rows) = by (int_eq id (model.id_of vs)) (under_ids id columns rows) ∙ ap (λ (i : ℤ). int_eq id i || list_any (int_eq id) (map id_of rows)) (id_same' vs)
  where
    by : (same : Bool) → is_some (row_under id columns rows) ≡ list_any (int_eq id) (map id_of rows) → is_some (cond same (Some (row_by columns vs)) (row_under id columns rows)) ≡ (same || list_any (int_eq id) (map id_of rows))
    by true more = refl
    by false more = more

ids_sorted : (columns : List Column) (table : ℕ) (last : Option ℤ) (value : ℕ) (rows : List (List Value)) → AreRows columns table last value rows → IsStrictlySortedBy int_cmp (map id_of rows)
unfolding IsStrictlySortedBy
ids_sorted columns table last value [] are = tt
ids_sorted columns table last value (vs ∷ rows) are = (all_less rows (behind columns table _ vs rows are.2), ids_sorted columns table (Some (id_of vs)) _ rows are.2)
  where
    all_less : (ws : List (List Value)) → AreAbove (id_of vs) ws → AllByRecursion (λ y. int_cmp (id_of vs) y ≡ Less) (map id_of ws)
    all_less [] all = tt
    all_less (w ∷ ws) all = (less_of (id_of vs) (id_of w) all.0, all_less ws all.1)

-- each row stands under its id

abbrev IsUnder : List Column → List (List Value) → List Value → Type 0
IsUnder columns rows vs = row_under (id_of vs) columns rows ≡ Some (row_by columns vs)

each_under : (columns : List Column) (table : ℕ) (last : Option ℤ) (value : ℕ) (rows : List (List Value)) → AreRows columns table last value rows → AllByRecursion (IsUnder columns rows) rows
each_under columns table last value [] are = tt
each_under columns table last value (vs ∷ rows) are = (first, later rows (behind columns table _ vs rows are.2) (each_under columns table (Some (id_of vs)) _ rows are.2))
  where
    first : IsUnder columns (vs ∷ rows) vs
    first = let same : int_eq (id_of vs) (model.id_of vs) ≡ true = (Decides-int_eq (id_of vs) (model.id_of vs)).1 (sym (id_same' vs)) in rw same refl

    later : (ws : List (List Value)) → AreAbove (id_of vs) ws → AllByRecursion (IsUnder columns rows) ws → AllByRecursion (IsUnder columns (vs ∷ rows)) ws
    later [] all under = tt
    later (w ∷ ws) all under =
        let other : int_eq (id_of w) (model.id_of vs) ≡ false = ap (int_eq (id_of w)) (id_same' vs) ∙ ids_apart (id_of vs) (id_of w) all.0 in
        (rw other under.0, later ws all.1 under.1)

-- ---- tables

abbrev IsGiven : List Deed → TableData → Type 0
IsGiven ds t = (id : ℤ) → row_after_all t.name id None ds ≡ row_under id t.columns t.rows

abbrev pub AreNamedAbove : List ℕ → List TableData → Type 0
AreNamedAbove name ts = AllByRecursion (λ (t : TableData). slice_cmp nat_cmp name t.name ≡ Less) ts

pub names_above : (name : List ℕ) (last : Option (List ℕ)) (table value : ℕ) (ts : List TableData) → ((other : List ℕ) → NameFollows last other → slice_cmp nat_cmp name other ≡ Less) → AreTables last table value ts → AreNamedAbove name ts
names_above name last table value [] follows are = tt
names_above name last table value (t ∷ ts) follows are = (follows t.name are.1, names_above name (Some t.name) _ _ ts (λ other less. nat_list_cmp_total.trans name t.name other (follows t.name are.1) less) are.2)

turned_name : (a b : List ℕ) → bytes_eq a b ≡ false → bytes_eq b a ≡ false
turned_name a b apart = by (bytes_eq b a) refl
  where
    by : (same : Bool) → bytes_eq b a ≡ same → same ≡ false
    by false is = refl
    by true is = sym ((bytes_eq-Decides a b).1 (sym ((bytes_eq-Decides b a).0 is))) ∙ apart

-- tables of other names spare a row
others_spare : (name : List ℕ) (ts : List TableData) (id : ℤ) (old : Option Row) → AreNamedAbove name ts → row_after_all name id old (deeds_in ts) ≡ old
others_spare name [] id old all = refl
others_spare name (t ∷ ts) id old all =
    rows_both name id old (row_deeds t.name t.columns t.rows) (deeds_in ts)
    ∙ (ap (λ (row : Option Row). row_after_all name id row (deeds_in ts)) (other_name name t.name t.columns t.rows id old (not_named name t.name all.0))
    ∙ others_spare name ts id old all.1)

all_given : (last : Option (List ℕ)) (table value : ℕ) (list : List TableData) → AreTables last table value list → AllByRecursion (IsGiven (deeds_in list)) list
all_given last table value [] are = tt
all_given last table value (t ∷ ts) are = (first, later ts above_it (all_given (Some t.name) _ _ ts are.2))
  where
    above_it : AreNamedAbove t.name ts
    above_it = names_above t.name (Some t.name) _ _ ts (λ other less. less) are.2

    first : IsGiven (deeds_in (t ∷ ts)) t
    first id =
        rows_both t.name id None (row_deeds t.name t.columns t.rows) (deeds_in ts)
        ∙ (others_spare t.name ts id (row_after_all t.name id None (row_deeds t.name t.columns t.rows)) above_it
        ∙ rows_give t.name t.columns table None value t.rows id are.0.rows)

    later : (us : List TableData) → AreNamedAbove t.name us → AllByRecursion (IsGiven (deeds_in ts)) us → AllByRecursion (IsGiven (deeds_in (t ∷ ts))) us
    later [] all given = tt
    later (u ∷ us) all given = (
      (λ id.
          rows_both u.name id None (row_deeds t.name t.columns t.rows) (deeds_in ts)
          ∙ (ap (λ (row : Option Row). row_after_all u.name id row (deeds_in ts)) (other_name u.name t.name t.columns t.rows id None (turned_name t.name u.name (not_named t.name u.name all.0)))
          ∙ given.0 id)),
      later us all.1 given.1,
    )

-- ---- edits that do these deeds

module _ (es : List (Edit Deed)) (t : TableData) (given : IsGiven (deeds es) t) where
  module _ (table : ℕ) (last : Option ℤ) (value : ℕ) (are : AreRows t.columns table last value t.rows) where
    ids_given : ids_in t.name es ≡ map id_of t.rows
    ids_given = btree_set_from_contains int_cmp_total (record { keys = ids_in t.name es }) (record { keys = map id_of t.rows }) (ids_ascend t.name es) (ids_sorted t.columns table last value t.rows are) (λ i. ids_are t.name es i ∙ (ap is_some (given i) ∙ under_ids i t.columns t.rows)) exact_signed

    values_given : (rows : List (List Value)) → AllByRecursion (IsUnder t.columns t.rows) rows → map (row_values es t.name) (map id_of rows) ≡ rows
    values_given [] all = refl
    values_given (vs ∷ rows) all = ap₂ (λ w ws. w ∷ ws) (ap values_in (given (id_of vs) ∙ all.0)) (values_given rows all.1)

    pub rows_given : rows_in es t.name ≡ t.rows
    rows_given = ap (map (row_values es t.name)) ids_given ∙ values_given t.rows (each_under t.columns table last value t.rows are)

-- the tables of plain data are in order

sorted_once : (t : TableData) (ts : List TableData) → AreNamedAbove t.name ts → tables_in_order (map named_of ts) ≡ map named_of ts → tables_in_order (map named_of (t ∷ ts)) ≡ map named_of (t ∷ ts)
sorted_once t [] all is = refl
sorted_once t (u ∷ us) all is = let less = all.0 in rw (is, less) refl

all_sorted : (last : Option (List ℕ)) (table value : ℕ) (list : List TableData) → AreTables last table value list → tables_in_order (map named_of list) ≡ map named_of list
all_sorted last table value [] are = refl
all_sorted last table value (t ∷ ts) are = sorted_once t ts (names_above t.name (Some t.name) _ _ ts (λ other less. less) are.2) (all_sorted (Some t.name) _ _ ts are.2)

abbrev rows_as : TableData → List (List Value) → TableRows
rows_as t rows = record { name = t.name; columns = t.columns; rows = rows }

tables_each : (es : List (Edit Deed)) (last : Option (List ℕ)) (table value : ℕ) (list : List TableData) → AreTables last table value list → AllByRecursion (IsGiven (deeds es)) list → map (table_with_rows es) (map named_of list) ≡ map rows_of list
tables_each es last table value [] are given = refl
tables_each es last table value (t ∷ ts) are given = ap₂ (λ (r : TableRows) (rs : List TableRows). r ∷ rs)
    (ap (rows_as t) (rows_given es t given.0 table None value are.0.rows))
    (tables_each es (Some t.name) _ _ ts are.2 given.1)

pub tables_given : (list : List TableData) (es : List (Edit Deed)) → AreTables None 1 1 list → deeds es ≡ deeds_in list → tables_with_rows es (map named_of list) ≡ map rows_of list
tables_given list es are is =
    ap (map (table_with_rows es)) (all_sorted None 1 1 list are)
    ∙ tables_each es None 1 1 list are (subst (λ (ds : List Deed). AllByRecursion (IsGiven ds) list) (sym is) (all_given None 1 1 list are))

-- ---- their rows fit

under_fits : (columns : List Column) (table : ℕ) (last : Option ℤ) (value : ℕ) (rows : List (List Value)) (id : ℤ) (row : Row) → AreRows columns table last value rows → row_under id columns rows ≡ Some row → IsRowFit columns row.values
under_fits columns table last value [] id row are is = absurd (none-some row is)
under_fits columns table last value (vs ∷ rows) id row are is = by (int_eq id (model.id_of vs)) is (λ here. under_fits columns table (Some (id_of vs)) _ rows id row are.2 here)
  where
    by : (same : Bool) → cond same (Some (row_by columns vs)) (row_under id columns rows) ≡ Some row → (row_under id columns rows ≡ Some row → IsRowFit columns row.values) → IsRowFit columns row.values
    by true here more = subst (λ (ws : List Value). IsRowFit columns ws) (ap values_in here) (record { fits = are.0.row.fits; arrays = are.0.arrays })
    by false here more = more here

-- a table that its name finds among those of plain data
found_fits : (es : List (Edit Deed)) (last : Option (List ℕ)) (table value : ℕ) (list : List TableData) (t : Table) (id : ℤ) (row : Row) → AreTables last table value list → AllByRecursion (IsGiven (deeds es)) list → table_in t.name (map named_of list) ≡ Some t → row_in t.name id es ≡ Some row → IsRowFit t.columns row.values
found_fits es last table value [] t id row are given found is = absurd (none-some t found)
found_fits es last table value (u ∷ us) t id row are given found is = by (bytes_eq u.name t.name) found (λ here. found_fits es (Some u.name) _ _ us t id row are.2 given.1 here is)
  where
    by : (same : Bool) → cond same (Some (named_of u)) (table_in t.name (map named_of us)) ≡ Some t → (table_in t.name (map named_of us) ≡ Some t → IsRowFit t.columns row.values) → IsRowFit t.columns row.values
    by true here more =
        let one : named_of u ≡ t = one_of (named_of u) t here in
        subst (λ (w : Table). row_in w.name id es ≡ Some row → IsRowFit w.columns row.values) one (λ there. under_fits u.columns table None value u.rows id row are.0.rows (sym (given.0 id) ∙ there)) is
      where
        one_of : (a b : Table) → Some a ≡ Some b → a ≡ b
        one_of a b same = cc
    by false here more = more here

pub tables_fit : (list : List TableData) (es : List (Edit Deed)) → AreTables None 1 1 list → deeds es ≡ deeds_in list → AreRowsFit (map named_of list) es
tables_fit list es are is t id row found there = found_fits es None 1 1 list t id row are (subst (λ (ds : List Deed). AllByRecursion (IsGiven ds) list) (sym is) (all_given None 1 1 list are)) found there
