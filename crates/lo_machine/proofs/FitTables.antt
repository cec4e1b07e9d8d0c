-- What is kept of rows where a table is made or stored anew: tables that were there keep the types of their columns, and all but
-- the one that is stored anew keep their columns.
use Rattle.std.proofs.Common.{◌≡◌, ◌<◌, ℕ, zero, suc, ℤ, ◌+◌, Bool, true, false, cond, List, [], ◌∷◌, ◌++◌, length, map, Option, Some, None, refl, ap, sym, subst, ◌∙◌, arith}
use Rattle.std.specs.Prelude.{All, bytes_eq, is_some}
use Rattle.std.specs.List.{AllByRecursion}
use Rattle.std.specs.Option.{unwrap_or}
use Rattle.std.proofs.lemmas.Bool.{false≢true}
use Rattle.std.proofs.lemmas.List.Elements.{All-nil, All-cons, All-head, All-tail, All-weaker}
use Rattle.std.proofs.lemmas.Slice.Eq.{bytes_eq-Decides}
use Rattle.lo_base.specs.Name.{IsName}
use Rattle.lo_base.specs.declared.column.Column.{Column}
use Rattle.lo_base.specs.declared.value.Value.{Value}
use Rattle.lo_model.specs.declared.owner.Owner.{Owner}
use Rattle.lo_model.specs.Database.{Table}
use Rattle.lo_model.specs.Edit.{Deed, Create, Write, Cut, Unlink, Put, Delete, Edit, edits_by}
use Rattle.row_tables.specs.Catalog.{columns_in, most_tables, number_from, number_in, table_in, with_columns}
use Rattle.row_tables.specs.Rewriting.{SameKinds, kind_of}
use Rattle.row_tables.proofs.Indexing.{tables_more, tables_with}
use Rattle.row_tables.proofs.Naming.{StandsFrom, no_number_in, stands_from}
use Rattle.row_tables.proofs.Storages.{fit_alike}
use Rattle.row_versions.specs.Stack.{Each}
use Rattle.toast_plan.specs.Columns.{IsTableColumns}
use Rattle.toast_plan.specs.Row.{AreRowValues}
use Rattle.lo_machine.specs.Fitting.{AreCreated, FitsTable, HavePlans, HasPlan, IsRow, columns_among}
use Rattle.lo_machine.proofs.FlatEdits.{find_more}
use Rattle.lo_machine.proofs.PlanEdits.{plan_with}

-- edits by their deeds
pub made_all : (P : Deed → Type 0) (clock : ℕ) (owner : Owner) (ds : List Deed) → Each P ds → All (λ (e : Edit Deed). P e.deed) (edits_by clock owner ds)
made_all P clock owner [] all = All-nil (λ (e : Edit Deed). P e.deed)
made_all P clock owner (d ∷ ds) all = All-cons (λ (e : Edit Deed). P e.deed) (record { clock = clock; owner = owner; deed = d }) (edits_by clock owner ds) all.0 (made_all P clock owner ds all.1)

pub made_plans : (tables : List Table) (clock : ℕ) (owner : Owner) (ds : List Deed) → Each (HasPlan tables) ds → HavePlans tables (edits_by clock owner ds)
made_plans tables clock owner [] all = tt
made_plans tables clock owner (d ∷ ds) all = ((λ none. all.0), made_plans tables clock owner ds all.1)

-- tables that are there keep the types of their columns
abbrev pub KeepTypes : (old new : List Table) → Type 0
KeepTypes old new = (t : List ℕ) → is_some (table_in t old) ≡ true → SameKinds (columns_among old t) (columns_among new t)

pub types_same : (tables : List Table) → KeepTypes tables tables
types_same tables t there = refl

-- the table of a row is there
no_columns : (row : List Value) → AreRowValues [] row → ⊥
no_columns [] is = is.id
no_columns (v ∷ row) is = is.fit

pub row_table : (tables : List Table) (t : List ℕ) (i : ℤ) (row : List Value) → IsRow (columns_among tables t) i row → is_some (table_in t tables) ≡ true
row_table tables t i row is = by (table_in t tables) refl
  where
    by : (found : Option Table) → table_in t tables ≡ found → is_some found ≡ true
    by None none = absurd (no_columns row (subst (λ (o : Option Table). AreRowValues (columns_in o) row) none is.values))
    by (Some u) some = refl

pub row_with : (columns columns' : List Column) (i : ℤ) (row : List Value) → SameKinds columns columns' → IsRow columns i row → IsRow columns' i row
row_with columns columns' i row same is = record {
  values = record { id = is.values.id; fit = fit_alike columns columns' row same is.values.fit };
  range = is.range;
  id = is.id;
}

deed_kept : (old new : List Table) → KeepTypes old new → (d : Deed) → FitsTable old d → FitsTable new d
deed_kept old new keep (Create o) is = tt
deed_kept old new keep (Write o at bytes) is = tt
deed_kept old new keep (Cut o size) is = tt
deed_kept old new keep (Unlink o) is = tt
deed_kept old new keep (Put t i row stored) is = row_with (columns_among old t) (columns_among new t) i row (keep t (row_table old t i row is)) is
deed_kept old new keep (Delete t i) is = tt

pub types_kept : (old new : List Table) → KeepTypes old new → (es : List (Edit Deed)) → All (λ (e : Edit Deed). FitsTable old e.deed) es → All (λ (e : Edit Deed). FitsTable new e.deed) es
types_kept old new keep es all = All-weaker (λ (e : Edit Deed). FitsTable old e.deed) (λ (e : Edit Deed). FitsTable new e.deed) (λ e is. deed_kept old new keep e.deed is) es all

-- what holds of each table holds of one that is found
pub table_has : (P : Table → Type 0) (name : List ℕ) (ts : List Table) (t : Table) → AllByRecursion P ts → table_in name ts ≡ Some t → P t
table_has P name [] t all found = absurd (false≢true (ap is_some found))
table_has P name (u ∷ us) t all found = by (bytes_eq u.name name) found (table_has P name us t all.1)
  where
    by : (b : Bool) → cond b (Some u) (table_in name us) ≡ Some t → (table_in name us ≡ Some t → P t) → P t
    by true here rest = subst P (ap (λ o. unwrap_or o u) here) all.0
    by false here rest = rest here

-- A table more

columns_more : (old more : List Table) (t : List ℕ) → is_some (table_in t old) ≡ true → columns_among old t ≡ columns_among (old ++ more) t
columns_more old more t there = by (table_in t old) refl there
  where
    by : (found : Option Table) → table_in t old ≡ found → is_some found ≡ true → columns_in (table_in t old) ≡ columns_in (table_in t (old ++ more))
    by None is some = absurd (false≢true some)
    by (Some u) is some = ap columns_in (is ∙ sym (find_more t old more u is))

pub types_more : (old more : List Table) → KeepTypes old (old ++ more)
types_more old more t there = ap (map kind_of) (sym (columns_more old more t there))

plan_more : (old more : List Table) (d : Deed) → FitsTable old d → HasPlan old d → HasPlan (old ++ more) d
plan_more old more (Create o) is has = tt
plan_more old more (Write o at bytes) is has = tt
plan_more old more (Cut o size) is has = tt
plan_more old more (Unlink o) is has = tt
plan_more old more (Put t i row stored) is has = plan_with (columns_among old t) (columns_among (old ++ more) t) row (columns_more old more t (row_table old t i row is)) has
plan_more old more (Delete t i) is has = tt

pub plans_with_more : (old more : List Table) (es : List (Edit Deed)) → All (λ (e : Edit Deed). FitsTable old e.deed) es → HavePlans old es → HavePlans (old ++ more) es
plans_with_more old more [] are all = tt
plans_with_more old more (e ∷ es) are all = (
  (λ none. plan_more old more e.deed (All-head (λ (f : Edit Deed). FitsTable old f.deed) e es are) (all.0 none)),
  plans_with_more old more es (All-tail (λ (f : Edit Deed). FitsTable old f.deed) e es are) all.1,
)

names_more : (tables : List Table) (t : Table) → AllByRecursion (λ (u : Table). IsName u.name) tables → IsName t.name → AllByRecursion (λ (u : Table). IsName u.name) (tables ++ t ∷ [])
names_more [] t all own = (own, tt)
names_more (u ∷ us) t all own = (all.0, names_more us t all.1 own)

pub created_more : (tables : List Table) (t : Table) → AreCreated tables → length tables < most_tables → table_in t.name tables ≡ None → IsName t.name → IsTableColumns t.columns → AreCreated (tables ++ t ∷ [])
created_more tables t are few fresh name can = record {
  tables = tables_more tables t are.tables few (no_number_in t.name tables fresh) can;
  named = names_more tables t are.named name;
}

-- A table with other columns

names_with : (n : ℕ) (columns : List Column) (tables : List Table) → AllByRecursion (λ (u : Table). IsName u.name) tables → AllByRecursion (λ (u : Table). IsName u.name) (with_columns n columns tables)
names_with n columns [] all = tt
names_with zero columns (t ∷ ts) all = all
names_with (suc n) columns (t ∷ ts) all = (all.0, names_with n columns ts all.1)

pub created_with : (n : ℕ) (columns : List Column) (tables : List Table) → IsTableColumns columns → AreCreated tables → AreCreated (with_columns n columns tables)
created_with n columns tables can are = record { tables = tables_with n columns tables can are.tables; named = names_with n columns tables are.named }

module _ (name : List ℕ) (columns : List Column) where
  -- the number of a name is the first one where the first table has it, and above that else
  first_number : (first n : ℕ) → Some first ≡ Some (first + n) → n ≡ 0
  first_number first n is = let same : first ≡ first + n = ap (λ o. unwrap_or o 0) is in omega (arith, same)

  later_number : (first : ℕ) (tables : List Table) → number_from (first + 1) name tables ≡ Some (first + 0) → ⊥
  later_number first tables is =
      let stands : StandsFrom (first + 1) tables name (first + 0) = stands_from (first + 1) name tables (first + 0) is in
      let above : first + 0 ≡ first + 1 + stands.place = stands.is in
      omega (arith, above)

  next_number : (first n : ℕ) → first + suc n ≡ first + 1 + n
  next_number first n = omega arith

  new_columns_from : (first n : ℕ) (tables : List Table) → number_from first name tables ≡ Some (first + n) → columns_among (with_columns n columns tables) name ≡ columns
  new_columns_from first n [] is = absurd (false≢true (ap is_some is))
  new_columns_from first zero (t ∷ ts) is = by (bytes_eq t.name name) refl is
    where
      by : (b : Bool) → bytes_eq t.name name ≡ b → cond b (Some first) (number_from (first + 1) name ts) ≡ Some (first + 0) → columns_in (cond (bytes_eq t.name name) (Some (record { name = t.name; columns = columns })) (table_in name ts)) ≡ columns
      by true same here = rw same refl
      by false same here = absurd (later_number first ts here)
  new_columns_from first (suc n) (t ∷ ts) is = by (bytes_eq t.name name) refl is (new_columns_from (first + 1) n ts)
    where
      by : (b : Bool) → bytes_eq t.name name ≡ b → cond b (Some first) (number_from (first + 1) name ts) ≡ Some (first + suc n) → (number_from (first + 1) name ts ≡ Some (first + 1 + n) → columns_among (with_columns n columns ts) name ≡ columns) → columns_in (cond (bytes_eq t.name name) (Some t) (table_in name (with_columns n columns ts))) ≡ columns
      by true same here rest = absurd (let none : suc n ≡ 0 = first_number first (suc n) here in omega (arith, none))
      by false same here rest = rw same (rest (here ∙ ap Some (next_number first n)))

  old_columns_from : (first n : ℕ) (tables : List Table) (u : List ℕ) → bytes_eq name u ≡ false → number_from first name tables ≡ Some (first + n) → columns_among (with_columns n columns tables) u ≡ columns_among tables u
  old_columns_from first n [] u other is = refl
  old_columns_from first zero (t ∷ ts) u other is = by (bytes_eq t.name name) refl is
    where
      by : (b : Bool) → bytes_eq t.name name ≡ b → cond b (Some first) (number_from (first + 1) name ts) ≡ Some (first + 0) → columns_in (cond (bytes_eq t.name u) (Some (record { name = t.name; columns = columns })) (table_in u ts)) ≡ columns_in (cond (bytes_eq t.name u) (Some t) (table_in u ts))
      by true same here =
          let apart : bytes_eq t.name u ≡ false = ap (λ (v : List ℕ). bytes_eq v u) ((bytes_eq-Decides t.name name).0 same) ∙ other in
          rw apart refl
      by false same here = absurd (later_number first ts here)
  old_columns_from first (suc n) (t ∷ ts) u other is = by (bytes_eq t.name name) refl is (old_columns_from (first + 1) n ts u other)
    where
      by : (b : Bool) → bytes_eq t.name name ≡ b → cond b (Some first) (number_from (first + 1) name ts) ≡ Some (first + suc n) → (number_from (first + 1) name ts ≡ Some (first + 1 + n) → columns_among (with_columns n columns ts) u ≡ columns_among ts u) → columns_in (cond (bytes_eq t.name u) (Some t) (table_in u (with_columns n columns ts))) ≡ columns_in (cond (bytes_eq t.name u) (Some t) (table_in u ts))
      by true same here rest = absurd (let none : suc n ≡ 0 = first_number first (suc n) here in omega (arith, none))
      by false same here rest = either (bytes_eq t.name u)
        where
          either : (b : Bool) → columns_in (cond b (Some t) (table_in u (with_columns n columns ts))) ≡ columns_in (cond b (Some t) (table_in u ts))
          either true = refl
          either false = rest (here ∙ ap Some (next_number first n))

  pub new_columns : (n : ℕ) (tables : List Table) → number_in name tables ≡ Some n → columns_among (with_columns n columns tables) name ≡ columns
  new_columns n tables is = let same : n ≡ 0 + n = omega arith in new_columns_from 0 n tables (is ∙ ap Some same)

  pub old_columns : (n : ℕ) (tables : List Table) (u : List ℕ) → bytes_eq name u ≡ false → number_in name tables ≡ Some n → columns_among (with_columns n columns tables) u ≡ columns_among tables u
  old_columns n tables u other is = let same : n ≡ 0 + n = omega arith in old_columns_from 0 n tables u other (is ∙ ap Some same)

  pub types_with : (n : ℕ) (tables : List Table) → number_in name tables ≡ Some n → SameKinds (columns_among tables name) columns → KeepTypes tables (with_columns n columns tables)
  types_with n tables is kinds u there = by (bytes_eq name u) refl
    where
      by : (b : Bool) → bytes_eq name u ≡ b → SameKinds (columns_among tables u) (columns_among (with_columns n columns tables) u)
      by true same =
          subst (λ (v : List ℕ). SameKinds (columns_among tables v) (columns_among (with_columns n columns tables) v)) ((bytes_eq-Decides name u).0 same)
          (subst (SameKinds (columns_among tables name)) (sym (new_columns n tables is)) kinds)
      by false other = subst (SameKinds (columns_among tables u)) (sym (old_columns n tables u other is)) refl
