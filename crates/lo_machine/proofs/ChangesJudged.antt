-- The changes of an update, judged one after another.
use Rattle.std.proofs.Common.{◌≡◌, ◌≢◌, ◌≤◌, ℕ, ◌+◌, true, false, cond, List, [], ◌∷◌, ◌++◌, length, drop, map, Option, Some, None, refl, ap, ap₂, sym, subst, ◌∙◌, append_assoc, append-nil, inl, inr}
use Rattle.std.specs.Prelude.{bytes_eq, codes}
use Rattle.std.specs.List.{AllByRecursion}
use Rattle.std.specs.Option.{is_some, unwrap_or}
use Rattle.std.proofs.lemmas.Bool.{cases_Bool, false≢true}
use Rattle.std.proofs.lemmas.Slice.Eq.{bytes_eq-Decides}
use Rattle.lo_base.specs.declared.column.Column.{Column}
use Rattle.lo_base.specs.declared.refusal.Denied.{Denied}
use Rattle.lo_base.specs.declared.refusal.Denied.TheVariants.{By, NoMemory}
use Rattle.lo_base.specs.declared.request.Assign.{Assign}
use Rattle.lo_base.specs.declared.value.Value.{Value}
use Rattle.lo_pages.specs.Outcome.{first_of}
use Rattle.row_tables.specs.Calls.{ChangesFit, FitsIfChanged}
use Rattle.row_tables.specs.Values.{change_of, changed_value, changed_values}
use Rattle.row_tables.specs.declared.change.Change.{Change}
use Rattle.toast_plan.specs.Columns.{AreDistinct, IsTableColumns}
use Rattle.toast_plan.specs.Row.{FitsType}
use Rattle.lo_machine.specs.FlatRows.{AreFlatValues, IsFlatValue}
use Rattle.lo_machine.specs.Literals.{AreChangesOf, DeniesChange, DeniesChanges, IsChangeOf}
use Rattle.lo_machine.specs.State.{Variable}
use Rattle.lo_machine.specs.TableRows.{change_judged, changed_to, changes_judged, changes_of}
use Rattle.lo_machine.specs.Values.{column_in, is_id_column}
use Rattle.lo_machine.specs.Variables.{IsAs}
use Rattle.lo_machine.specs.declared.variables.Variables.{Variables}
use Rattle.lo_machine.proofs.RowJudged.{drop_past, first_here, first_past}

-- ---- columns by their names

column_here : (x : Column) (xs : List Column) (name : List ℕ) → bytes_eq x.name name ≡ true → column_in name (x ∷ xs) ≡ Some x
column_here x xs name holds = ap (λ b. cond b (Some x) (column_in name xs)) holds

column_there : (x : Column) (xs : List Column) (name : List ℕ) → bytes_eq x.name name ≡ false → column_in name (x ∷ xs) ≡ column_in name xs
column_there x xs name fails = ap (λ b. cond b (Some x) (column_in name xs)) fails

pub named_so : (name : List ℕ) (cs : List Column) (c : Column) → column_in name cs ≡ Some c → c.name ≡ name
named_so name [] c found = absurd (false≢true (ap is_some found))
named_so name (x ∷ xs) c found =
    elim (cases_Bool (bytes_eq x.name name)) [
      | inl holds ↦
          let one : x ≡ c = ap (λ o. unwrap_or o x) (sym (column_here x xs name holds) ∙ found) in
          ap (λ (k : Column). k.name) (sym one) ∙ (bytes_eq-Decides x.name name).0 holds
      | inr fails ↦ named_so name xs c (sym (column_there x xs name fails) ∙ found)
    ]

pub differ : (a b : List ℕ) → b ≢ a → bytes_eq a b ≡ false
differ a b other = elim (cases_Bool (bytes_eq a b)) [
  | inl holds ↦ absurd (other (sym ((bytes_eq-Decides a b).0 holds)))
  | inr fails ↦ fails
]

-- each of some columns is the one of its name
abbrev pub AreFound : List Column → List Column → Type 0
AreFound whole [] = Unit {0}
AreFound whole (c ∷ cs) = (column_in c.name whole ≡ Some c) × AreFound whole cs

found_behind : (x : Column) (xs cs : List Column) → AllByRecursion (λ other. other ≢ x.name) (map (λ (c : Column). c.name) cs) → AreFound xs cs → AreFound (x ∷ xs) cs
found_behind x xs [] others found = tt
found_behind x xs (c ∷ cs) others found = (column_there x xs c.name (differ x.name c.name others.0) ∙ found.0, found_behind x xs cs others.1 found.1)

pub all_found : (cs : List Column) → AreDistinct (map (λ (c : Column). c.name) cs) → AreFound cs cs
all_found [] distinct = tt
all_found (x ∷ xs) distinct = (column_here x xs x.name ((bytes_eq-Decides x.name x.name).1 refl), found_behind x xs xs distinct.0 (all_found xs distinct.1))

-- ---- changes that their columns can have

pub record IsGiven (columns : List Column) (g : Change) : Type 0 where
  pub column : Column
  pub found : column_in g.column columns ≡ Some column
  pub other : is_id_column column ≡ false
  pub fits : FitsType column.kind g.value
  pub flat : IsFlatValue column.kind g.value

given_more : (columns : List Column) (given : List Change) (g : Change) → AllByRecursion (IsGiven columns) given → IsGiven columns g → AllByRecursion (IsGiven columns) (given ++ g ∷ [])
given_more columns [] g all is = (is, tt)
given_more columns (x ∷ given) g all is = (all.0, given_more columns given g all.1 is)

-- a column has what a change gives it
record Takes (c : Column) (o : Option Change) : Type 0 where
  fits : FitsIfChanged c o
  flat : (v : Value) → IsFlatValue c.kind v → IsFlatValue c.kind (changed_value o v)

takes_one : (columns : List Column) (c : Column) (g : Change) → column_in c.name columns ≡ Some c → IsGiven columns g → g.column ≡ c.name → Takes c (Some g)
takes_one columns c g found is same =
    let one : is.column ≡ c = ap (λ o. unwrap_or o c) (sym is.found ∙ ap (λ name. column_in name columns) same ∙ found) in
    record {
      fits = subst (λ (k : Column). FitsType k.kind g.value) one is.fits;
      flat = λ v h. subst (λ (k : Column). IsFlatValue k.kind g.value) one is.flat;
    }

takes : (columns : List Column) (c : Column) → column_in c.name columns ≡ Some c → (given : List Change) → AllByRecursion (IsGiven columns) given → Takes c (change_of c.name given)
takes columns c found [] all = record { fits = tt; flat = λ v h. h }
takes columns c found (g ∷ given) all =
    elim (cases_Bool (bytes_eq g.column c.name)) [
      | inl holds ↦ subst (Takes c) (sym (ap (λ b. cond b (Some g) (change_of c.name given)) holds)) (takes_one columns c g found all.0 ((bytes_eq-Decides g.column c.name).0 holds))
      | inr fails ↦ subst (Takes c) (sym (ap (λ b. cond b (Some g) (change_of c.name given)) fails)) (takes columns c found given all.1)
    ]

all_fit : (columns cs : List Column) → AreFound columns cs → (given : List Change) → AllByRecursion (IsGiven columns) given → ChangesFit given cs
all_fit columns [] found given all = tt
all_fit columns (c ∷ cs) found given all = ((takes columns c found.0 given all).fits, all_fit columns cs found.1 given all)

all_flat : (columns cs : List Column) → AreFound columns cs → (given : List Change) → AllByRecursion (IsGiven columns) given → (row : List Value) → AreFlatValues cs row → AreFlatValues cs (changed_values given cs row)
all_flat columns [] found given all [] flat = tt
all_flat columns [] found given all (v ∷ row) flat = absurd flat
all_flat columns (c ∷ cs) found given all [] flat = flat
all_flat columns (c ∷ cs) found given all (v ∷ row) flat = ((takes columns c found.0 given all).flat v flat.0, all_flat columns cs found.1 given all row flat.1)

not_id : (columns : List Column) (g : Change) → IsGiven columns g → bytes_eq g.column (codes "id") ≡ false
not_id columns g is =
    elim (cases_Bool (bytes_eq g.column (codes "id"))) [
      | inl holds ↦
          let named : is.column.name ≡ codes "id" = named_so g.column columns is.column is.found ∙ (bytes_eq-Decides g.column (codes "id")).0 holds in
          absurd (false≢true (sym is.other ∙ (bytes_eq-Decides is.column.name (codes "id")).1 named))
      | inr fails ↦ fails
    ]

no_id : (columns : List Column) (given : List Change) → AllByRecursion (IsGiven columns) given → change_of (codes "id") given ≡ None
no_id columns [] all = refl
no_id columns (g ∷ given) all = ap (λ b. cond b (Some g) (change_of (codes "id") given)) (not_id columns g all.0) ∙ no_id columns given all.1

-- ---- the changes so far

pub record ChangesJudged (own : Variables) (columns : List Column) (changes : List Assign) (index : ℕ) (given : List Change) : Type 0 where
  pub terms : (variables : List Variable) → IsAs own variables → first_of (changes_judged variables columns (index + 1) (drop index changes)) ≡ first_of (changes_judged variables columns 1 changes)
  pub is : (variables : List Variable) → IsAs own variables → given ++ changes_of variables columns (drop index changes) ≡ changes_of variables columns changes
  pub each : AllByRecursion (IsGiven columns) given

pub changes_none : (own : Variables) (columns : List Column) (changes : List Assign) → ChangesJudged own columns changes 0 []
changes_none own columns changes = record { terms = λ variables named. refl; is = λ variables named. refl; each = tt }

abbrev made : List ℕ → Value → Change
made name value = record { column = name; value = value }

module _ (own : Variables) (columns : List Column) (changes : List Assign) (index : ℕ) (given : List Change) (h : ChangesJudged own columns changes index given) (change : Assign) (at : drop index changes ≡ change ∷ drop (index + 1) changes) where
  terms_here : (variables : List Variable) → IsAs own variables → first_of (change_judged variables (index + 1) change.value (column_in change.column columns) ++ changes_judged variables columns (index + 1 + 1) (drop (index + 1) changes)) ≡ first_of (changes_judged variables columns 1 changes)
  terms_here variables named = sym (ap (λ cs. first_of (changes_judged variables columns (index + 1) cs)) at) ∙ h.terms variables named

  module _ (g : Change) (is : IsChangeOf own columns (index + 1) change g) where
    unrefused_here : (variables : List Variable) → IsAs own variables → first_of (change_judged variables (index + 1) change.value (column_in change.column columns)) ≡ None
    unrefused_here variables named = ap (λ o. first_of (change_judged variables (index + 1) change.value o)) is.found ∙ is.unrefused variables named

    change_here : (variables : List Variable) → IsAs own variables → g ≡ made change.column (changed_to variables change.value (column_in change.column columns))
    change_here variables named = ap₂ made is.name (is.is variables named ∙ sym (ap (changed_to variables change.value) is.found))

    pub changes_more : ChangesJudged own columns changes (index + 1) (given ++ g ∷ [])
    changes_more = record {
      terms = λ variables named. sym (first_past (change_judged variables (index + 1) change.value (column_in change.column columns)) _ (unrefused_here variables named)) ∙ terms_here variables named;
      is = λ variables named.
          append_assoc given (g ∷ []) (changes_of variables columns (drop (index + 1) changes))
          ∙ ap (λ x. given ++ (x ∷ changes_of variables columns (drop (index + 1) changes))) (change_here variables named)
          ∙ sym (ap (λ cs. given ++ changes_of variables columns cs) at)
          ∙ h.is variables named;
      each = given_more columns given g h.each (record {
        column = is.column;
        found = ap (λ name. column_in name columns) is.name ∙ is.found;
        other = is.other;
        fits = is.fits;
        flat = is.flat;
      });
    }

  pub changes_bad : (d : Denied) → DeniesChange own columns (index + 1) change d → DeniesChanges own columns changes d
  changes_bad NoMemory bad = tt
  changes_bad (By r) bad = λ variables named.
      sym (terms_here variables named) ∙ first_here (change_judged variables (index + 1) change.value (column_in change.column columns)) _ r (bad variables named)

pub changes_so : (own : Variables) (columns : List Column) (changes : List Assign) (index : ℕ) (given : List Change) → IsTableColumns columns → length changes ≤ index → ChangesJudged own columns changes index given → AreChangesOf own columns changes given
changes_so own columns changes index given table past h =
    let end : drop index changes ≡ [] = drop_past changes index past in
    let found : AreFound columns columns = all_found columns table.distinct in
    record {
      unrefused = λ variables named. sym (h.terms variables named) ∙ ap (λ cs. first_of (changes_judged variables columns (index + 1) cs)) end;
      is = λ variables named. sym (append-nil given) ∙ sym (ap (λ cs. given ++ changes_of variables columns cs) end) ∙ h.is variables named;
      fit = record { fit = all_fit columns columns found given h.each; id = no_id columns given h.each };
      flat = λ row flat. all_flat columns columns found given h.each row flat;
    }
