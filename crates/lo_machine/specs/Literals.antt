-- What the literals of a request give, and why they are refused, by the array variables of their session.
use Rattle.std.specs.Prelude.{◌≡◌, ℕ, true, false, List, ◌∷◌, Some, None}
use Rattle.lo_base.specs.declared.column.Column.{Column}
use Rattle.lo_base.specs.declared.refusal.Denied.{Denied}
use Rattle.lo_base.specs.declared.refusal.Denied.TheVariants.{By, NoMemory}
use Rattle.lo_base.specs.declared.request.Assign.{Assign}
use Rattle.lo_base.specs.declared.value.Literal.{Literal}
use Rattle.lo_base.specs.declared.value.Value.{Value}
use Rattle.expanded_array.specs.Array.{Array}
use Rattle.expanded_array.specs.Read.{array_of_text, text_refusal}
use Rattle.lo_pages.specs.Outcome.{first_of}
use Rattle.row_tables.specs.RowRules.{value_under}
use Rattle.lo_machine.specs.ArrayRows.{array_of_value, no_array}
use Rattle.row_tables.specs.Calls.{FitRows}
use Rattle.row_tables.specs.Values.{changed_values}
use Rattle.row_tables.specs.declared.change.Change.{Change}
use Rattle.toast_plan.specs.Row.{AreRowValues, FitsType, is_null_value}
use Rattle.lo_machine.specs.FlatRows.{AreFlatValues, IsFlatValue}
use Rattle.lo_machine.specs.State.{Variable}
use Rattle.lo_machine.specs.TableRows.{change_judged, changes_judged, changes_of, wrong_count}
use Rattle.lo_machine.specs.Values.{all_judged, column_in, is_id_column, judged, value_of, values_of}
use Rattle.lo_machine.specs.Variables.{IsAs}
use Rattle.lo_machine.specs.declared.variables.Variables.{Variables}

-- the array that a text spells
pub record IsArrayFrom (text : List ℕ) (a : Array) : Type 0 where
  pub unrefused : text_refusal text ≡ None
  pub is : array_of_text text ≡ Some a

abbrev pub DeniesText : (text : List ℕ) → Denied → Type 0
DeniesText text (By r) = text_refusal text ≡ Some r
DeniesText text NoMemory = Unit {0}

-- one literal, at a place among those of its line. An id is never null
pub record IsValueOf (own : Variables) (c : Column) (place : ℕ) (literal : Literal) (value : Value) : Type 0 where
  pub unrefused : (variables : List Variable) → IsAs own variables → first_of (judged variables c place literal) ≡ None
  pub is : (variables : List Variable) → IsAs own variables → value ≡ value_of variables c literal
  pub fits : FitsType c.kind value
  pub flat : IsFlatValue c.kind value
  pub there : is_id_column c ≡ true → is_null_value value ≡ false

abbrev pub DeniesValue : Variables → Column → (place : ℕ) → Literal → Denied → Type 0
DeniesValue own c k literal (By r) = (variables : List Variable) → IsAs own variables → first_of (judged variables c k literal) ≡ Some r
DeniesValue own c k literal NoMemory = Unit {0}

-- all literals of an insert
pub record AreValuesOf (own : Variables) (columns : List Column) (literals : List Literal) (row : List Value) : Type 0 where
  pub counted : wrong_count columns literals ≡ None
  pub unrefused : (variables : List Variable) → IsAs own variables → first_of (all_judged variables 1 columns literals) ≡ None
  pub is : (variables : List Variable) → IsAs own variables → row ≡ values_of variables columns literals
  pub fit : AreRowValues columns row
  pub flat : AreFlatValues columns row

abbrev pub DeniesValues : Variables → List Column → List Literal → Denied → Type 0
DeniesValues own columns literals (By r) = (variables : List Variable) → IsAs own variables → first_of (wrong_count columns literals ∷ all_judged variables 1 columns literals) ≡ Some r
DeniesValues own columns literals NoMemory = Unit {0}

-- one change of an update. It is not of the id
pub record IsChangeOf (own : Variables) (columns : List Column) (place : ℕ) (change : Assign) (given : Change) : Type 0 where
  pub column : Column
  pub found : column_in change.column columns ≡ Some column
  pub other : is_id_column column ≡ false
  pub unrefused : (variables : List Variable) → IsAs own variables → first_of (change_judged variables place change.value (Some column)) ≡ None
  pub name : given.column ≡ change.column
  pub is : (variables : List Variable) → IsAs own variables → given.value ≡ value_of variables column change.value
  pub fits : FitsType column.kind given.value
  pub flat : IsFlatValue column.kind given.value

abbrev pub DeniesChange : Variables → List Column → (place : ℕ) → Assign → Denied → Type 0
DeniesChange own columns k change (By r) = (variables : List Variable) → IsAs own variables → first_of (change_judged variables k change.value (column_in change.column columns)) ≡ Some r
DeniesChange own columns k change NoMemory = Unit {0}

-- all changes of an update
pub record AreChangesOf (own : Variables) (columns : List Column) (changes : List Assign) (given : List Change) : Type 0 where
  pub unrefused : (variables : List Variable) → IsAs own variables → first_of (changes_judged variables columns 1 changes) ≡ None
  pub is : (variables : List Variable) → IsAs own variables → given ≡ changes_of variables columns changes
  pub fit : FitRows given columns
  pub flat : (row : List Value) → AreFlatValues columns row → AreFlatValues columns (changed_values given columns row)

abbrev pub DeniesChanges : Variables → List Column → List Assign → Denied → Type 0
DeniesChanges own columns changes (By r) = (variables : List Variable) → IsAs own variables → first_of (changes_judged variables columns 1 changes) ≡ Some r
DeniesChanges own columns changes NoMemory = Unit {0}

-- the array of a row's column
pub record IsArrayOf (name : List ℕ) (columns : List Column) (row : List Value) (a : Array) : Type 0 where
  pub unrefused : first_of (no_array name columns row) ≡ None
  pub is : a ≡ array_of_value (value_under name columns row)
