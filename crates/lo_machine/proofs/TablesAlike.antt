-- The row of each request on tables matches the row of its call: it refuses alike and grants the same.
use Rattle.std.proofs.Common.{◌≡◌, ℕ, ℤ, List, [], ◌∷◌, ◌++◌, length, Option, Some, None, refl, ap, sym, subst, append-nil}
use Rattle.std.specs.Prelude.{is_some}
use Rattle.std.proofs.lemmas.Bool.{false≢true}
use Rattle.lo_base.specs.declared.column.Column.{Column}
use Rattle.lo_base.specs.declared.refusal.Refusal.{Refusal}
use Rattle.lo_base.specs.declared.value.Value.{Value}
use Rattle.lo_model.specs.declared.owner.Owner.TheVariants.{Running}
use Rattle.lo_model.specs.Edit.{Deed, Put, Delete, edits_by}
use Rattle.lo_model.specs.Touch.{RowOf, busy_with}
use Rattle.lo_pages.specs.declared.pages.Pages.{Pages}
use Rattle.lo_pages.specs.Calls.{IsMaker}
use Rattle.lo_pages.specs.Standing.{StandFor}
use Rattle.lo_pages.proofs.Standing.{stand_deleted, stand_put}
use Rattle.row_tables.specs.RowRules.{create_table_row, delete_row, ids_row, slice_row}
use Rattle.row_tables.specs.Terms.{busy, first_of, held_by_session, no_row, no_table}
use Rattle.xact_core.specs.Transactions.{Transactions, levels_of}
use Rattle.lo_machine.specs.Row.{Here, on_tables}
use Rattle.lo_machine.proofs.TableCalls.{IsMatch, IsReading, first_same, later_here}

-- where no term holds, the last does not

pub last_none : (terms : List (Option Refusal)) (t : Option Refusal) → first_of (terms ++ t ∷ []) ≡ None → t ≡ None
last_none [] None is = refl
last_none [] (Some r) is = absurd (false≢true (sym (ap is_some is)))
last_none (None ∷ terms) t is = last_none terms t is
last_none (Some r ∷ terms) t is = absurd (false≢true (sym (ap is_some is)))

pub held_none : (o : Option ℕ) → held_by_session o ≡ None → o ≡ None
held_none None is = refl
held_none (Some s) is = absurd (false≢true (sym (ap is_some is)))

-- edits of rows are none of pages

abbrev pub AddsTo : Here → List Deed → Type 0
AddsTo here deeds = (x : Transactions) (store : Pages) → IsMaker x here.session → StandFor x store here.edits → StandFor x store (here.edits ++ edits_by x.clock (Running here.session (length (levels_of x here.session))) deeds)

pub no_deeds : (here : Here) → AddsTo here []
no_deeds here x store maker stands = subst (StandFor x store) (sym (append-nil here.edits)) stands

pub one_put : (here : Here) (t : List ℕ) (i : ℤ) (values : List Value) (stored : List (Option ℕ)) → busy_with here.session (RowOf t i) here.edits ≡ None → AddsTo here (Put t i values stored ∷ [])
one_put here t i values stored free x store maker stands = stand_put x here.session store here.edits t i values stored maker free stands

pub one_deleted : (here : Here) (t : List ℕ) (i : ℤ) → busy_with here.session (RowOf t i) here.edits ≡ None → AddsTo here (Delete t i ∷ [])
one_deleted here t i free x store maker stands = stand_deleted x here.session store here.edits t i maker free stands

-- each row

module _ (here : Here) where
  pub create_table_match : (name : List ℕ) (columns : List Column) → IsMatch here (on_tables (create_table_row name columns) here) (create_table_row name columns (later_here here))
  create_table_match name columns = record {
    refusals = sym (first_same (create_table_row name columns (later_here here)).refusals);
    reply = refl;
    deeds = refl;
    tables = refl;
    cursors = refl;
    leveled = λ level own. own;
    descriptors = refl;
    variables = refl;
    counter = refl;
    pages = λ x store maker none stands. no_deeds here x store maker stands;
  }

  pub delete_match : (t : List ℕ) (i : ℤ) → IsMatch here (on_tables (delete_row t i) here) (delete_row t i (later_here here))
  delete_match t i = record {
    refusals = sym (first_same (delete_row t i (later_here here)).refusals);
    reply = refl;
    deeds = refl;
    tables = refl;
    cursors = refl;
    leveled = λ level own. own;
    descriptors = refl;
    variables = refl;
    counter = refl;
    pages = λ x store maker none stands. one_deleted here t i (held_none _ (last_none (no_table (later_here here) t ∷ no_row (later_here here) t i ∷ []) (busy (later_here here) t i) none)) x store maker stands;
  }

  pub ids_match : (t : List ℕ) → IsMatch here (on_tables (ids_row t) here) (ids_row t (later_here here))
  ids_match t = record {
    refusals = sym (first_same (ids_row t (later_here here)).refusals);
    reply = refl;
    deeds = refl;
    tables = refl;
    cursors = refl;
    leveled = λ level own. own;
    descriptors = refl;
    variables = refl;
    counter = refl;
    pages = λ x store maker none stands. no_deeds here x store maker stands;
  }

  pub slice_match : (t : List ℕ) (i : ℤ) (column : List ℕ) (from count : ℤ) → IsMatch here (on_tables (slice_row t i column from count) here) (slice_row t i column from count (later_here here))
  slice_match t i column from count = record {
    refusals = sym (first_same (slice_row t i column from count (later_here here)).refusals);
    reply = refl;
    deeds = refl;
    tables = refl;
    cursors = refl;
    leveled = λ level own. own;
    descriptors = refl;
    variables = refl;
    counter = refl;
    pages = λ x store maker none stands. no_deeds here x store maker stands;
  }

pub ids_reading : (t : List ℕ) → IsReading (ids_row t)
ids_reading t = record { leaves = λ here. (refl, refl, refl) }

pub slice_reading : (t : List ℕ) (i : ℤ) (column : List ℕ) (from count : ℤ) → IsReading (slice_row t i column from count)
slice_reading t i column from count = record { leaves = λ here. (refl, refl, refl) }
