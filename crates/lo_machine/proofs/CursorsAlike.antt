-- The rows of requests on cursors match the rows of their calls, where cursors are of later clocks.
use Rattle.std.proofs.Common.{◌≡◌, ℕ, ℤ, Bool, true, false, not, List, [], ◌∷◌, Option, Some, None, refl, ap, sym, subst, ◌∙◌}
use Rattle.std.specs.Prelude.{All, is_some, is_none, option_map, bytes_eq}
use Rattle.std.proofs.lemmas.Bool.{false≢true}
use Rattle.std.proofs.lemmas.List.{map-append}
use Rattle.std.proofs.lemmas.Option.{same_Some}
use Rattle.std.proofs.lemmas.List.Elements.{All-filter, All-head, All-push, All-tail}
use Rattle.lo_model.specs.declared.viewer.Viewer.TheVariants.{Whole}
use Rattle.lo_model.specs.Descriptor.{Cursor, cursor_in, without_name}
use Rattle.lo_model.specs.Edit.{Deed, Edit}
use Rattle.lo_model.specs.Row.{row_in}
use Rattle.row_tables.specs.CursorRules.{close_row, cursor_columns, cursor_values, declare_row, fetch_row}
use Rattle.row_tables.specs.RowRules.{values_in}
use Rattle.lo_machine.specs.Alike.{SeesNone}
use Rattle.lo_machine.specs.Server.{IsLeveled}
use Rattle.lo_machine.specs.Later.{all_later_cursors, later_cursor}
use Rattle.lo_machine.specs.Row.{Here, on_tables, tables_here}
use Rattle.lo_machine.specs.TableRows.{declare_line, declared}
use Rattle.lo_machine.proofs.TableCalls.{IsMatch, first_same, later_here}
use Rattle.lo_machine.proofs.TablesAlike.{no_deeds}

-- the cursor of a name, and those but it

pub found_later : (name : List ℕ) (cursors : List Cursor) → cursor_in name (all_later_cursors cursors) ≡ option_map later_cursor (cursor_in name cursors)
found_later name [] = refl
found_later name (c ∷ cs) = by_test (bytes_eq c.name name) refl (found_later name cs)
  where
    by_test : (test : Bool) → bytes_eq c.name name ≡ test → cursor_in name (all_later_cursors cs) ≡ option_map later_cursor (cursor_in name cs) → cursor_in name (all_later_cursors (c ∷ cs)) ≡ option_map later_cursor (cursor_in name (c ∷ cs))
    by_test true is rest = rw is refl
    by_test false is rest = rw is rest

pub without_later : (name : List ℕ) (cursors : List Cursor) → without_name name (all_later_cursors cursors) ≡ all_later_cursors (without_name name cursors)
without_later name [] = refl
without_later name (c ∷ cs) = by_test (bytes_eq c.name name) refl (without_later name cs)
  where
    by_test : (test : Bool) → bytes_eq c.name name ≡ test → without_name name (all_later_cursors cs) ≡ all_later_cursors (without_name name cs) → without_name name (all_later_cursors (c ∷ cs)) ≡ all_later_cursors (without_name name (c ∷ cs))
    by_test true is rest = rw is rest
    by_test false is rest = rw is (ap (λ (left : List Cursor). later_cursor c ∷ left) rest)

-- a found cursor is one of them
found_all : (P : Cursor → Type 0) (name : List ℕ) (cursors : List Cursor) (c : Cursor) → All P cursors → cursor_in name cursors ≡ Some c → P c
found_all P name [] c all is = absurd (false≢true (ap is_some is))
found_all P name (one ∷ cs) c all is = by_test (bytes_eq one.name name) refl (λ (found : cursor_in name cs ≡ Some c). found_all P name cs c (All-tail P one cs all) found)
  where
    by_test : (test : Bool) → bytes_eq one.name name ≡ test → (cursor_in name cs ≡ Some c → P c) → P c
    by_test true here rest = subst P (same_Some one c (rw here at is)) (All-head P one cs all)
    by_test false here rest = rest (rw here at is)

module _ (here : Here) where
  some_later : (o : Option Cursor) → is_some (option_map later_cursor o) ≡ is_some o
  some_later None = refl
  some_later (Some c) = refl

  none_later : (o : Option Cursor) → is_none (option_map later_cursor o) ≡ is_none o
  none_later None = refl
  none_later (Some c) = refl

  columns_later : (o : Option Cursor) → cursor_columns (later_here here) (option_map later_cursor o) ≡ cursor_columns (tables_here here) o
  columns_later None = refl
  columns_later (Some c) = refl

  values_later : (o : Option Cursor) → ((c : Cursor) → o ≡ Some c → SeesNone here.edits c.clock) → cursor_values (later_here here) (option_map later_cursor o) ≡ cursor_values (tables_here here) o
  values_later None none = refl
  values_later (Some c) none = ap (λ (edits : List (Edit Deed)). values_in (row_in c.table c.id edits)) (none c refl (Whole here.session))

  pub declare_match : (name t : List ℕ) (i : ℤ) → IsMatch here (declare_line name t i here) (declare_row name t i (later_here here))
  declare_match name t i =
      let exists : is_some (cursor_in name (all_later_cursors here.cursors)) ≡ is_some (cursor_in name here.cursors) = ap is_some (found_later name here.cursors) ∙ some_later (cursor_in name here.cursors) in
      record {
        refusals = rw exists (sym (first_same (declare_line name t i here).refusals));
        reply = refl;
        deeds = refl;
        tables = refl;
        cursors = sym (map-append later_cursor here.cursors (declared here name t i ∷ []));
        leveled = λ level own. All-push IsLeveled here.cursors (declared here name t i) own level;
        descriptors = refl;
        variables = refl;
        counter = refl;
        pages = λ x store maker none stands. no_deeds here x store maker stands;
      }

  pub close_match : (name : List ℕ) → IsMatch here (on_tables (close_row name) here) (close_row name (later_here here))
  close_match name =
      let exists : is_none (cursor_in name (all_later_cursors here.cursors)) ≡ is_none (cursor_in name here.cursors) = ap is_none (found_later name here.cursors) ∙ none_later (cursor_in name here.cursors) in
      record {
        refusals = rw exists (sym (first_same (close_row name (tables_here here)).refusals));
        reply = refl;
        deeds = refl;
        tables = refl;
        cursors = without_later name here.cursors;
        leveled = λ level own. All-filter (λ (c : Cursor). not (bytes_eq c.name name)) IsLeveled here.cursors own;
        descriptors = refl;
        variables = refl;
        counter = refl;
        pages = λ x store maker none stands. no_deeds here x store maker stands;
      }

  module _ (sees : All (λ (c : Cursor). SeesNone here.edits c.clock) here.cursors) (name column : List ℕ) (from count : ℤ) where
    same_exists : is_none (cursor_in name (all_later_cursors here.cursors)) ≡ is_none (cursor_in name here.cursors)
    same_exists = ap is_none (found_later name here.cursors) ∙ none_later (cursor_in name here.cursors)

    same_columns : cursor_columns (later_here here) (cursor_in name (all_later_cursors here.cursors)) ≡ cursor_columns (tables_here here) (cursor_in name here.cursors)
    same_columns = ap (cursor_columns (later_here here)) (found_later name here.cursors) ∙ columns_later (cursor_in name here.cursors)

    same_values : cursor_values (later_here here) (cursor_in name (all_later_cursors here.cursors)) ≡ cursor_values (tables_here here) (cursor_in name here.cursors)
    same_values = ap (cursor_values (later_here here)) (found_later name here.cursors) ∙ values_later (cursor_in name here.cursors) (λ c is. found_all (λ (c : Cursor). SeesNone here.edits c.clock) name here.cursors c sees is)

    pub fetch_match : IsMatch here (on_tables (fetch_row name column from count) here) (fetch_row name column from count (later_here here))
    fetch_match = record {
      refusals = rw (same_exists, same_columns) (sym (first_same (fetch_row name column from count (tables_here here)).refusals));
      reply = rw (same_columns, same_values) refl;
      deeds = refl;
      tables = refl;
      cursors = refl;
      leveled = λ level own. own;
      descriptors = refl;
      variables = refl;
      counter = refl;
      pages = λ x store maker none stands. no_deeds here x store maker stands;
    }
