-- The rows of requests on tables, rows and cursors, as scripts have them: literals are judged before the rows of row_tables, which
-- read values. A term that looks at a table or a row stands behind the one that refuses where it is not there.
use Rattle.std.specs.Prelude.{ℕ, ℤ, pos, ◌+◌, ◌==◌, not, ◌||◌, List, [], ◌∷◌, ◌++◌, length, map, Option, Some, None}
use Rattle.lo_base.specs.declared.column.Column.{Column}
use Rattle.lo_base.specs.declared.refusal.Cause.TheVariants.{NoColumn, WrongType}
use Rattle.lo_base.specs.declared.refusal.Refusal.{Refusal}
use Rattle.lo_base.specs.declared.reply.Reply.TheVariants.{Word, Row as RowReply}
use Rattle.lo_base.specs.declared.reply.Word.TheVariants as words
use Rattle.lo_base.specs.declared.request.Assign.{Assign}
use Rattle.lo_base.specs.declared.value.Literal.{Literal}
use Rattle.lo_base.specs.declared.value.Value.{Value}
use Rattle.lo_base.specs.declared.value.Value.TheVariants.{Null}
use Rattle.lo_model.specs.Descriptor.{Cursor}
use Rattle.row_tables.specs.Catalog.{columns_in, table_in}
use Rattle.row_tables.specs.CursorRules.{declare_row}
use Rattle.row_tables.specs.RowRules.{get_row, insert_row, row_here, update_row, values_in}
use Rattle.row_tables.specs.Terms.{no_row, no_table, when}
use Rattle.row_tables.specs.declared.change.Change.{Change}
use Rattle.lo_machine.specs.Row.{Here, Row, answered, on_tables, tables_here, with_cursors}
use Rattle.lo_machine.specs.State.{Variable}
use Rattle.lo_machine.specs.Values.{all_judged, bad_text, cells_of, column_in, fits, is_id_column, no_variable, value_of, values_of}

-- the columns of a table, and none where it is not there
abbrev pub table_columns : Here → (table : List ℕ) → List Column
table_columns here t = columns_in (table_in t here.tables)

-- insert: the number of values, then each of them, then the row

abbrev pub wrong_count : List Column → List Literal → Option Refusal
wrong_count columns literals = when (not (length columns == length literals)) WrongType (pos (length literals))

abbrev pub inserted : Here → (table : List ℕ) → List Literal → List Value
inserted here t literals = values_of here.variables (table_columns here t) literals

abbrev pub insert_line : (table : List ℕ) → List Literal → Here → Row
insert_line t literals here = record {
  refusals =
      no_table (tables_here here) t
      ∷ wrong_count (table_columns here t) literals
      ∷ (all_judged here.variables 1 (table_columns here t) literals
      ++ (on_tables (insert_row t (inserted here t literals)) here).refusals);
  granted = (on_tables (insert_row t (inserted here t literals)) here).granted;
}

-- update: each change's column and then its value, then the row. The column that names the row is not changed

abbrev pub change_judged : List Variable → (subject : ℕ) → Literal → Option Column → List (Option Refusal)
change_judged variables k literal None = Some (record { cause = NoColumn; subject = pos k }) ∷ []
change_judged variables k literal (Some c) =
    no_variable variables literal
    ∷ when (is_id_column c || not (fits c literal)) WrongType (pos k)
    ∷ bad_text literal
    ∷ []

abbrev pub changes_judged : List Variable → List Column → (from : ℕ) → List Assign → List (Option Refusal)
changes_judged variables columns k [] = []
changes_judged variables columns k (a ∷ changes) =
    change_judged variables k a.value (column_in a.column columns) ++ changes_judged variables columns (k + 1) changes

-- the value that a change gives its column, where the table has it
abbrev pub changed_to : List Variable → Literal → Option Column → Value
changed_to variables literal None = Null
changed_to variables literal (Some c) = value_of variables c literal

abbrev pub changes_of : List Variable → List Column → List Assign → List Change
changes_of variables columns changes =
    map (λ (a : Assign). record { column = a.column; value = changed_to variables a.value (column_in a.column columns) }) changes

abbrev pub changes_here : Here → (table : List ℕ) → List Assign → List Change
changes_here here t changes = changes_of here.variables (table_columns here t) changes

abbrev pub update_line : (table : List ℕ) → (id : ℤ) → List Assign → Here → Row
update_line t i changes here = record {
  refusals =
      no_table (tables_here here) t
      ∷ no_row (tables_here here) t i
      ∷ (changes_judged here.variables (table_columns here t) 1 changes
      ++ (on_tables (update_row t i (changes_here here t changes)) here).refusals);
  granted = (on_tables (update_row t i (changes_here here t changes)) here).granted;
}

-- get: an array is answered by its text
abbrev pub get_line : (table : List ℕ) → (id : ℤ) → Here → Row
get_line t i here = record {
  refusals = (on_tables (get_row t i) here).refusals;
  granted = answered here (RowReply (cells_of (table_columns here t) (values_in (row_here (tables_here here) t i))));
}

-- declare: the cursor reads in the view that its session has now
abbrev pub declared : Here → (cursor table : List ℕ) → (id : ℤ) → Cursor
declared here name t i = record { name = name; table = t; id = i; level = here.level; clock = here.now }

abbrev pub declare_line : (cursor table : List ℕ) → (id : ℤ) → Here → Row
declare_line name t i here = record {
  refusals = (on_tables (declare_row name t i) here).refusals;
  granted = with_cursors here (Word words.Declare) (here.cursors ++ declared here name t i ∷ []);
}
