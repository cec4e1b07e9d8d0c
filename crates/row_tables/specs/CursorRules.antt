-- The rows of the calls on cursors. A cursor is one row in the view that its session has at the declaration. (Manual,
-- DECLARE, FETCH, CLOSE.)
use Rattle.std.specs.Prelude.{ℕ, ℤ, pos, ◌+◌, List, [], ◌∷◌, ◌++◌, Option, Some, None, is_none, is_some}
use Rattle.lo_base.specs.declared.column.Column.{Column}
use Rattle.lo_base.specs.declared.refusal.Cause.TheVariants.{CursorExists, NoCursor}
use Rattle.lo_base.specs.declared.refusal.Refusal.{Refusal}
use Rattle.lo_base.specs.declared.reply.Reply.TheVariants as replies
use Rattle.lo_base.specs.declared.reply.Word.TheVariants as words
use Rattle.lo_base.specs.declared.value.Value.{Value}
use Rattle.lo_model.specs.Descriptor.{Cursor, cursor_in, cursor_row, without_name}
use Rattle.row_tables.specs.Row.{Here, Row, answered, with_cursors}
use Rattle.row_tables.specs.RowRules.{columns_here, slice_refusals, sliced, value_under, values_in}
use Rattle.row_tables.specs.Terms.{no_row, no_table, when}

-- declare. The view has what the session made at the present clock, so it is the one of the clock above.

abbrev pub declared : Here → (cursor table : List ℕ) → (id : ℤ) → Cursor
declared here name t i = record { name = name; table = t; id = i; level = here.level; clock = here.clock + 1 }

abbrev pub declare_row : (cursor table : List ℕ) → (id : ℤ) → Here → Row
declare_row name t i here = record {
  refusals = no_table here t ∷ no_row here t i ∷ when (is_some (cursor_in name here.cursors)) CursorExists (pos 0) ∷ [];
  granted = with_cursors here (replies.Word words.Declare) (here.cursors ++ declared here name t i ∷ []);
}

-- fetch: as a slice, of the cursor's row

abbrev pub no_cursor : Here → (cursor : List ℕ) → Option Refusal
no_cursor here name = when (is_none (cursor_in name here.cursors)) NoCursor (pos 0)

abbrev pub cursor_columns : Here → Option Cursor → List Column
cursor_columns here None = []
cursor_columns here (Some c) = columns_here here c.table

abbrev pub cursor_values : Here → Option Cursor → List Value
cursor_values here None = []
cursor_values here (Some c) = values_in (cursor_row here.session here.edits c)

abbrev pub fetch_row : (cursor column : List ℕ) → (from length : ℤ) → Here → Row
fetch_row name column from length here = record {
  refusals = no_cursor here name ∷ slice_refusals (cursor_columns here (cursor_in name here.cursors)) column from length;
  granted =
      answered here (sliced from length (value_under column
      (cursor_columns here (cursor_in name here.cursors))
      (cursor_values here (cursor_in name here.cursors))));
}

-- close

abbrev pub close_row : (cursor : List ℕ) → Here → Row
close_row name here = record {
  refusals = no_cursor here name ∷ [];
  granted = with_cursors here (replies.Word words.Close) (without_name name here.cursors);
}
