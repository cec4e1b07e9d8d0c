-- The rows of the calls on tables and their rows. (Manual, INSERT, UPDATE, DELETE, TOAST.)
use Rattle.std.specs.Prelude.{ℕ, ℤ, pos, Bool, true, false, not, nat_le, List, [], ◌∷◌, ◌++◌, length, map, Option, Some, None, is_none, is_some, bytes_eq, if◌then◌else◌}
use Rattle.std.specs.List.{find}
use Rattle.lo_base.specs.declared.column.ColType.{ColType}
use Rattle.lo_base.specs.declared.column.ColType.TheVariants.{Int8, Oid, Lo, Bytea, Int4Array}
use Rattle.lo_base.specs.declared.column.Column.{Column}
use Rattle.lo_base.specs.declared.refusal.Cause.TheVariants.{TableExists, TooManyTables, NoColumn, WrongType}
use Rattle.lo_base.specs.declared.refusal.Refusal.{Refusal}
use Rattle.lo_base.specs.declared.reply.Reply.{Reply}
use Rattle.lo_base.specs.declared.reply.Reply.TheVariants as replies
use Rattle.lo_base.specs.declared.reply.Word.TheVariants as words
use Rattle.lo_base.specs.declared.value.Value.{Value}
use Rattle.lo_base.specs.declared.value.Value.TheVariants as values
use Rattle.lo_model.specs.Edit.{Deed, Put, Delete}
use Rattle.lo_model.specs.Listing.{ids_in}
use Rattle.lo_model.specs.Row as model
use Rattle.lo_model.specs.Stored.{stored_anew, stored_after_update}
use Rattle.toast_chunks.specs.Values.{slice_of}
use Rattle.toast_plan.specs.Choice.{outside_of}
use Rattle.toast_plan.specs.Row.{value_lengths}
use Rattle.row_tables.specs.declared.change.Change.{Change}
use Rattle.row_tables.specs.Catalog.{columns_in, most_tables, table_in}
use Rattle.row_tables.specs.Row.{Here, Row, answered, edited}
use Rattle.row_tables.specs.Terms.{bad_length, busy, count_of, held_by_session, no_row, no_table, row_exists, row_too_big, when}
use Rattle.row_tables.specs.Values.{cells_of, change_of, changed_values, id_of}

-- the columns of a table, and the values and storages of a row of the view: none where there is none

abbrev pub columns_here : Here → (table : List ℕ) → List Column
columns_here here t = columns_in (table_in t here.tables)

abbrev pub values_in : Option model.Row → List Value
values_in None = []
values_in (Some row) = row.values

abbrev pub stored_in : Option model.Row → List (Option ℕ)
stored_in None = []
stored_in (Some row) = row.stored

abbrev pub row_here : Here → (table : List ℕ) → (id : ℤ) → Option model.Row
row_here here t i = model.row_in t i here.view

-- create table

abbrev pub create_table_row : (name : List ℕ) → List Column → Here → Row
create_table_row name columns here = record {
  refusals =
      when (is_some (table_in name here.tables)) TableExists (pos 0)
      ∷ when (nat_le most_tables (length here.tables)) TooManyTables (pos most_tables)
      ∷ held_by_session here.other
      ∷ [];
  granted = record {
    reply = replies.Word words.CreateTable;
    deeds = [];
    tables = here.tables ++ record { name = name; columns = columns } ∷ [];
    cursors = here.cursors;
  };
}

-- insert. All values outside are stored anew.

abbrev pub put_anew : (clock : ℕ) → (table : List ℕ) → List Column → List Value → Deed
put_anew clock t columns row = Put t (id_of row) row (stored_anew clock (outside_of columns (value_lengths row)))

abbrev pub insert_row : (table : List ℕ) → List Value → Here → Row
insert_row t row here = record {
  refusals =
      no_table here t
      ∷ row_exists here t (id_of row)
      ∷ row_too_big (columns_here here t) (value_lengths row)
      ∷ busy here t (id_of row)
      ∷ [];
  granted = edited here (replies.Word words.Insert) (put_anew here.clock t (columns_here here t) row ∷ []);
}

-- update. A column that no change names keeps what is stored of it where it was outside and stays outside.

abbrev pub is_named_by : List Change → Column → Bool
is_named_by changes c = is_some (change_of c.name changes)

abbrev pub updated : Here → (table : List ℕ) → (id : ℤ) → List Change → List Value
updated here t i changes = changed_values changes (columns_here here t) (values_in (row_here here t i))

abbrev pub stored_updated : (clock : ℕ) → List Column → List Change → List Value → (old : List (Option ℕ)) → List (Option ℕ)
stored_updated clock columns changes row old =
    stored_after_update clock (outside_of columns (value_lengths row)) (map (is_named_by changes) columns) old

abbrev pub put_updated : Here → (table : List ℕ) → (id : ℤ) → List Change → Deed
put_updated here t i changes =
    Put t i (updated here t i changes)
    (stored_updated here.clock (columns_here here t) changes (updated here t i changes) (stored_in (row_here here t i)))

abbrev pub update_row : (table : List ℕ) → (id : ℤ) → List Change → Here → Row
update_row t i changes here = record {
  refusals =
      no_table here t
      ∷ no_row here t i
      ∷ row_too_big (columns_here here t) (value_lengths (updated here t i changes))
      ∷ busy here t i
      ∷ [];
  granted = edited here (replies.Word words.Update) (put_updated here t i changes ∷ []);
}

-- delete

abbrev pub delete_row : (table : List ℕ) → (id : ℤ) → Here → Row
delete_row t i here = record {
  refusals = no_table here t ∷ no_row here t i ∷ busy here t i ∷ [];
  granted = edited here (replies.Word words.Delete) (Delete t i ∷ []);
}

-- get and ids

abbrev pub get_row : (table : List ℕ) → (id : ℤ) → Here → Row
get_row t i here = record {
  refusals = no_table here t ∷ no_row here t i ∷ [];
  granted = answered here (replies.Row (cells_of (values_in (row_here here t i))));
}

abbrev pub ids_row : (table : List ℕ) → Here → Row
ids_row t here = record {
  refusals = no_table here t ∷ [];
  granted = answered here (replies.Ids (ids_in t here.view));
}

-- slice. Where a bytea column is asked for bytes from an offset on, at most so many: NoColumn and WrongType name the second
-- word of the request behind the table.

abbrev pub column_in : (name : List ℕ) → List Column → Option Column
column_in name columns = find (λ (c : Column). bytes_eq c.name name) columns

abbrev pub is_bytea : ColType → Bool
is_bytea Int8 = false
is_bytea Oid = false
is_bytea Lo = false
is_bytea Bytea = true
is_bytea Int4Array = false

abbrev pub is_no_bytea : Option Column → Bool
is_no_bytea None = false
is_no_bytea (Some c) = not (is_bytea c.kind)

abbrev pub slice_refusals : List Column → (column : List ℕ) → (from length : ℤ) → List (Option Refusal)
slice_refusals columns name from length =
    when (is_none (column_in name columns)) NoColumn (pos 2)
    ∷ when (is_no_bytea (column_in name columns)) WrongType (pos 2)
    ∷ bad_length from
    ∷ bad_length length
    ∷ []

-- the value of a column, null where there is none
abbrev pub value_under : (column : List ℕ) → List Column → List Value → Value
value_under name [] row = values.Null
value_under name (c ∷ cs) [] = values.Null
value_under name (c ∷ cs) (v ∷ vs) = if bytes_eq c.name name then v else value_under name cs vs

abbrev pub slice_in : (from count : ℕ) → Value → Value
slice_in from count values.Null = values.Null
slice_in from count (values.Int n) = values.Null
slice_in from count (values.Oid n) = values.Null
slice_in from count (values.Bytes bytes) = values.Bytes (slice_of from count bytes)

abbrev pub slice_reply : Value → Reply
slice_reply values.Null = replies.Nothing
slice_reply (values.Int n) = replies.Nothing
slice_reply (values.Oid n) = replies.Nothing
slice_reply (values.Bytes bytes) = replies.Content bytes

abbrev pub sliced : (from length : ℤ) → Value → Reply
sliced from length v = slice_reply (slice_in (count_of from) (count_of length) v)

abbrev pub slice_row : (table : List ℕ) → (id : ℤ) → (column : List ℕ) → (from length : ℤ) → Here → Row
slice_row t i name from length here = record {
  refusals = no_table here t ∷ no_row here t i ∷ slice_refusals (columns_here here t) name from length;
  granted = answered here (sliced from length (value_under name (columns_here here t) (values_in (row_here here t i))));
}
