-- The row of the rewrite of a table under other storages. (Manual, ALTER TABLE, SET STORAGE; here the rows are stored anew.)
use Rattle.std.specs.Prelude.{ℕ, ℤ, pos, ◌+◌, Bool, true, false, not, List, [], ◌∷◌, ◌++◌, length, map, Option, Some, None, is_none}
use Rattle.lo_base.specs.declared.column.ColType.{ColType}
use Rattle.lo_base.specs.declared.column.ColType.TheVariants.{Int8, Oid, Lo, Bytea, Int4Array}
use Rattle.lo_base.specs.declared.column.Column.{Column}
use Rattle.lo_base.specs.declared.refusal.Cause.TheVariants.{NoColumn, WrongType}
use Rattle.lo_base.specs.declared.refusal.Refusal.{Refusal}
use Rattle.lo_base.specs.declared.reply.Reply.TheVariants as replies
use Rattle.lo_base.specs.declared.reply.Word.TheVariants as words
use Rattle.lo_base.specs.declared.value.Value.{Value}
use Rattle.lo_model.specs.Database.{Table}
use Rattle.lo_model.specs.Edit.{Deed}
use Rattle.lo_model.specs.Listing.{ids_in}
use Rattle.lo_model.specs.Touch.{RowsOf}
use Rattle.toast_plan.specs.Row.{value_lengths}
use Rattle.row_tables.specs.Catalog.{number_in, with_columns}
use Rattle.row_tables.specs.Row.{Here, Row}
use Rattle.row_tables.specs.RowRules.{column_in, columns_here, put_anew, row_here, values_in}
use Rattle.row_tables.specs.Terms.{busy_for, first_of, no_table, row_too_big, when}

-- a value whose storage can be another one
abbrev pub is_varying : ColType → Bool
is_varying Int8 = false
is_varying Oid = false
is_varying Lo = false
is_varying Bytea = true
is_varying Int4Array = true

abbrev pub is_fixed : Option Column → Bool
is_fixed None = false
is_fixed (Some c) = not (is_varying c.kind)

-- a storage for a column that is not there, or that has none to choose: refusals name its place, from 1
abbrev pub storage_refusals : (place : ℕ) → List Column → (storages : List Column) → List (Option Refusal)
storage_refusals k columns [] = []
storage_refusals k columns (s ∷ storages) =
    when (is_none (column_in s.name columns)) NoColumn (pos k)
    ∷ when (is_fixed (column_in s.name columns)) WrongType (pos k)
    ∷ storage_refusals (k + 1) columns storages

abbrev pub stored_by : Column → Option Column → Column
stored_by c None = c
stored_by c (Some s) = record { name = c.name; kind = c.kind; storage = s.storage }

-- the columns with the storages that some of them get
abbrev pub with_storages : (storages : List Column) → List Column → List Column
with_storages storages columns = map (λ (c : Column). stored_by c (column_in c.name storages)) columns

abbrev pub columns_rewritten : (table : List ℕ) → (storages : List Column) → Here → List Column
columns_rewritten t storages here = with_storages storages (columns_here here t)

abbrev pub values_of : (table : List ℕ) → Here → (id : ℤ) → List Value
values_of t here i = values_in (row_here here t i)

-- the refusal of the least id whose row is too big under the new storages
abbrev pub some_too_big : (table : List ℕ) → List Column → Here → List ℤ → Option Refusal
some_too_big t columns here ids = first_of (map (λ i. row_too_big columns (value_lengths (values_of t here i))) ids)

-- each row of the view is stored anew, by ascending id
abbrev pub puts_anew : (table : List ℕ) → List Column → Here → List ℤ → List Deed
puts_anew t columns here ids = map (λ i. put_anew here.clock t columns (values_of t here i)) ids

abbrev pub tables_rewritten : (table : List ℕ) → List Column → List Table → Option ℕ → List Table
tables_rewritten t columns tables None = tables
tables_rewritten t columns tables (Some n) = with_columns n columns tables

abbrev pub rewrite_row : (table : List ℕ) → (storages : List Column) → Here → Row
rewrite_row t storages here = record {
  refusals =
      no_table here t
      ∷ (storage_refusals 1 (columns_here here t) storages
      ++ some_too_big t (columns_rewritten t storages here) here (ids_in t here.view)
      ∷ busy_for here (RowsOf t)
      ∷ []);
  granted = record {
    reply = replies.Counted words.Rewrite (length (ids_in t here.view));
    deeds = puts_anew t (columns_rewritten t storages here) here (ids_in t here.view);
    tables = tables_rewritten t (columns_rewritten t storages here) here.tables (number_in t here.tables);
    cursors = here.cursors;
  };
}
